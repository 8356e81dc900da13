-- `segment::state::Row::ends` meets its contract. Assumes nothing.
use Rattle.segment.proofs.Rows.{last_ends, near_ends}
use Rattle.segment.proofs.state.Row.ends.Goals as goal

pub returns-then-self-state : goal.returns-then-self-state
returns-then-self-state c =
    let row = c.args.self in
    near_ends row.steppable row.divided c.if-self-state.true

pub returns-then-self-eq0 : goal.returns-then-self-eq0
returns-then-self-eq0 c =
    let row = c.args.self in
    last_ends row.steppable row.divided c.if-self-eq0.true
