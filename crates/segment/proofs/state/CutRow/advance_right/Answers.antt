-- `segment::state::CutRow::advance_right` meets its contract. Assumes nothing.
use Rattle.std.proofs.Common.{rules}
use Rattle.segment.proofs.Advancing.{short_gap, left_alone, moved}
use Rattle.segment.proofs.state.CutRow.advance_right.Goals as goal

pub returns-then-state : goal.returns-then-state
returns-then-state c = rw c.nearest.ensures (search (short_gap, rules))

pub returns-then-state-self : goal.returns-then-state-self
returns-then-state-self c =
    rw c.nearest-then-state-self.ensures
    (left_alone _ _ c.args.self.able.rest_is c.if-state-self.true)

pub returns : goal.returns
returns c =
    rw c.highest_cut-advanced.ensures
    (moved _ _ (search rules) c.args.self.able.rest_is c.if-state-self.false)
