-- `segment::state::Row::regular` meets its contract: the last row, and any other. Assumes nothing.
use Rattle.std.proofs.Common.{◌∙◌}
use Rattle.segment.proofs.Rows.{last_number, last_row_cutting, last_step, row_number}
use Rattle.segment.proofs.Rows.{row_cutting, row_step}
use Rattle.segment.proofs.state.Row.regular.Goals as goal

pub invariant_of-last : goal.invariant_of-last
invariant_of-last g c =
    let row = c.args.self in
    record {
      able = last_row_cutting row.steppable row.divided c.if-self-eq0.true;
      within_budget = row.steppable.row;
    }

pub advance_all-requires : goal.advance_all-requires
advance_all-requires g c =
    let row = c.args.self in
    last_number row.steppable row.divided c.if-self-eq0.true

pub returns-then-self-eq0 : goal.returns-then-self-eq0
returns-then-self-eq0 g c =
    let row = c.args.self in
    c.next_row.ensures
    ∙ last_step row.steppable row.divided c.if-self-eq0.true _ c.advance_all.ensures

pub invariant_of-all : goal.invariant_of-all
invariant_of-all g c =
    let row = c.args.self in
    record {
      able = row_cutting row.steppable row.divided c.if-self-eq0.false;
      within_budget = row.steppable.row;
    }

pub advance_all-requires-2 : goal.advance_all-requires-2
advance_all-requires-2 g c =
    let row = c.args.self in
    row_number row.steppable row.divided c.if-self-eq0.false

pub returns : goal.returns
returns g c =
    let row = c.args.self in
    c.next_row-2.ensures
    ∙ row_step row.steppable row.divided c.if-self-eq0.false _ c.advance_all-2.ensures
    c.reaches.ensures
