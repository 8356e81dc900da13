-- `segment::state::Row::fine` meets its contract: the row that ends the search, and any other.
-- Assumes nothing.
use Rattle.std.proofs.Common.{◌∙◌}
use Rattle.segment.proofs.Advancing.{last_cutting}
use Rattle.segment.proofs.Rows.{end_step, on_number, on_cutting, on_step}
use Rattle.segment.proofs.state.Row.fine.Goals as goal

pub invariant_of-last : goal.invariant_of-last
invariant_of-last g c =
    let row = c.args.self in
    record {
      able = last_cutting row.steppable c.last_cuts.ensures;
      within_budget = row.steppable.row;
    }

pub returns-then-ends : goal.returns-then-ends
returns-then-ends g c =
    c.finish.ensures
    ∙ end_step _ _ _ c.ends.ensures c.if-ends.true c.args.self.divided c.last_cuts.ensures
    c.advance.ensures

pub invariant_of-all : goal.invariant_of-all
invariant_of-all g c =
    let row = c.args.self in
    record {
      able = on_cutting row.steppable row.divided c.ends.ensures c.if-ends.false;
      within_budget = row.steppable.row;
    }

pub advance_all-requires : goal.advance_all-requires
advance_all-requires g c =
    let row = c.args.self in
    on_number row.steppable row.divided c.ends.ensures c.if-ends.false

pub returns : goal.returns
returns g c =
    let row = c.args.self in
    c.next_row.ensures
    ∙ on_step row.steppable row.divided c.ends.ensures c.if-ends.false _ c.advance_all.ensures
