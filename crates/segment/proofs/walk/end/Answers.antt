-- `segment::walk::end` meets its contract: at the beginning, and after an even and an odd row of
-- each turn. Assumes nothing.
use Rattle.std.proofs.Common.{sym, ◌∙◌}
use Rattle.segment.specs.Walk.{after}
use Rattle.segment.proofs.Walks.{ends, row_able, even_taken, even_goes_on, odd_taken}
use Rattle.segment.proofs.walk.end.Goals as goal

pub returns-then-is_done : goal.returns-then-is_done
unfolding after
returns-then-is_done g c =
    ends c.requires 0 c.first-state.ensures (sym c.is_done.ensures ∙ c.if-is_done.true)

pub loop-init : goal.loop-init
unfolding after
loop-init g c =
    record {
      is = c.first-state.ensures;
      on = sym c.is_done.ensures ∙ c.if-is_done.false;
    }

pub even_row-state-requires : goal.even_row-state-requires
even_row-state-requires g c = row_able c.requires c.loop.invariant

pub returns-then-is_done-2 : goal.returns-then-is_done-2
returns-then-is_done-2 g c =
    ends c.requires _ (even_taken c.loop.counter c.loop.invariant c.even_row-state.ensures)
    (sym c.is_done-in-loop.ensures ∙ c.if-is_done-2.true)

pub odd_row-state-requires : goal.odd_row-state-requires
odd_row-state-requires g c =
    row_able c.requires
    (even_goes_on c.loop.counter c.loop.invariant c.even_row-state.ensures c.is_done-in-loop.ensures
    c.if-is_done-2.false)

pub returns-then-is_done-3 : goal.returns-then-is_done-3
returns-then-is_done-3 g c =
    ends c.requires _
    (odd_taken c.loop.counter
    (even_goes_on c.loop.counter c.loop.invariant c.even_row-state.ensures c.is_done-in-loop.ensures
    c.if-is_done-2.false) c.odd_row-state.ensures)
    (sym c.is_done-in-loop-2.ensures ∙ c.if-is_done-3.true)

pub loop-preserved : goal.loop-preserved
loop-preserved g c =
    record {
      is =
          odd_taken c.loop.counter
          (even_goes_on c.loop.counter c.loop.invariant c.even_row-state.ensures
          c.is_done-in-loop.ensures c.if-is_done-2.false) c.odd_row-state.ensures;
      on = sym c.is_done-in-loop-2.ensures ∙ c.if-is_done-3.false;
    }
