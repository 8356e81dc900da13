-- `domain::scan::list_all` meets its contract. Assumes nothing.
use Rattle.std.proofs.Common.{refl, arith}
use Rattle.domain.proofs.Scanning.{at_first, at_below, full_first, full_next, full_done, full_values_next}
use Rattle.domain.proofs.scan.list_all.Goals as goal

pub loop-x-init : goal.loop-x-init
loop-x-init c = full_first c.requires.all_hard

pub bounds-list-x : goal.bounds-list-x
bounds-list-x c = omega (arith, c.loop-x-test.true, c.loop-x.invariant.column.writing.length_kept, c.requires.list_room)

pub loop-x-preserved : goal.loop-x-preserved
loop-x-preserved c = full_next c.loop-x.invariant c.loop-x-test.true (omega arith)

pub loop-x-2-init : goal.loop-x-2-init
loop-x-2-init c = record { values_column = full_first c.requires.all_hard; point = at_first c.args.within.in_range c.remainder-second.ensures refl }

pub bounds-values-x : goal.bounds-values-x
bounds-values-x c = omega (arith, c.loop-x-2-test.true, c.loop-x-2.invariant.values_column.column.writing.length_kept, c.requires.values_room)

pub next-point-requires : goal.next-point-requires
next-point-requires c = at_below c.loop-x-2.invariant.point

pub loop-x-2-preserved : goal.loop-x-2-preserved
loop-x-2-preserved c = rw c.next-point.ensures (full_values_next c.loop-x-2.invariant c.loop-x-2-test.true)

pub returns : goal.returns
returns c =
    record {
      list_after = full_done c.loop-x.invariant c.loop-x-test.false;
      values_after = full_done c.loop-x-2.invariant.values_column c.loop-x-2-test.false;
    }
