-- `domain::scan::Scan::list_hard` meets its contract. Assumes nothing.
use Rattle.std.proofs.Common.{refl, arith, ◌<◌}
use Rattle.domain.proofs.Scanning.{at_first, at_below, at_next, list_first, list_more, list_hit, list_miss, list_done}
use Rattle.domain.proofs.scan.Scan.list_hard.Goals as goal
use Rattle.domain.proofs.scan.Scan.list_hard.Goals.{then-value-arc, else-value-arc}

pub loop-at-init : goal.loop-at-init
loop-at-init c = list_first (at_first c.args.self.within.in_range c.remainder-second.ensures refl)

pub next-point-requires : goal.next-point-requires
next-point-requires c = at_below c.loop-at.invariant.point

pub invariant_of-lowered : goal.invariant_of-lowered
invariant_of-lowered c =
    let within = c.args.self.within in
    let point = c.loop-at.invariant.point in
    let next_below : c.next-point.result.value < within.arc.modulus =
    rw c.next-point.ensures (at_below (at_next point)).value_below in
    record {
      first_below = omega (arith, (at_below point).value_below, next_below);
      second_below = c.args.self.raise_below;
      modulus_high = within.in_range.unit_within.1;
    }

pub bounds-list-at : goal.bounds-list-at
bounds-list-at c = omega (arith, c.loop-at.invariant.arguments_column.writing.length_kept, c.loop-at-test.true, c.requires.list_room)

pub bounds-values-at : goal.bounds-values-at
bounds-values-at c = omega (arith, c.loop-at.invariant.values_column.writing.length_kept, c.loop-at-test.true, c.requires.values_room)

pub overflow_add-x : goal.overflow_add-x
overflow_add-x c =
    let i = c.loop-at.invariant in
    let more = list_more i _ c.requires.number_counted c.loop-at-test.true in
    record { fits = omega (arith, i.begun, more, c.args.self.end_bound) }

pub loop-at-smaller : goal.loop-at-smaller
loop-at-smaller c =
    let i = c.loop-at.invariant in
    let more = list_more i _ c.requires.number_counted c.loop-at-test.true in
    omega (arith, i.begun, more)

pub loop-at-preserved : goal.loop-at-preserved
loop-at-preserved c =
    let i = c.loop-at.invariant in
    let e = c.requires.number_counted in
    elim c.if-value-arc.branch [
      | then-value-arc w ↦
          rw (w.list-is, w.values-is, w.at-is, c.next-point.ensures)
          (list_hit i _ e c.loop-at-test.true w.if-value-arc.true
          (omega (arith, w.difference.ensures)))
      | else-value-arc w ↦ rw (w.list-is, w.values-is, w.at-is, c.next-point.ensures) (list_miss i _ e c.loop-at-test.true w.if-value-arc.false)
    ]

pub returns : goal.returns
returns c =
    let done = list_done c.loop-at.invariant _ c.requires.number_counted c.loop-at-test.false in
    record { list_after = done.0; values_after = done.1 }
