-- `domain::scan::Scan::count_hard` meets its contract. Assumes nothing.
use Rattle.std.proofs.Common.{refl, arith}
use Rattle.parabola.proofs.Laws.{positive}
use Rattle.domain.proofs.Scanning.{at_first, at_below, count_all, count_first, count_next, count_done}
use Rattle.domain.proofs.scan.Scan.count_hard.Goals as goal

pub overflow_sub-arc : goal.overflow_sub-arc
overflow_sub-arc c = positive c.args.self.within.in_range

pub returns-then-arc : goal.returns-then-arc
returns-then-arc c = count_all c.args.self.within.in_range refl c.if-arc.true

pub loop-x-init : goal.loop-x-init
loop-x-init c = count_first (at_first c.args.self.within.in_range c.remainder-second.ensures refl)

pub overflow_add-number : goal.overflow_add-number
overflow_add-number c =
    let n = count_next c.loop-x.invariant c.loop-x-test.true in
    record { fits = omega (arith, n.few, n.within, n.at.in_range.count_high) }

pub next-point-requires : goal.next-point-requires
next-point-requires c = at_below c.loop-x.invariant.at

pub loop-x-preserved : goal.loop-x-preserved
loop-x-preserved c = rw c.next-point.ensures (count_next c.loop-x.invariant c.loop-x-test.true)

pub returns : goal.returns
returns c = count_done c.loop-x.invariant c.loop-x-test.false
