-- `domain::scan::Scan::examine_parts` meets its contract. Assumes nothing.
use Rattle.std.proofs.Common.{arith}
use Rattle.parabola.proofs.Laws.{list_most}
use Rattle.domain.proofs.Parts.{examine_first, examine_next, examine_done}
use Rattle.domain.proofs.scan.Scan.examine_parts.Goals as goal

pub loop-i-init : goal.loop-i-init
loop-i-init c = examine_first c.args.self.within.in_range

pub overflow_add-total : goal.overflow_add-total
overflow_add-total c =
    let n = examine_next c.loop-i.invariant c.loop-i-test.true c.examine_part-examined.ensures in
    record { fits = omega (arith, n.to_come, list_most c.args.self.within.in_range) }

pub loop-i-preserved : goal.loop-i-preserved
loop-i-preserved c = examine_next c.loop-i.invariant c.loop-i-test.true c.examine_part-examined.ensures

pub returns : goal.returns
returns c = examine_done c.loop-i.invariant c.loop-i-test.false
