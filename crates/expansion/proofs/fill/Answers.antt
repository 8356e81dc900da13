-- `expansion::fill` meets its contract. Assumes nothing.
use native.Mathlib.Nat.{mod-lt}
use native.Mathlib.Omega.{arith}
use Rattle.expansion.proofs.Recurrences.{kept_next, within}
use Rattle.expansion.proofs.Filling.{start, write_row, write_last}
use Rattle.expansion.proofs.fill.Goals as goal

pub loop-remainder-init : goal.loop-remainder-init
loop-remainder-init c = start c.requires.0 c.requires.1

pub overflow_mul-next : goal.overflow_mul-next
overflow_mul-next c =
    let h = within (kept_next c.loop-remainder.invariant.kept (omega (arith, c.loop-remainder-test.true))) in omega arith

pub overflow_add-next : goal.overflow_add-next
overflow_add-next c =
    let h = within (kept_next c.loop-remainder.invariant.kept (omega (arith, c.loop-remainder-test.true))) in omega arith

pub loop-remainder-smaller : goal.loop-remainder-smaller
loop-remainder-smaller c = mod-lt c.loop-remainder.before (omega (arith, c.loop-remainder-test.true))

pub loop-remainder-preserved : goal.loop-remainder-preserved
loop-remainder-preserved c = write_row c.loop-remainder.invariant (omega (arith, c.loop-remainder-test.true))

pub returns : goal.returns
returns c = write_last c.loop-remainder.invariant c.loop-remainder-test.false
