-- `arc::values::times` meets its contract. Assumes nothing.
use Rattle.std.proofs.Common.{arith}
use native.Mathlib.Nat.{div-add-mod'}
use Rattle.arc.proofs.Products.{first_digit, digit_below, next_digit, no_digit}
use Rattle.arc.proofs.values.times.Goals as goal

pub loop-left-init : goal.loop-left-init
loop-left-init c = first_digit _ _ c.requires.1 c.requires.0

pub overflow_mul-more : goal.overflow_mul-more
overflow_mul-more c =
    let m = c.loop-left.invariant in record { fits = omega (arith, digit_below m, m.high) }

pub invariant_of-more : goal.invariant_of-more
invariant_of-more c =
    let m = c.loop-left.invariant in
    record { first_below = m.sum_below; second_below = digit_below m; modulus_high = m.high }

pub invariant_of-twice : goal.invariant_of-twice
invariant_of-twice c =
    let m = c.loop-left.invariant in
    record { first_below = m.double_below; second_below = m.double_below; modulus_high = m.high }

pub loop-left-smaller : goal.loop-left-smaller
loop-left-smaller c = omega (arith, c.loop-left-test.true, div-add-mod' c.loop-left.left 2)

pub loop-left-preserved : goal.loop-left-preserved
loop-left-preserved c =
    rw (c.sum-double.ensures, c.sum-sum.ensures) (next_digit c.loop-left.invariant)

pub returns : goal.returns
returns c = no_digit c.loop-left.invariant c.loop-left-test.false
