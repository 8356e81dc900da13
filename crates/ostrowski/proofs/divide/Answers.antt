-- `ostrowski::divide` meets its contract: a refusal, or the difference of the two sums. Assumes
-- nothing.
use Rattle.std.proofs.Common.{sym, rules, arith}
use Rattle.numbers.proofs.Outcomes.{tested_accepted}
use Rattle.ostrowski.specs.Answer.{divide_answer}
use Rattle.ostrowski.proofs.Refusals.{target_first, accepts_both}
use Rattle.ostrowski.proofs.Dividing.{dividing_first, above, dividing_next, next_fits, sum_fits, sums_allowed, no_multiple, even_answer, odd_answer}
use Rattle.ostrowski.proofs.divide.Goals as goal
use Rattle.ostrowski.proofs.divide.Goals.{then-is_odd, else-is_odd}

pub returns-in_err-refuse : goal.returns-in_err-refuse
unfolding divide_answer
returns-in_err-refuse c = search (rules, target_first)

pub returns-then-modulus-target : goal.returns-then-modulus-target
returns-then-modulus-target c =
    above (accepts_both (tested_accepted _ (sym c.in_ok-refuse.ensures))) c.if-modulus-target.true

pub loop-remainder-init : goal.loop-remainder-init
loop-remainder-init c =
    let h = accepts_both (tested_accepted _ (sym c.in_ok-refuse.ensures)) in
    dividing_first h c.if-modulus-target.false

pub overflow_mul-next : goal.overflow_mul-next
overflow_mul-next c =
    let h = next_fits c.loop-remainder.invariant c.loop-remainder-test.true in omega arith

pub overflow_add-next : goal.overflow_add-next
overflow_add-next c =
    let h = next_fits c.loop-remainder.invariant c.loop-remainder-test.true in omega arith

pub overflow_mul-joined : goal.overflow_mul-joined
overflow_mul-joined c =
    let h = sum_fits c.loop-remainder.invariant c.loop-remainder-test.true in omega arith

pub overflow_add-joined : goal.overflow_add-joined
overflow_add-joined c =
    let h = sum_fits c.loop-remainder.invariant c.loop-remainder-test.true in omega arith

pub loop-remainder-preserved : goal.loop-remainder-preserved
loop-remainder-preserved c = dividing_next c.loop-remainder.invariant c.loop-remainder-test.true

pub returns-then-rest-ne0 : goal.returns-then-rest-ne0
returns-then-rest-ne0 c =
    no_multiple c.loop-remainder.invariant c.loop-remainder-test.false c.if-rest-ne0.true

pub subtract_sums-requires : goal.subtract_sums-requires
subtract_sums-requires c =
    let h = sums_allowed c.loop-remainder.invariant c.loop-remainder-test.false in
    elim c.if-is_odd.branch [
      | then-is_odd w ↦ rw w.from-is (omega (arith, h))
      | else-is_odd w ↦ rw w.from-is (omega (arith, h))
    ]

pub returns : goal.returns
returns c =
    let i = c.loop-remainder.invariant in
    let z = c.loop-remainder-test.false in
    rw c.subtract_sums.ensures
    (elim c.if-is_odd.branch [
      | then-is_odd w ↦ rw w.from-is (odd_answer i z c.if-rest-ne0.false w.if-is_odd.true)
      | else-is_odd w ↦ rw w.from-is (even_answer i z c.if-rest-ne0.false w.if-is_odd.false)
    ])
