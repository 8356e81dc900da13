-- The last denominator is M / gcd(a, M), and two multiples of a agree modulo M exactly if the last denominator divides their distance:
-- the record `PeriodCorrect` of specs/Promise.antt. Assumes nothing.
use mathlib.Core.Path.{◌≡◌, refl, sym, ◌∙◌, ap}
use mathlib.Core.Logic.{◌↔◌}
use Prim.Native.Nat.{ℕ, ◌+◌, ◌*◌, ◌%◌, ◌<◌, ◌∣◌}
use native.Mathlib.Nat.{div-eq_of_eq-mul_left, dvd_of_mul-dvd-mul_left, pos_of_dvd_of_pos, mul-dvd-mul, mul-add, mul_comm, dvd_refl, le_of_dvd}
use native.Mathlib.Omega.{arith}
use Rattle.numbers.specs.Divisors.{gcd}
use Rattle.numbers.proofs.Remainders.{divides_if_same, same_if_divides}
use Rattle.numbers.proofs.Divisors.{gcd_zero, gcd_step, gcd_correct, divides_scaled}
use Rattle.expansion.specs.Rows.{last, remainder_at, denominator_at, remainder_before, denominator_before, period}
use Rattle.expansion.specs.Promise.{PeriodCorrect}
use Rattle.expansion.proofs.Unrolling.{expansion_unrolled, at_each}
use Rattle.expansion.proofs.RowLaws.{last_index, kept, rows_correct}

module _ (M a : ℕ) (small : a < M) where
  gcd_positive : 0 < gcd a M
  gcd_positive = pos_of_dvd_of_pos (gcd_correct a M).divides_second (omega arith)

  -- every row keeps the divisors of a and M, so that the last one, which has the remainder 0, has them before it
  last_divisor : remainder_before M a (last M a) ≡ gcd a M
  unfolding remainder_before remainder_at
  last_divisor =
      let g =
      at_each (λ t u p q. gcd u t ≡ gcd a M) (λ t u p q h e. sym (gcd_step u t h) ∙ e) (expansion_unrolled M a) refl (last M a) (omega (arith, last_index M a)) in
      sym (gcd_zero (remainder_before M a (last M a))) ∙ (rw (rows_correct M a small).last_remainder at g)

  period_gcd : period M a * gcd a M ≡ M
  unfolding period
  period_gcd =
      omega (
        arith,
        (kept M a small (last M a) (omega arith)).whole,
        ap (λ (n : ℕ). denominator_at M a (last M a) * n) last_divisor,
        ap (λ (n : ℕ). denominator_before M a (last M a) * n) (rows_correct M a small).last_remainder,
      )

  modulus_is : gcd a M * period M a ≡ M
  modulus_is = mul_comm (gcd a M) (period M a) ∙ period_gcd

  -- multiples of a agree modulo M exactly where the period divides the distance
  agree : (x y : ℕ) → (a * (x + y) % M ≡ a * x % M) ↔ (period M a ∣ y)
  agree x y = (
    λ e. dvd_of_mul-dvd-mul_left (period M a) gcd_positive (rw modulus_is (divides_scaled M a y (divides_if_same M (a * x) (a * y) (rw mul-add at e)))),
    λ d. rw mul-add (same_if_divides M (a * x) (a * y) (rw modulus_is at (mul-dvd-mul (gcd a M) (period M a) (gcd_correct a M).divides_first d))),
  )

  pub period_correct : PeriodCorrect M a
  unfolding period
  period_correct =
      record {
        last_denominator = refl;
        positive = (kept M a small (last M a) (omega arith)).some;
        divisor = gcd_correct a M;
        divisor_of_zero = gcd_zero M;
        by_divisor = sym (div-eq_of_eq-mul_left gcd_positive (sym period_gcd));
        exact = period_gcd;
        last_divisor = last_divisor;
        repeats = λ x. (agree x (period M a)).1 (dvd_refl (period M a));
        agree = agree;
        not_before = λ x y h l e. omega (arith, le_of_dvd h ((agree x y).0 e));
      }
