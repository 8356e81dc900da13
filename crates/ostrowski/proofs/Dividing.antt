-- The loop of `divide`: at each row it stands in a partial division, and every number fits. What is
-- answered at its end. Assumes nothing.
use Rattle.std.proofs.Common.{◌≡◌, ℕ, suc, ◌+◌, ◌-◌, ◌*◌, ◌/◌, ◌%◌, ◌^◌, ◌≤◌, ◌<◌, Bool, true, false, not, Ok, Err, refl, sym, ap, ◌∙◌, arith}
use Rattle.std.specs.Int.{◌∣◌}
use native.Mathlib.Nat.{pos_of_ne-zero, mod-lt, mod-eq-zero_of_dvd, dvd_of_mod-eq-zero}
use Rattle.numbers.specs.Divisors.{gcd}
use Rattle.numbers.specs.Parity.{is_odd}
use Rattle.numbers.specs.declared.refusals.Refusal.TheVariants.{Target}
use Rattle.expansion.specs.Rows.{period}
use Rattle.expansion.proofs.Promises as expansion
use Rattle.ostrowski.specs.Answer.{divide_answer}
use Rattle.ostrowski.proofs.Division.{PartialDivision, difference_of_sums, start, next, next_below, period_is, end_below, period_positive, even_solves, odd_solves, rest_is}
use Rattle.ostrowski.proofs.Refusals.{Accepted, last_refused}
use Rattle.ostrowski.proofs.Answers.{divide_answer_correct}

-- at a row, even or odd
pub record Dividing (M a t b u p q rest same other : ℕ) (odd : Bool) : Type 0 where
  pub accepted : Accepted M a
  pub target : t < M
  pub row : ℕ
  pub parity : odd ≡ is_odd row
  pub taken : PartialDivision M a t row b u p q rest same other

pub dividing_first : {M a t : ℕ} → Accepted M a → t < M → Dividing M a t M a 0 1 t 0 0 false
dividing_first {t = t} h l =
    record {
      accepted = h;
      target = l;
      row = 0;
      parity = refl;
      taken = start h.small t l;
    }

-- a target that is not below the modulus, or no multiple
target_refused : {M a t : ℕ} → Accepted M a → ((t < M) × (gcd a M ∣ t) → ⊥)
    → Err Target ≡ divide_answer M a t
target_refused {M} {a} {t} h n =
    sym (((divide_answer_correct M a t).refused Target).1 (last_refused h n))

pub above : {M a t : ℕ} → Accepted M a → M ≤ t → Err Target ≡ divide_answer M a t
above h l = target_refused h (λ p. omega arith)

module _ {M a t b u p q rest same other : ℕ} {odd : Bool}
    (d : Dividing M a t b u p q rest same other odd) where
  small : a < M
  small = d.accepted.small

  -- this row's denominator
  within : q ≤ M
  within =
      let w = d.taken.drawn in
      let h = ((expansion.promised).bounded M a small).denominator_within d.row w.there in
      omega (arith, w.denominator_is)

  module _ (some : u ≡ 0 → ⊥) where
    positive : 0 < u
    positive = pos_of_ne-zero some

    pub dividing_next : Dividing M a t u (b % u) q (p + b / u * q) (rest % u) other
        (same + rest / u * q) (not odd)
    dividing_next =
        record {
          accepted = d.accepted;
          target = d.target;
          row = suc d.row;
          parity = ap not d.parity;
          taken = next small d.taken positive;
        }

  -- at the end of the loop
  module _ (z : u ≡ 0) where
    end : q ≡ period M a
    end = period_is small d.taken z

    -- what the difference of the sums asks for
    pub sums_allowed : (M ≤ 2 ^ 62) × (q ≤ M) × (0 < q) × (same + other < 2 * q)
    sums_allowed =
        omega (arith, end, d.accepted, within, period_positive small, end_below small d.taken z)

    rest_left : rest ≡ t % gcd a M
    rest_left = rest_is small d.taken z d.target

    -- something is left: the target is no multiple
    pub no_multiple : (rest ≡ 0 → ⊥) → Err Target ≡ divide_answer M a t
    no_multiple n =
        target_refused d.accepted (λ h. n (rest_left ∙ mod-eq-zero_of_dvd (gcd a M) h.1))

    module _ (none : rest ≡ 0) where
      answered : (x : ℕ) → x < period M a → a * x % M ≡ t - rest → Ok x ≡ divide_answer M a t
      answered x l e =
          let multiple = dvd_of_mod-eq-zero (gcd a M) (sym rest_left ∙ none) in
          let h = d.accepted in
          sym (((divide_answer_correct M a t).found x).1
          (((h.low, h.most), (small, ((d.target, multiple), tt))), (l, e ∙ omega (arith, none))))

      pub even_answer : odd ≡ false → Ok (difference_of_sums q same other) ≡ divide_answer M a t
      even_answer e =
          rw end
          (answered _ (mod-lt _ (period_positive small))
          (even_solves small d.taken z d.target (sym d.parity ∙ e)))

      pub odd_answer : odd ≡ true → Ok (difference_of_sums q other same) ≡ divide_answer M a t
      odd_answer e =
          rw end
          (answered _ (mod-lt _ (period_positive small))
          (odd_solves small d.taken z d.target (sym d.parity ∙ e)))

-- the next denominator, and the sum: less than this denominator and the next together
module _ {M a t b u p q rest same other : ℕ} {odd : Bool}
    (d : Dividing M a t b u p q rest same other odd) (some : u ≡ 0 → ⊥) where
  pub next_fits : p + b / u * q ≤ 2 ^ 62
  next_fits = omega (arith, d.accepted, within (dividing_next d some))

  pub sum_fits : same + rest / u * q < 2 ^ 63
  sum_fits =
      let below = next_below (small d) d.taken (positive d some) in
      omega (arith, d.accepted, within d, next_fits)
