-- Products modulo M by doubling. Assumes nothing.
use mathlib.Core.Path.{◌≡◌, sym, ap}
use Prim.Native.Nat.{ℕ, zero, suc, ◌+◌, ◌*◌, ◌/◌, ◌%◌, ◌^◌, ◌≤◌, ◌<◌}
use native.Mathlib.Nat.{mod-lt, div-add-mod', mul-zero, add-zero, zero-add}
use native.Mathlib.Omega.{arith}
use Rattle.numbers.proofs.Congruences.{Congruent, equals, chain, plus, times, remainder, is_remainder}

-- what has been added up and what is still to be doubled make up the product
pub record Multiplying (M a number sum double left : ℕ) : Type 0 where
  pub high : M ≤ 2 ^ 62
  pub sum_below : sum < M
  pub double_below : double < M
  pub product : Congruent M (sum + double * left) (a * number)

pub first_digit : {M : ℕ} (a number : ℕ) → M ≤ 2 ^ 62 → a < M → Multiplying M a number 0 a number
first_digit a number high h = record { high = high; sum_below = omega arith; double_below = h; product = equals (zero-add (a * number)) }

module _ {M a number sum double left : ℕ} (m : Multiplying M a number sum double left) where
  positive : 0 < M
  positive = omega (arith, m.sum_below)

  -- a digit is 0 or 1
  pub digit_below : double * (left % 2) < M
  digit_below = by (left % 2) (mod-lt left (omega arith))
    where
      by : (b : ℕ) → b < 2 → double * b < M
      by zero h = omega (arith, m.sum_below)
      by (suc zero) h = omega (arith, m.double_below)
      by (suc (suc b)) h = absurd (omega arith)

  pub next_digit : Multiplying M a number ((sum + double * (left % 2)) % M) ((double + double) % M) (left / 2)
  next_digit =
      record {
        high = m.high;
        sum_below = mod-lt (sum + double * (left % 2)) positive;
        double_below = mod-lt (double + double) positive;
        product =
            chain (plus (remainder (sum + double * (left % 2)) M) (times (left / 2) (remainder (double + double) M)))
            (chain (equals (omega (arith, ap (λ (n : ℕ). double * n) (div-add-mod' left 2)))) m.product);
      }

  pub no_digit : left ≤ 0 → sum ≡ a * number % M
  no_digit h =
      let z : left ≡ 0 = omega arith in
      let e : sum + double * left ≡ sum = rw (z, mul-zero) (add-zero sum) in
      is_remainder m.sum_below (chain (equals (sym e)) m.product)
