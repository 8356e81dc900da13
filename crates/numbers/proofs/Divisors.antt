-- Euclid's algorithm gives the greatest common divisor, takes out common factors, and says when a modulus divides a product.
-- Assumes nothing.
use mathlib.Core.Path.{◌≡◌, refl, sym, ◌∙◌, ap, subst}
use Prim.Native.Nat.{ℕ, zero, suc, ◌*◌, ◌%◌, ◌≤◌, ◌<◌, ◌∣◌}
use native.Mathlib.Nat.{mod-lt, dvd_refl, dvd-zero, dvd-mod_iff, dvd-mul_right, mul-zero, zero-mul, not-suc-le-zero}
use native.Mathlib.Omega.{arith}
use Rattle.numbers.specs.Divisors.{gcd_from, gcd}
use Rattle.numbers.specs.Promise.{GreatestCommonDivisor}
use Rattle.numbers.proofs.Remainders.{scaled_remainder}

-- more fuel changes nothing
enough : (n k a b : ℕ) → a ≤ n → a ≤ k → gcd_from n a b ≡ gcd_from k a b
unfolding gcd_from
enough zero zero a b h l = refl
enough zero (suc k) zero b h l = refl
enough zero (suc k) (suc a) b h l = absurd (not-suc-le-zero h)
enough (suc n) zero zero b h l = refl
enough (suc n) zero (suc a) b h l = absurd (not-suc-le-zero l)
enough (suc n) (suc k) zero b h l = refl
enough (suc n) (suc k) (suc a) b h l =
    let r : b % suc a < suc a = mod-lt b (omega arith) in
    enough n k (b % suc a) (suc a) (omega arith) (omega arith)

pub gcd_zero : (b : ℕ) → gcd 0 b ≡ b
unfolding gcd gcd_from
gcd_zero b = refl

-- a step of Euclid's algorithm
pub gcd_step : (a b : ℕ) → 0 < a → gcd a b ≡ gcd (b % a) a
unfolding gcd gcd_from
gcd_step zero b h = absurd (not-suc-le-zero h)
gcd_step (suc a) b h =
    let r : b % suc a < suc a = mod-lt b h in
    enough a (b % suc a) (b % suc a) (suc a) (omega arith) (omega arith)

-- what holds of 0 and every number, and at (a, b) if at (b mod a, a), holds of every two numbers
euclid : (P : ℕ → ℕ → Type 0) → ((b : ℕ) → P 0 b) → ((a b : ℕ) → 0 < a → P (b % a) a → P a b) → (a b : ℕ) → P a b
euclid P base step a b = go a a b (omega arith)
  where
    go : (n a b : ℕ) → a ≤ n → P a b
    go zero zero b h = base b
    go zero (suc a) b h = absurd (not-suc-le-zero h)
    go (suc n) zero b h = base b
    go (suc n) (suc a) b h =
        let r : b % suc a < suc a = mod-lt b (omega arith) in
        step (suc a) b (omega arith) (go n (b % suc a) (suc a) (omega arith))

pub gcd_correct : (a b : ℕ) → GreatestCommonDivisor a b (gcd a b)
gcd_correct =
    euclid (λ a b. GreatestCommonDivisor a b (gcd a b))
    (λ b. rw gcd_zero (record { divides_first = dvd-zero b; divides_second = dvd_refl b; greatest = λ d i j. j }))
    (λ a b h g. rw (gcd_step a b h)
    (record {
      divides_first = g.divides_second;
      divides_second = (dvd-mod_iff (gcd (b % a) a) g.divides_second).0 g.divides_first;
      greatest = λ d i j. g.greatest d ((dvd-mod_iff d i).1 j) i;
    }))

-- a common factor comes out
gcd_scaled : (a b k : ℕ) → gcd (a * k) (b * k) ≡ gcd a b * k
gcd_scaled a b zero = rw (mul-zero a, mul-zero b, mul-zero (gcd a b)) (gcd_zero 0)
gcd_scaled a b (suc k) =
    euclid (λ a b. gcd (a * suc k) (b * suc k) ≡ gcd a b * suc k)
    (λ b. rw (zero-mul (suc k), gcd_zero, gcd_zero))
    (λ a b h e.
    gcd_step (a * suc k) (b * suc k) (omega arith)
    ∙ rw (scaled_remainder a b (suc k) h (omega arith)) (e ∙ ap (λ (g : ℕ). g * suc k) (sym (gcd_step a b h))))
    a b

-- what divides a product divides its product with the greatest common divisor
pub divides_scaled : (m a y : ℕ) → m ∣ a * y → m ∣ gcd a m * y
divides_scaled m a y d = subst (λ (g : ℕ). m ∣ g) (gcd_scaled a m y) ((gcd_correct (a * y) (m * y)).greatest m d (dvd-mul_right m y))
