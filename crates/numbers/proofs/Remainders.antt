-- Quotients and remainders: how large a quotient is, what a division makes of s + v·k, when two numbers leave the same remainder, and differences modulo a number.
-- Assumes nothing.
use mathlib.Core.Path.{◌≡◌, sym, ◌∙◌, subst}
use Prim.Native.Nat.{ℕ, zero, suc, ◌+◌, ◌*◌, ◌-◌, ◌/◌, ◌%◌, ◌≤◌, ◌<◌, ◌∣◌, min}
use native.Mathlib.Nat.{le-div_iff_mul-le, mul-div_cancel, mul-mod_left, div-add-mod', mul-le-mul_right, dvd-mul_left, dvd-sub, dvd_iff_mod-eq-zero, add-mod, add-mul-div_right, add-mul-mod_self_right, div-eq_of_lt, mod-mod, mod-eq_of_lt, mod-lt, mod-zero, add-zero, lt_of_not-le}
use native.Mathlib.Omega.{arith}
use lib.Arith.{mod-mul}
use Rattle.numbers.proofs.Congruences.{is_remainder}

-- a number is at least once in a number that is not smaller
pub quotient_positive : (t u : ℕ) → 0 < u → u ≤ t → 1 ≤ t / u
quotient_positive t u h l = (le-div_iff_mul-le h).1 (omega arith)

-- a proper divisor is at least twice in its multiple
pub quotient_two : (t u : ℕ) → 0 < u → u < t → t % u ≡ 0 → 2 ≤ t / u
quotient_two t u h l e =
    lt_of_not-le (λ k. omega (arith, div-add-mod' t u, mul-le-mul_right u k))

-- a number below k, and so many k: a division by k takes them apart
module _ {s : ℕ} (v : ℕ) {k : ℕ} (h : s < k) where
  pub quotient_of_sum : (s + v * k) / k ≡ v
  quotient_of_sum = add-mul-div_right s v (omega arith) ∙ omega (arith, div-eq_of_lt h)

  pub remainder_of_sum : (s + v * k) % k ≡ s
  remainder_of_sum = add-mul-mod_self_right s v k ∙ mod-eq_of_lt h

-- a common factor comes out of a remainder
pub scaled_remainder : (a b k : ℕ) → 0 < a → 0 < k → b * k % (a * k) ≡ b % a * k
scaled_remainder a b k h l = mod-mul (b * k) h l ∙ rw (mul-div_cancel b l, mul-mod_left b k) (add-zero (b % a * k))

-- a sum leaves the remainder of its first term exactly if the modulus divides the second
module _ (m n k : ℕ) where
  pub divides_if_same : (n + k) % m ≡ n % m → m ∣ k
  divides_if_same e =
      let d : (n + k) / m * m - n / m * m ≡ k = omega (arith, div-add-mod' (n + k) m, div-add-mod' n m) in
      subst (λ (x : ℕ). m ∣ x) d (dvd-sub m (dvd-mul_left m ((n + k) / m)) (dvd-mul_left m (n / m)))

  pub same_if_divides : m ∣ k → (n + k) % m ≡ n % m
  same_if_divides d =
      let z : k % m ≡ 0 = (dvd_iff_mod-eq-zero m).0 d in
      add-mod n k m ∙ rw (z, add-zero) (mod-mod n m)

-- n - k modulo m of any two numbers, by the remainder of n; where k is beyond m it counts as m
pub subtracted_within : (m n k : ℕ) {r s : ℕ} → r ≡ n % m → s ≡ min k m → s ≤ r
    → r - s ≡ (n + (m - k)) % m
subtracted_within zero n k e f h = omega (arith, mod-zero n, mod-zero (n + (0 - k)))
subtracted_within (suc m) n k e f h =
    let below : n % suc m < suc m = mod-lt n (omega arith) in
    is_remainder (omega arith)
    (record { over = n / suc m + 1; under = 0; equal = omega (arith, div-add-mod' n (suc m)) })

pub subtracted_around : (m n k : ℕ) {r s : ℕ} → r ≡ n % m → s ≡ min k m → r < s
    → m - (s - r) ≡ (n + (m - k)) % m
subtracted_around m n k e f h =
    is_remainder (omega arith)
    (record { over = n / m; under = 0; equal = omega (arith, div-add-mod' n m) })

-- and of two below m: the difference, or m less what k exceeds n by
module _ (m n k : ℕ) where
  pub difference_within : n < m → k ≤ n → n - k ≡ (n + (m - k)) % m
  difference_within l h = subtracted_within m n k (sym (mod-eq_of_lt l)) (omega arith) h

  pub difference_around : k < m → n < k → m - (k - n) ≡ (n + (m - k)) % m
  difference_around l h =
      let e : n % m ≡ n = mod-eq_of_lt (omega arith) in
      subtracted_around m n k (sym e) (omega arith) h
