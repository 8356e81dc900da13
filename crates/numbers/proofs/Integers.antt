-- Integers as differences of two numbers, which sums, differences and products keep; and the remainder of an integer by what it is congruent to.
-- Assumes nothing.
use mathlib.Core.Path.{◌≡◌, refl, ap}
use mathlib.Core.Bool.{true, false, cond}
use mathlib.Core.Logic.{◌↔◌}
use Prim.Native.Nat.{ℕ, zero, suc, ◌+◌, ◌-◌, ◌*◌, ◌/◌, ◌%◌, ◌<◌}
use native.Mathlib.Nat.{mod-lt, div-add-mod'}
use native.Mathlib.Omega.{arith}
use lib.Dec.{ltb}
use lib.IntN.{ℤ, pos, negsuc, neg_ℤ, nat_abs, sub_ℕ, ◌+ℤ◌, ◌-ℤ◌, ◌*ℤ◌}
use borrow.Author.Tests.{ltb-true, ltb-false}
use Rattle.numbers.specs.Integers.{◌modulo◌}
use Rattle.numbers.proofs.Congruences.{Congruent, equals, flip, chain, plus, cancel, none, remainder, same}

-- what an integer adds, and what it takes away: one of them is 0
abbrev pub gain : ℤ → ℕ
gain (pos n) = n
gain (negsuc n) = 0

abbrev pub loss : ℤ → ℕ
loss (pos n) = 0
loss (negsuc n) = suc n

-- z = a - b
pub record Difference (z : ℤ) (a b : ℕ) : Type 0 where
  pub balance : gain z + b ≡ a + loss z

-- an integer is what it adds less what it takes away
pub split : (z : ℤ) → Difference z (gain z) (loss z)
split z = record { balance = refl }

pub number : (n : ℕ) → Difference (pos n) n 0
number n = record { balance = refl }

-- a - b
pub difference : (a b : ℕ) → Difference (sub_ℕ a b) a b
difference a b =
    (elim (ltb a b) as (λ t. ltb a b ≡ t → Difference (cond t (negsuc (b - suc a)) (pos (a - b))) a b)
    [ true ↦ λ e. record { balance = omega (arith, ltb-true a b e) } | false ↦ λ e. record { balance = omega (arith, ltb-false a b e) } ]) refl

-- z + w = (a + c) - (b + d)
pub sum : {z w : ℤ} {a b c d : ℕ} → Difference z a b → Difference w c d → Difference (z +ℤ w) (a + c) (b + d)
sum {z = pos m} {w = pos n} p q = record { balance = omega (arith, p.balance, q.balance) }
sum {z = pos m} {w = negsuc n} p q = record { balance = omega (arith, p.balance, q.balance, (difference m (suc n)).balance) }
sum {z = negsuc m} {w = pos n} p q = record { balance = omega (arith, p.balance, q.balance, (difference n (suc m)).balance) }
sum {z = negsuc m} {w = negsuc n} p q = record { balance = omega (arith, p.balance, q.balance) }

-- -n
pub negated : (n : ℕ) → Difference (neg_ℤ (pos n)) 0 n
negated zero = record { balance = refl }
negated (suc n) = record { balance = refl }

-- -z = b - a
opposite : {z : ℤ} {a b : ℕ} → Difference z a b → Difference (neg_ℤ z) b a
opposite {z = pos n} p = record { balance = omega (arith, p.balance, (negated n).balance) }
opposite {z = negsuc n} p = record { balance = omega (arith, p.balance) }

-- z - w = (a + d) - (b + c)
pub minus : {z w : ℤ} {a b c d : ℕ} → Difference z a b → Difference w c d → Difference (z -ℤ w) (a + d) (b + c)
minus p q = sum p (opposite q)

-- s·y
pub product : (s : ℤ) (y : ℕ) → Difference (s *ℤ pos y) (gain s * y) (loss s * y)
product (pos n) y = record { balance = omega arith }
product (negsuc n) y = record { balance = omega (arith, (negated (suc n * y)).balance) }

-- z·y
pub scaled : {z : ℤ} {a b : ℕ} (y : ℕ) → Difference z a b → Difference (z *ℤ pos y) (a * y) (b * y)
scaled {z} {a} {b} y p =
    record { balance = omega (arith, (product z y).balance, ap (λ (n : ℕ). n * y) p.balance) }

-- equal integers are equal differences
pub balanced : {z w : ℤ} {a b c d : ℕ} → z ≡ w → Difference z a b → Difference w c d → a + d ≡ c + b
balanced {z} {w} e p q = omega (arith, p.balance, q.balance, ap gain e, ap loss e)

-- equal differences are of equal integers
pub same_integer : {z w : ℤ} {a b c d : ℕ} → Difference z a b → Difference w c d → a + d ≡ c + b → z ≡ w
same_integer {z = pos m} {w = pos n} p q e = ap pos (omega (arith, p.balance, q.balance))
same_integer {z = pos m} {w = negsuc n} p q e = absurd (omega (arith, e, p.balance, q.balance))
same_integer {z = negsuc m} {w = pos n} p q e = absurd (omega (arith, e, p.balance, q.balance))
same_integer {z = negsuc m} {w = negsuc n} p q e = ap negsuc (omega (arith, p.balance, q.balance))

-- an integer's size is what it adds and what it takes away
pub size_is : (z : ℤ) → nat_abs z ≡ gain z + loss z
size_is (pos n) = omega arith
size_is (negsuc n) = omega arith

-- a - b is less than n in size exactly where neither of a and b exceeds the other by n or more
pub size_below : {z : ℤ} {a b n : ℕ} → Difference z a b → (nat_abs z < n) ↔ ((a < b + n) × (b < a + n))
size_below {z = pos m} d = (λ h. omega (arith, h, d.balance), λ h. omega (arith, h.0, h.1, d.balance))
size_below {z = negsuc m} d = (λ h. omega (arith, h, d.balance), λ h. omega (arith, h.0, h.1, d.balance))

module _ {M : ℕ} (some : 0 < M) where
  pub mod_below : (z : ℤ) → z modulo M < M
  unfolding ◌modulo◌
  mod_below (pos n) = mod-lt n some
  mod_below (negsuc n) = omega arith

  -- the remainder of a - b, and b, make a up to multiples of M
  pub mod_congruent : {z : ℤ} {a b : ℕ} → Difference z a b → Congruent M (z modulo M + b) a
  unfolding ◌modulo◌
  mod_congruent {z = pos n} p = record { over = n / M; under = 0; equal = omega (arith, p.balance, div-add-mod' n M) }
  mod_congruent {z = negsuc n} p = record { over = 0; under = suc (n / M); equal = omega (arith, p.balance, div-add-mod' n M, mod-lt n some) }

  -- and only the remainder does
  pub mod_is : {z : ℤ} {a b r : ℕ} → Difference z a b → r < M → Congruent M (r + b) a → r ≡ z modulo M
  mod_is {z} {a} {b} p low c = same low (mod_below z) (cancel b (chain c (flip (mod_congruent p))))

  -- the remainder of n - z, by that of z
  pub mod_minus : (n : ℕ) (z : ℤ) → (n + (M - z modulo M)) % M ≡ (pos n -ℤ z) modulo M
  mod_minus n z =
      let r = z modulo M in
      let l = mod_below z in
      mod_is (minus (number n) (split z)) (mod-lt (n + (M - r)) some)
      (chain (equals (omega arith)) (chain (plus (remainder (n + (M - r)) M) (flip (mod_congruent (split z))))
      (chain (equals {b = n + loss z + M} (omega arith)) (chain (plus (equals {a = n + loss z} refl) (none M)) (equals (omega arith))))))

  -- the integer is its remainder and a multiple of M
  pub mod_multiple : (z : ℤ) → (k : ℤ) × (z ≡ pos (z modulo M) +ℤ k *ℤ pos M)
  unfolding ◌modulo◌
  mod_multiple (pos n) = (pos (n / M), ap pos (omega (arith, div-add-mod' n M)))
  mod_multiple (negsuc n) = (
    negsuc (n / M),
    same_integer {a = 0} {b = suc n} (record { balance = refl }) (sum (number (M - suc (n % M))) (product (negsuc (n / M)) M))
        (omega (arith, div-add-mod' n M, mod-lt n some)),
  )
