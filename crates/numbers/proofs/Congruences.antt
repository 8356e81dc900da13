-- Numbers that differ by multiples of a modulus: they are added, scaled and taken off each other without opening a remainder, and of two such
-- numbers one below the modulus is the smaller one. Assumes nothing.
use mathlib.Core.Path.{◌≡◌, refl, sym, ◌∙◌, ap}
use Prim.Native.Nat.{ℕ, ◌+◌, ◌*◌, ◌-◌, ◌/◌, ◌%◌, ◌≤◌, ◌<◌}
use native.Mathlib.Nat.{mod-le, mod-eq_of_lt, add-mul-mod_self_right, div-add-mod'}
use native.Mathlib.Omega.{arith}

-- a and b are equal up to multiples of M
pub record Congruent (M a b : ℕ) : Type 0 where
  pub over : ℕ
  pub under : ℕ
  pub equal : a + over * M ≡ b + under * M

pub equals : {M a b : ℕ} → a ≡ b → Congruent M a b
equals e = record { over = 0; under = 0; equal = omega (arith, e) }

pub flip : {M a b : ℕ} → Congruent M a b → Congruent M b a
flip c = record { over = c.under; under = c.over; equal = sym c.equal }

pub chain : {M a b c : ℕ} → Congruent M a b → Congruent M b c → Congruent M a c
chain {M} {a} {b} {c} p q =
    record { over = p.over + q.over; under = p.under + q.under; equal = omega (arith, p.equal, q.equal) }

pub plus : {M a b c d : ℕ} → Congruent M a b → Congruent M c d → Congruent M (a + c) (b + d)
plus {M} {a} {b} {c} {d} p q =
    record { over = p.over + q.over; under = p.under + q.under; equal = omega (arith, p.equal, q.equal) }

pub times : {M a b : ℕ} (k : ℕ) → Congruent M a b → Congruent M (a * k) (b * k)
times {M} {a} {b} k p =
    record { over = p.over * k; under = p.under * k; equal = omega (arith, ap (λ (n : ℕ). n * k) p.equal) }

-- what is added to both sides may be taken off
pub cancel : {M a b : ℕ} (c : ℕ) → Congruent M (a + c) (b + c) → Congruent M a b
cancel {M} {a} {b} c p = record { over = p.over; under = p.under; equal = omega (arith, p.equal) }

-- the modulus itself counts for nothing
pub none : (M : ℕ) → Congruent M M 0
none M = record { over = 0; under = 1; equal = omega arith }

pub remainder : (a M : ℕ) → Congruent M (a % M) a
remainder a M = record { over = a / M; under = 0; equal = omega (arith, div-add-mod' a M) }

-- a number and its opposite count for nothing
pub opposite : {M c : ℕ} → c < M → Congruent M ((M - c) % M + c) 0
opposite {M} {c} h = chain (plus (remainder (M - c) M) (equals {a = c} refl)) (chain (equals (omega arith)) (none M))

-- congruent numbers leave the same remainder
pub same_remainder : {M a b : ℕ} → Congruent M a b → a % M ≡ b % M
same_remainder {M} {a} {b} p =
    sym (add-mul-mod_self_right a p.over M) ∙ ap (λ (n : ℕ). n % M) p.equal ∙ add-mul-mod_self_right b p.under M

-- and numbers that leave the same remainder are congruent
pub by_remainders : (M a b : ℕ) → a % M ≡ b % M → Congruent M a b
by_remainders M a b e = chain (flip (remainder a M)) (chain (equals e) (remainder b M))

-- of congruent numbers one below the modulus is the smallest
pub least : {M a b : ℕ} → a < M → Congruent M a b → a ≤ b
least {M} {a} {b} h p = omega (arith, mod-eq_of_lt h, same_remainder p, mod-le b M)

-- so that two of them are one
pub same : {M a b : ℕ} → a < M → b < M → Congruent M a b → a ≡ b
same {M} {a} {b} h l p = sym (mod-eq_of_lt h) ∙ same_remainder p ∙ mod-eq_of_lt l

-- the remainder of a number is what is below the modulus and congruent to it
pub is_remainder : {M r a : ℕ} → r < M → Congruent M r a → r ≡ a % M
is_remainder h p = sym (mod-eq_of_lt h) ∙ same_remainder p
