-- From row to row: the recurrences, remainders that fall to the first 0, denominators that do not fall, how large both are, and q(i)·theta(i-1) + q(i-1)·theta(i) = M.
-- Assumes nothing.
use mathlib.Core.Path.{◌≡◌, refl, sym, ◌∙◌, ap}
use mathlib.Core.List.{List, ◌∷◌}
use Prim.Native.Nat.{ℕ, zero, suc, ◌+◌, ◌*◌, ◌/◌, ◌%◌, ◌≤◌, ◌<◌}
use native.Mathlib.Nat.{mod-lt, div-add-mod', mul-le-mul_right}
use native.Mathlib.Omega.{arith}
use lib.ListN.{length, get_or}
use Rattle.numbers.proofs.Remainders.{quotient_positive, quotient_two}
use Rattle.expansion.specs.Rows.{Row, remainders, denominators, quotients}
use Rattle.expansion.proofs.Unrolling.{Rows, some_row, first_row}
use Rattle.expansion.proofs.Unrolling.Rows.{end, next}

-- what every row keeps: t and u are the remainders before it and in it, p and q the denominators
pub record Kept (M t u p q : ℕ) : Type 0 where
  pub falls : u < t
  pub whole : q * t + p * u ≡ M
  pub some : 1 ≤ q
  pub not_falling : p ≤ q

pub kept_first : {M a : ℕ} → a < M → Kept M M a 0 1
kept_first h = record { falls = h; whole = omega arith; some = omega arith; not_falling = omega arith }

-- no denominator is above the modulus, and every remainder is below it
module _ {M t u p q : ℕ} (k : Kept M t u p q) where
  pub within : q ≤ M
  within = let h : 1 ≤ t = omega (arith, k.falls) in omega (arith, k.whole, mul-le-mul_right q h)

  pub below : u < M
  below = omega (arith, k.falls, k.whole, mul-le-mul_right t k.some)

module _ {M t u p q : ℕ} (k : Kept M t u p q) (pos : 0 < u) where
  next_not_below : q ≤ p + t / u * q
  next_not_below = omega (arith, mul-le-mul_right q (quotient_positive t u pos (omega (arith, k.falls))))

  pub kept_next : Kept M u (t % u) q (p + t / u * q)
  kept_next =
      record {
        falls = mod-lt t pos;
        whole = omega (arith, k.whole, ap (λ (n : ℕ). q * n) (div-add-mod' t u));
        some = omega (arith, k.some, next_not_below);
        not_falling = next_not_below;
      }

-- a row that is not the last, and the one after it
pub record Neighbours (t u p q k u' q' : ℕ) : Type 0 where
  pub not_zero : 0 < u
  pub drawn : k ≡ t / u
  pub left_over : u' ≡ t % u
  pub joined : q' ≡ p + k * q

-- quotient and remainder make up the remainder before
pub rejoined : {t u p q k u' q' : ℕ} → Neighbours t u p q k u' q' → k * u + u' ≡ t
rejoined {t} {u} n = omega (arith, n.left_over, ap (λ (k : ℕ). k * u) n.drawn, div-add-mod' t u)

pub neighbours : {t u p q : ℕ} {rs : List Row} → Rows t u p q rs → (i : ℕ) → suc i < length rs
    → Neighbours (get_or (t ∷ remainders rs) i 0) (get_or (remainders rs) i 0) (get_or (p ∷ denominators rs) i 0) (get_or (denominators rs) i 0)
    (get_or (quotients rs) i 0) (get_or (remainders rs) (suc i) 0) (get_or (denominators rs) (suc i) 0)
neighbours end i h = absurd (omega (arith, h))
neighbours (next w r) zero h = record { not_zero = w; drawn = refl; left_over = (first_row r).0; joined = (first_row r).1 }
neighbours (next w r) (suc i) h = neighbours r i (omega (arith, h))

-- the last row
pub last_row : {t u p q : ℕ} {rs : List Row} → Rows t u p q rs → (i : ℕ) → suc i ≡ length rs
    → (get_or (remainders rs) i 0 ≡ 0) × (get_or (quotients rs) i 0 ≡ 0)
last_row end zero e = (refl, refl)
last_row end (suc i) e = absurd (omega (arith, e))
last_row (next w r) zero e = absurd (omega (arith, e, some_row r))
last_row (next w r) (suc i) e = last_row r i (omega (arith, e))

-- a single row has the remainder 0, and the first of several has not
pub single_row : {t u p q : ℕ} {rs : List Row} → Rows t u p q rs → length rs ≡ 1 → u ≡ 0
single_row r e = sym (first_row r).0 ∙ (last_row r 0 (sym e)).0

pub several_rows : {t u p q : ℕ} {rs : List Row} → Rows t u p q rs → 1 < length rs → 0 < u
several_rows end l = absurd (omega (arith, l))
several_rows (next w r) l = w

-- the last quotient that is drawn is at least 2: a remainder that divides the one before it is less than that one
pub last_drawn : {t u p q : ℕ} {rs : List Row} → Rows t u p q rs → u < t → (i : ℕ) → suc (suc i) ≡ length rs → 2 ≤ get_or (quotients rs) i 0
last_drawn end l i e = absurd (omega (arith, e))
last_drawn (next {t} {u} w r) l zero e = quotient_two t u w l (single_row r (omega (arith, e)))
last_drawn (next {t} {u} w r) l (suc i) e = last_drawn r (mod-lt t w) i (omega (arith, e))
