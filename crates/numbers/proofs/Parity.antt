-- The parity of a number; and congruences whose sign is that of a row, + in rows of even number and - in odd ones: they are added and repeated as others are, and from
-- one row to the next what is added and what is taken away change places. Assumes nothing.
use mathlib.Core.Path.{◌≡◌, refl, sym, ◌∙◌}
use mathlib.Core.Bool.{Bool, true, false, not, cond, false≢true}
use mathlib.Core.Logic.{◌↔◌}
use Prim.Native.Nat.{ℕ, zero, suc, ◌+◌, ◌*◌, ◌%◌}
use native.Mathlib.Nat.{suc-mod}
use native.Mathlib.Omega.{arith}
use Rattle.numbers.specs.Parity.{is_odd}
use Rattle.numbers.specs.Promise.{ParityCorrect}
use Rattle.numbers.proofs.Congruences.{Congruent, equals, flip, chain, plus, times}

-- ---- the parity of a number

remainder_by_2 : (n : ℕ) → n % 2 ≡ cond (is_odd n) 1 0
remainder_by_2 zero = refl
remainder_by_2 (suc n) = suc-mod n 2 ∙ rw (remainder_by_2 n) (of (is_odd n))
  where
    of : (b : Bool) → suc (cond b 1 0) % 2 ≡ cond (not b) 1 0
    of false = refl
    of true = refl

pub parity_correct : (n : ℕ) → ParityCorrect n
parity_correct n = record { even = even (is_odd n) (remainder_by_2 n); odd = odd (is_odd n) (remainder_by_2 n) }
  where
    even : (b : Bool) {k : ℕ} → k ≡ cond b 1 0 → (b ≡ false) ↔ (k ≡ 0)
    even false e = (λ f. e, λ z. refl)
    even true e = (λ f. absurd (false≢true (sym f)), λ z. absurd (omega (arith, e, z)))

    odd : (b : Bool) {k : ℕ} → k ≡ cond b 1 0 → (b ≡ true) ↔ (k ≡ 1)
    odd false e = (λ f. absurd (false≢true f), λ z. absurd (omega (arith, e, z)))
    odd true e = (λ f. e, λ z. refl)

-- ---- congruences

-- modulo M, y is g - l, in an odd row l - g
pub data ByParity (M : ℕ) : (odd : Bool) (y g l : ℕ) → Type 0 where
  even_row : (y g l : ℕ) → Congruent M (y + l) g → ByParity M false y g l
  odd_row : (y g l : ℕ) → Congruent M (y + g) l → ByParity M true y g l

module _ {M : ℕ} where
  pub even_congruent : {b : Bool} {y g l : ℕ} → ByParity M b y g l → b ≡ false → Congruent M (y + l) g
  even_congruent (even_row y g l c) e = c
  even_congruent (odd_row y g l c) e = absurd (false≢true (sym e))

  pub odd_congruent : {b : Bool} {y g l : ℕ} → ByParity M b y g l → b ≡ true → Congruent M (y + g) l
  odd_congruent (even_row y g l c) e = absurd (false≢true e)
  odd_congruent (odd_row y g l c) e = c

  pub nothing : (b : Bool) → ByParity M b 0 0 0
  nothing false = even_row 0 0 0 (equals refl)
  nothing true = odd_row 0 0 0 (equals refl)

  -- from a row to the next, and back, the two change places
  pub exchanged : {b : Bool} {y g l : ℕ} → ByParity M b y g l → ByParity M (not b) y l g
  exchanged (even_row y g l c) = odd_row y l g c
  exchanged (odd_row y g l c) = even_row y l g c

  pub returned : (b : Bool) {y g l : ℕ} → ByParity M (not b) y g l → ByParity M b y l g
  returned false (odd_row y g l c) = even_row y l g c
  returned true (even_row y g l c) = odd_row y l g c

  pub added : {b : Bool} {y g l y' g' l' : ℕ} → ByParity M b y g l → ByParity M b y' g' l' → ByParity M b (y + y') (g + g') (l + l')
  added (even_row y g l c) (even_row y' g' l' d) = even_row (y + y') (g + g') (l + l') (chain (equals (omega arith)) (plus c d))
  added (odd_row y g l c) (odd_row y' g' l' d) = odd_row (y + y') (g + g') (l + l') (chain (equals (omega arith)) (plus c d))

  pub repeated : {b : Bool} {y g l : ℕ} (k : ℕ) → ByParity M b y g l → ByParity M b (y * k) (g * k) (l * k)
  repeated k (even_row y g l c) = even_row (y * k) (g * k) (l * k) (chain (equals (omega arith)) (times k c))
  repeated k (odd_row y g l c) = odd_row (y * k) (g * k) (l * k) (chain (equals (omega arith)) (times k c))

  -- the same number and the same difference
  pub restated : {b : Bool} {y g l : ℕ} (y' g' l' : ℕ) → ByParity M b y g l → y ≡ y' → g + l' ≡ g' + l → ByParity M b y' g' l'
  restated y' g' l' (even_row y g l c) e f = even_row y' g' l' (record { over = c.over; under = c.under; equal = omega (arith, c.equal, e, f) })
  restated y' g' l' (odd_row y g l c) e f = odd_row y' g' l' (record { over = c.over; under = c.under; equal = omega (arith, c.equal, e, f) })

  -- where nothing is taken away, y and g change places
  pub mirrored : {b : Bool} {y g : ℕ} → ByParity M b y g 0 → ByParity M b g y 0
  mirrored (even_row y g l c) = even_row g y 0 (chain (equals (omega arith)) (chain (flip c) (equals (omega arith))))
  mirrored (odd_row y g l c) = odd_row g y 0 (chain (equals (omega arith)) c)
