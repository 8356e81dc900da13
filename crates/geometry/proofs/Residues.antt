-- Multiples of the step modulo M, `multiple_mod`, and the residues of a segment: how both move from x to x + y, and that each tells the other.
-- Two numbers below M sum up to the remainder of their sum or to M more, and each law picks one of these. Assumes nothing.
use mathlib.Core.Path.{◌≡◌, refl, sym, ◌∙◌, ap}
use mathlib.Core.Logic.{◌⊎◌, inl, inr, ⊎_elim, by_cases}
use Prim.Native.Nat.{ℕ, suc, ◌+◌, ◌-◌, ◌*◌, ◌/◌, ◌%◌, ◌≤◌, ◌<◌}
use native.Mathlib.Nat.{mod-lt, mod-eq_of_lt, mod-eq-sub-mod, mod-add-mod, add-mod, add-mod_right, mul-add, mul-zero, zero-mod, zero-add, sub-zero, div-add-mod'}
use native.Mathlib.Decide.{dec_lt}
use native.Mathlib.Omega.{arith}
use Rattle.numbers.proofs.Congruences.{Congruent, equals, chain, plus, remainder}
use Rattle.geometry.specs.Segment.{Segment, residue}
use Rattle.geometry.specs.TwoLength.{multiple_mod}

-- n and k sum up to l modulo M, where all three are below M
abbrev Sum : (M n k l : ℕ) → Type 0
Sum M n k l = (n + k ≡ l) ⊎ (n + k ≡ l + M)

-- two numbers below M sum up to the remainder of their sum
sum : {M n k : ℕ} → n < M → k < M → Sum M n k ((n + k) % M)
sum {M} {n} {k} h l =
    by_cases (dec_lt (n + k) M) (λ i. inl (sym (mod-eq_of_lt i)))
    (λ i. inr (omega (arith, mod-eq-sub-mod {n = n + k} {m = M} (omega arith), mod-eq_of_lt {n = n + k - M} {m = M} (omega arith))))

-- a multiple is below the modulus
pub multiple_lt : (M a z : ℕ) → 0 < M → multiple_mod M a z < M
unfolding multiple_mod
multiple_lt M a z positive = mod-lt (a * z) positive

-- the multiple of 0
pub multiple_zero : (M a : ℕ) → multiple_mod M a 0 ≡ 0
unfolding multiple_mod
multiple_zero M a = rw (mul-zero, zero-mod)

module _ (M a x y : ℕ) (positive : 0 < M) where
  -- the multiple of a sum is the sum of the multiples modulo M
  multiple_add : Sum M (multiple_mod M a x) (multiple_mod M a y) (multiple_mod M a (x + y))
  unfolding multiple_mod
  multiple_add = rw (mul-add, add-mod (a * x) (a * y) M) (sum (multiple_lt M a x positive) (multiple_lt M a y positive))

  -- where the sum of the multiples is below M
  pub multiple_low : multiple_mod M a x + multiple_mod M a y < M → multiple_mod M a (x + y) ≡ multiple_mod M a x + multiple_mod M a y
  multiple_low l = ⊎_elim sym (λ e. omega arith) multiple_add

  -- where it is not
  pub multiple_high : M ≤ multiple_mod M a x + multiple_mod M a y → multiple_mod M a (x + y) + M ≡ multiple_mod M a x + multiple_mod M a y
  multiple_high l = ⊎_elim (λ e. omega (arith, multiple_lt M a (x + y) positive)) sym multiple_add

-- a residue is below the modulus
pub residue_lt : (s : Segment) (x : ℕ) → 0 < s.unit → residue s x < s.unit
unfolding residue
residue_lt s x positive = mod-lt _ positive

-- a residue, and the steps taken, make the start up to multiples of M
pub residue_congruent : (s : Segment) (x : ℕ) → 0 < s.unit → Congruent s.unit (residue s x + s.step * x) s.start
unfolding residue
residue_congruent s x positive =
    chain (plus (remainder (s.start + (s.unit - s.step * x % s.unit)) s.unit) (equals {a = s.step * x} refl))
    (record {
      over = 0;
      under = suc (s.step * x / s.unit);
      equal = omega (arith, div-add-mod' (s.step * x) s.unit, mod-lt (s.step * x) positive);
    })

-- the residue of 0 is the start
pub residue_start : (s : Segment) → s.start < s.unit → residue s 0 ≡ s.start
unfolding residue
residue_start s h = rw (mul-zero, zero-mod, sub-zero) (add-mod_right s.start s.unit ∙ mod-eq_of_lt h)

-- (b - t) mod M is u more than (b - w) mod M, modulo M, where t and u sum up to w
taken_off : (b u : ℕ) {M t w : ℕ} → t < M → w < M → Sum M t u w → (b + (M - t)) % M ≡ ((b + (M - w)) % M + u) % M
taken_off b u {M} {t} {w} h l (inl e) =
    let f : b + (M - w) + u ≡ b + (M - t) = omega arith in
    rw (mod-add-mod, f)
taken_off b u {M} {t} {w} h l (inr e) =
    let f : b + (M - w) + u ≡ b + (M - t) + M = omega arith in
    rw (mod-add-mod, f, add-mod_right)

module _ (s : Segment) (x y : ℕ) (positive : 0 < s.unit) where
  -- the residue at x + y and the multiple of y sum up to the residue at x
  residue_add : Sum s.unit (residue s (x + y)) (multiple_mod s.unit s.step y) (residue s x)
  unfolding residue multiple_mod
  residue_add =
      rw (taken_off s.start (multiple_mod s.unit s.step y) (multiple_lt _ _ x positive) (multiple_lt _ _ (x + y) positive) (multiple_add _ _ x y positive))
      (sum (residue_lt s (x + y) positive) (multiple_lt _ _ y positive))

  -- where the multiple is not above the residue at x
  pub residue_low : multiple_mod s.unit s.step y ≤ residue s x → residue s (x + y) + multiple_mod s.unit s.step y ≡ residue s x
  residue_low l = ⊎_elim (λ e. e) (λ e. omega (arith, residue_lt s (x + y) positive)) residue_add

  -- where it is
  pub residue_high : residue s x < multiple_mod s.unit s.step y → residue s (x + y) + multiple_mod s.unit s.step y ≡ residue s x + s.unit
  residue_high l = ⊎_elim (λ e. omega arith) (λ e. e) residue_add

-- where residues are equal, multiples are: both sum up to the residue of 0
pub residue_same : (s : Segment) (x y : ℕ) → 0 < s.unit → residue s x ≡ residue s y
    → multiple_mod s.unit s.step x ≡ multiple_mod s.unit s.step y
residue_same s x y positive e =
    let l = multiple_lt s.unit s.step x positive in
    let r = multiple_lt s.unit s.step y positive in
    ⊎_elim (λ i. ⊎_elim (λ j. omega arith) (λ j. omega arith) (from_start y)) (λ i. ⊎_elim (λ j. omega arith) (λ j. omega arith) (from_start y))
    (from_start x)
  where
    from_start : (z : ℕ) → Sum s.unit (residue s z) (multiple_mod s.unit s.step z) (residue s 0)
    from_start z = rw zero-add at (residue_add s 0 z positive)

-- where multiples are equal, residues are
pub residue_again : (s : Segment) (x y : ℕ) → multiple_mod s.unit s.step x ≡ multiple_mod s.unit s.step y → residue s x ≡ residue s y
unfolding residue multiple_mod
residue_again s x y e = ap (λ (t : ℕ). (s.start + (s.unit - t)) % s.unit) e
