-- Two-length configurations in one form for even and odd rows, and how many points they have beside the period. Assumes nothing.
use mathlib.Core.Path.{◌≡◌, sym, ◌∙◌, ap}
use mathlib.Core.Bool.{Bool, false, not}
use mathlib.Core.Logic.{by_cases}
use Prim.Native.Nat.{ℕ, ◌+◌, ◌-◌, ◌*◌, ◌%◌, ◌≤◌, ◌<◌}
use native.Mathlib.Nat.{mul-zero, zero-mod}
use native.Mathlib.Decide.{dec_lt}
use native.Mathlib.Omega.{arith}
use Rattle.expansion.specs.Rows.{period}
use Rattle.expansion.proofs.Promises as expansion
use Rattle.geometry.specs.TwoLength.{multiple_mod, TwoLength, Lengths}
use Rattle.geometry.specs.TwoLength.Lengths.{even_row, odd_row}
use Rattle.geometry.proofs.Residues.{multiple_zero, multiple_high}
use Rattle.geometry.proofs.TwoLength.{first, unit_positive, p_below, cut_q, cut_p}

-- one point, with one gap
pub start : {M a : ℕ} → 0 < a → a < M → Lengths M a false M a 1 0
start h l = even_row (first h l)

module _ {M a long short longs shorts : ℕ} where
  -- the same, seen from the next row: long and short change places
  pub turned : {odd : Bool} → Lengths M a odd long short longs shorts → Lengths M a (not odd) short long shorts longs
  turned (even_row c) = odd_row c
  turned (odd_row c) = even_row c

  -- the long gaps are cut j times
  pub cut : {odd : Bool} → Lengths M a odd long short longs shorts → (j : ℕ) → j * short < long → Lengths M a odd (long - j * short) short longs (shorts + j * longs)
  cut (even_row c) j h = even_row (cut_q c j h)
  cut (odd_row c) j h = odd_row (cut_p c j h)

  -- the gaps make up the circle
  pub whole : {odd : Bool} → Lengths M a odd long short longs shorts → longs * long + shorts * short ≡ M
  whole (even_row c) = c.whole
  whole (odd_row c) = omega (arith, c.whole)

  -- lengths are positive
  pub short_positive : {odd : Bool} → Lengths M a odd long short longs shorts → 0 < short
  short_positive (even_row c) = c.positive_p
  short_positive (odd_row c) = c.positive_q

  pub long_positive : {odd : Bool} → Lengths M a odd long short longs shorts → 0 < long
  long_positive (even_row c) = c.positive_q
  long_positive (odd_row c) = c.positive_p

  -- there is a long gap where it is longer than a short one
  pub longs_positive : {odd : Bool} → Lengths M a odd long short longs shorts → short < long → 0 < longs
  longs_positive (even_row c) l = c.positive_u
  longs_positive (odd_row c) l =
      by_cases (dec_lt 0 longs) (λ h. h)
      (λ h. let e : longs ≡ 0 = omega arith in absurd (omega (arith, c.at_v, ap (multiple_mod M a) e, multiple_zero M a, p_below c)))

-- ---- the number of points beside the period

-- no multiple before the period is that of 0
not_before : (M a y : ℕ) → a < M → 0 < y → y < period M a → multiple_mod M a y ≡ multiple_mod M a 0 → ⊥
unfolding multiple_mod
not_before M a y small h l e =
    let f : 0 + y ≡ y = omega arith in
    ((expansion.promised).period M a small).not_before 0 y h l (ap (λ (n : ℕ). a * n % M) f ∙ e)

-- and that of the period is
at_period : (M a : ℕ) → a < M → (0 < period M a) × (multiple_mod M a (period M a) ≡ 0)
unfolding multiple_mod
at_period M a small =
    let r = (expansion.promised).period M a small in
    let e : 0 + period M a ≡ period M a = omega arith in (
      r.positive,
      ap (λ (n : ℕ). a * n % M) (sym e) ∙ r.repeats 0 ∙ rw (mul-zero a, zero-mod M),
    )

module _ {M a u v p q : ℕ} (small : a < M) (c : TwoLength M a u v p q) where
  few_points : u + v ≤ period M a
  few_points =
      let t = at_period M a small in
      by_cases (dec_lt (period M a) (u + v)) (λ l. absurd (omega (arith, t.1, c.positive_p, c.low (period M a) t.0 l))) (λ l. omega arith)

  all_points : p ≡ q → period M a ≤ u + v
  all_points e =
      by_cases (dec_lt (u + v) (period M a))
      (λ l. absurd
      (not_before M a (u + v) small (omega (arith, c.positive_u)) l
      (omega (arith, multiple_high M a u v (unit_positive c) (omega (arith, c.at_u, c.at_v)), c.at_u, c.at_v, multiple_zero M a))))
      (λ l. omega arith)

-- a configuration has no more points than the period
pub within_period : {M a : ℕ} {odd : Bool} {long short longs shorts : ℕ} → a < M → Lengths M a odd long short longs shorts → longs + shorts ≤ period M a
within_period small (even_row c) = few_points small c
within_period small (odd_row c) = omega (arith, few_points small c)

-- and as many where the lengths are equal
pub equal_period : {M a : ℕ} {odd : Bool} {long short longs shorts : ℕ} → a < M → Lengths M a odd long short longs shorts → long ≡ short
    → longs + shorts ≡ period M a
equal_period small (even_row c) e = omega (arith, few_points small c, all_points small c (sym e))
equal_period small (odd_row c) e = omega (arith, few_points small c, all_points small c e)
