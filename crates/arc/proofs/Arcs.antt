-- What the code makes of the terms of a parabola is what the definitions say. Assumes nothing.
use mathlib.Core.Path.{◌≡◌, refl, ◌∙◌, ap}
use Prim.Native.Nat.{ℕ, ◌+◌, ◌*◌, ◌%◌, ◌≤◌}
use native.Mathlib.Nat.{mul-one, mod-lt, mod-eq_of_lt}
use native.Mathlib.Omega.{arith}
use lib.Dec.{leb-zero}
use lib.IntN.{ℤ, pos, negsuc, ◌*ℤ◌}
use lib.Signed.{le_z}
use mir.Syntax.{w64}
use mir.Val.{SFits, to_z, bool_byte}
use Rattle.numbers.specs.Integers.{◌modulo◌}
use Rattle.numbers.proofs.Congruences.{Congruent, equals, chain, plus, remainder}
use Rattle.numbers.proofs.Integers.{gain, loss, product, mod_congruent}
use Rattle.parabola.specs.Parabola.{Parabola, InRange, triangle, value_at, slope_at, spread, start_over, covering_start}
use Rattle.parabola.proofs.Laws.{positive, triangle_most, arc_most, rise_most, value_is, slope_is}
use Rattle.numbers.proofs.Signed.{read, product_fits, product_read, curve_read}

module _ {p : Parabola} (range : InRange p) where
  bent : (y : ℕ) → Congruent p.unit ((p.curve *ℤ pos y) modulo p.unit + loss p.curve * y) (gain p.curve * y)
  bent y = mod_congruent (positive range) (product p.curve y)

  -- V(x)
  pub value_of_terms : (x : ℕ)
      → ((p.value + p.slope * x % p.unit) % p.unit + (p.curve *ℤ pos (triangle x)) modulo p.unit) % p.unit ≡ value_at p x
  value_of_terms x =
      value_is p (positive range) x (mod-lt _ (positive range))
      (chain (plus (remainder _ p.unit) (equals {a = loss p.curve * triangle x} refl))
      (chain (equals (omega arith))
      (plus (chain (remainder (p.value + p.slope * x % p.unit) p.unit) (plus (equals {a = p.value} refl) (remainder (p.slope * x) p.unit)))
      (bent (triangle x)))))

  -- c1 + s·x
  pub slope_of_terms : (x : ℕ) → (p.slope + (p.curve *ℤ pos x) modulo p.unit) % p.unit ≡ slope_at p x
  slope_of_terms x =
      slope_is p (positive range) x (mod-lt _ (positive range))
      (chain (plus (remainder _ p.unit) (equals {a = loss p.curve * x} refl))
      (chain (equals (omega arith)) (plus (equals {a = p.slope} refl) (bent x))))

  -- what the curve adds at x fits, also as the machine reads it
  module _ (x : ℕ) (within : x ≤ 1048576) where
    pub arc_fits : SFits w64 (read p.curve *ℤ to_z w64 (triangle x))
    arc_fits = product_fits p.curve (triangle x) range.size_small (arc_most range x within) (triangle_most x within)

    pub arc_read : read (read p.curve *ℤ to_z w64 (triangle x)) ≡ p.curve *ℤ pos (triangle x)
    arc_read = product_read p.curve (triangle x) range.size_small (arc_most range x within) (triangle_most x within)

    pub rise_read : read (read p.curve *ℤ to_z w64 x) ≡ p.curve *ℤ pos x
    rise_read = product_read p.curve x range.size_small (omega (arith, rise_most range x within)) (omega arith)

  pub curve_kept : read p.curve ≡ p.curve
  curve_kept = curve_read p.curve range.size_small

  -- where the covering segment starts: above the value by D, or by nothing where the curve is negative
  pub start_risen : (p.value + spread p * bool_byte (le_z (pos 0) p.curve)) % p.unit ≡ covering_start p
  unfolding covering_start
  start_risen = by p.curve
    where
      by : (z : ℤ) → (p.value + spread p * bool_byte (le_z (pos 0) z)) % p.unit ≡ start_over z p.unit p.value (spread p)
      by (pos n) = unfold start_over in rw (leb-zero n) (ap (λ (k : ℕ). (p.value + k) % p.unit) (mul-one (spread p)))
      by (negsuc n) = unfold start_over in ap (λ (k : ℕ). k % p.unit) (omega arith) ∙ mod-eq_of_lt range.value_below
