-- The covering segment lies above the values by what the curve may still add to them, or by what it has taken from them, which is at most D: where
-- a value is less than the window, the residue is less than the covering window. Assumes nothing.
use mathlib.Core.Path.{◌≡◌, refl, ◌∙◌, ap}
use Prim.Native.Nat.{ℕ, suc, ◌+◌, ◌-◌, ◌*◌, ◌%◌, ◌≤◌, ◌<◌, min}
use native.Mathlib.Nat.{mod-lt, mod-le, mul-le-mul_left, le_of_lt}
use native.Mathlib.Omega.{arith}
use lib.IntN.{ℤ, pos, negsuc, nat_abs}
use Rattle.numbers.proofs.Congruences.{Congruent, equals, flip, chain, plus, times, cancel, remainder, opposite, is_remainder}
use Rattle.numbers.proofs.Integers.{gain, loss, negated, size_is, mod_is}
use Rattle.geometry.specs.Segment.{residue}
use Rattle.geometry.proofs.Laws.{residue_lt, residue_congruent}
use Rattle.parabola.specs.Parabola.{Parabola, triangle, value_at, spread, covering_step, start_over, covering_start, covering_window, covering}
use Rattle.parabola.specs.Promise.{CoveringCorrect}
use Rattle.parabola.proofs.Values.{triangle_twice, triangle_grows, value_congruent}

module _ (p : Parabola) where
  -- what the curve may still add at x, and what it has taken
  abbrev above : (x : ℕ) → ℕ
  above x = gain p.curve * triangle p.count - gain p.curve * triangle x + loss p.curve * triangle x

  spread_is : spread p ≡ gain p.curve * triangle p.count + loss p.curve * triangle p.count
  unfolding spread
  spread_is = omega (arith, ap (λ (n : ℕ). n * triangle p.count) (size_is p.curve))

  -- the start is above the value by all that the curve may add
  start_congruent : Congruent p.unit (covering_start p) (p.value + gain p.curve * triangle p.count)
  unfolding covering_start
  start_congruent = by p.curve spread_is
    where
      by : (z : ℤ) → spread p ≡ gain z * triangle p.count + loss z * triangle p.count
          → Congruent p.unit (start_over z p.unit p.value (spread p)) (p.value + gain z * triangle p.count)
      by (pos n) e = unfold start_over in chain (remainder (p.value + spread p) p.unit) (equals (omega (arith, e)))
      by (negsuc n) e = unfold start_over in equals (omega arith)

module _ (p : Parabola) (positive : 0 < p.unit) (low : p.slope < p.unit) where
  -- the covering residue goes with the slope
  along : (x : ℕ) → Congruent p.unit (residue (covering p) x) (covering_start p + p.slope * x)
  along x =
      cancel (covering_step p * x)
      (chain (residue_congruent (covering p) x positive)
      (chain (equals (omega arith)) (chain (plus (equals {a = covering_start p} refl) (flip away)) (equals (omega arith)))))
    where
      away : Congruent p.unit ((covering_step p + p.slope) * x) (0 * x)
      away = unfold covering_step in times x (opposite low)

  -- it is above the value by so much
  residue_above : (x : ℕ) → gain p.curve * triangle x ≤ gain p.curve * triangle p.count
      → residue (covering p) x ≡ (value_at p x + above p x) % p.unit
  residue_above x h =
      is_remainder (residue_lt (covering p) x positive)
      (cancel (gain p.curve * triangle x)
      (chain (plus (chain (along x) (plus (start_congruent p) (equals {a = p.slope * x} refl))) (equals {a = gain p.curve * triangle x} refl))
      (chain (equals (omega arith))
      (chain (plus (flip (value_congruent p positive x)) (equals {a = gain p.curve * triangle p.count} refl)) (equals (omega arith))))))

  arc_most : (k x : ℕ) → x ≤ p.count → k * triangle x ≤ k * triangle p.count
  arc_most k x h = mul-le-mul_left k (triangle_grows x p.count h)

  rising : (n : ℕ) → p.curve ≡ pos n → (x : ℕ) → x ≤ p.count → residue (covering p) x ≡ (value_at p x + (spread p - n * triangle x)) % p.unit
  rising n e x h =
      residue_above x (arc_most (gain p.curve) x h)
      ∙ ap (λ (k : ℕ). (value_at p x + k) % p.unit)
      (omega (
        arith,
        spread_is p,
        ap (λ (z : ℤ). gain z * triangle x) e,
        ap (λ (z : ℤ). loss z * triangle x) e,
        ap (λ (z : ℤ). loss z * triangle p.count) e,
      ))

  falling : (n : ℕ) → p.curve ≡ negsuc n → (x : ℕ) → residue (covering p) x ≡ (value_at p x + suc n * triangle x) % p.unit
  falling n e x =
      let none : (k : ℕ) → gain p.curve * k ≡ 0 = λ k. omega (arith, ap (λ (z : ℤ). gain z * k) e) in
      residue_above x (omega (arith, none (triangle x), none (triangle p.count)))
      ∙ ap (λ (k : ℕ). (value_at p x + k) % p.unit)
      (omega (arith, none (triangle x), none (triangle p.count), ap (λ (z : ℤ). loss z * triangle x) e))

  covers : (x : ℕ) → x < p.count → value_at p x < p.window → residue (covering p) x < covering_window p
  unfolding covering_window
  covers x h v =
      let l : x ≤ p.count = le_of_lt h in
      omega (
        arith,
        v,
        residue_lt (covering p) x positive,
        residue_above x (arc_most (gain p.curve) x l),
        mod-le (value_at p x + above p x) p.unit,
        spread_is p,
        arc_most (loss p.curve) x l,
      )

  twice_spread : 2 * spread p ≡ nat_abs p.curve * (p.count * (p.count - 1))
  unfolding spread
  twice_spread = omega (arith, ap (λ (n : ℕ). nat_abs p.curve * n) (triangle_twice p.count))

  rising_start : (n : ℕ) → p.curve ≡ pos n → covering_start p ≡ (p.value + spread p) % p.unit
  unfolding covering_start start_over
  rising_start n e = rw e refl

  pub covering_correct : CoveringCorrect p
  unfolding covering_step covering_start covering_window
  covering_correct =
      record {
        numbers = record {
          unit = refl;
          step = mod_is positive (negated p.slope) (mod-lt (p.unit - p.slope) positive) (opposite low);
          start_rising = λ n D e d.
              let s : spread p ≡ D = omega (arith, d, twice_spread, ap (λ (z : ℤ). nat_abs z * (p.count * (p.count - 1))) e) in
              rising_start n e ∙ ap (λ (k : ℕ). (p.value + k) % p.unit) s;
          start_falling = λ n e. unfold start_over in rw e refl;
          count = refl;
          window = λ D d. ap (λ (k : ℕ). min p.unit (p.window + k)) (omega (arith, d, twice_spread));
        };
        spread_is = twice_spread;
        rising = rising;
        falling = falling;
        covers = covers;
      }
