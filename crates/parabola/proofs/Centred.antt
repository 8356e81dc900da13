-- The centred parabola: its values are the values raised by w - 1, so that an argument is hard exactly where V(x) is near a multiple of the modulus on
-- either side; its covering segment is document 02's, and its parts are those of the parabola, each centred. Assumes nothing.
use mathlib.Core.Path.{◌≡◌, refl, sym, ◌∙◌, ap}
use mathlib.Core.Logic.{◌↔◌, ◌⊎◌, inl, inr, ⊎_elim, by_cases}
use Prim.Native.Nat.{ℕ, suc, ◌+◌, ◌-◌, ◌*◌, ◌%◌, ◌≤◌, ◌<◌, min}
use native.Mathlib.Nat.{mod-lt, mod-eq_of_lt, mod-add-mod}
use native.Mathlib.Decide.{dec_lt}
use native.Mathlib.Omega.{arith}
use Rattle.numbers.proofs.Congruences.{equals, flip, chain, plus, remainder, is_remainder}
use Rattle.numbers.proofs.Integers.{gain, loss}
use Rattle.parabola.specs.Parabola.{Parabola, triangle, value_at, slope_at, centred, spread, covering, continued, part_start, part_count, part, InRange}
use Rattle.parabola.specs.Promise.{CoveringCorrect, CoveringBothCorrect, CentredCorrect}
use Rattle.parabola.proofs.Values.{value_congruent, value_is, value_below}
use Rattle.parabola.proofs.Coverings.{covering_correct}
use Rattle.parabola.proofs.Bounds.{positive}

-- a number v below M, raised by w - 1 modulo M, is below the smaller of M and 2w - 1 exactly where it is less than w from a multiple of M
raised_below : (M w v : ℕ) → v < M → w ≤ M → ((v + (w - 1)) % M < min M (2 * w - 1)) ↔ ((v < w) ⊎ (M - v < w))
raised_below M w v low most =
    by_cases (dec_lt (v + (w - 1)) M)
    (λ h. let e : (v + (w - 1)) % M ≡ v + (w - 1) = mod-eq_of_lt h in (λ l. inl (omega (arith, e, l)), ⊎_elim (λ a. omega (arith, e, a)) (λ b. omega (arith, e, b))))
    (λ h. let e : v + (w - 1) - M ≡ (v + (w - 1)) % M = is_remainder (omega arith) (record { over = 1; under = 0; equal = omega arith }) in
    (λ l. inr (omega arith), λ n. omega (arith, e)))

module _ (p : Parabola) (range : InRange p) where
  within : InRange (centred p)
  unfolding centred
  within = let low : (centred p).value < p.unit = mod-lt _ (positive range) in omega (arith, low, range)

  raised : (x : ℕ) → value_at (centred p) x ≡ (value_at p x + (p.window - 1)) % p.unit
  unfolding centred
  raised x =
      sym
      (value_is (centred p) (positive range) x (mod-lt (value_at p x + (p.window - 1)) (positive range))
      (chain (plus (remainder (value_at p x + (p.window - 1)) p.unit) (equals {a = loss p.curve * triangle x} refl))
      (chain (equals (omega arith))
      (chain (plus (value_congruent p (positive range) x) (equals {a = p.window - 1} refl))
      (chain (equals {b = p.value + (p.window - 1) + (p.slope * x + gain p.curve * triangle x)} (omega arith))
      (chain (plus (flip (remainder (p.value + (p.window - 1)) p.unit)) (equals {a = p.slope * x + gain p.curve * triangle x} refl))
      (equals (omega arith))))))))

  same_slope : (x : ℕ) → slope_at (centred p) x ≡ slope_at p x
  unfolding centred slope_at
  same_slope x = refl

  hard : (x : ℕ) → (value_at (centred p) x < (centred p).window) ↔ ((value_at p x < p.window) ⊎ (p.unit - value_at p x < p.window))
  unfolding centred
  hard x =
      let r = raised_below p.unit p.window (value_at p x) (value_below p (positive range) x) range.window_high in
      (λ h. r.0 (omega (arith, h, raised x)), λ n. omega (arith, r.1 n, raised x))

  parts : (i : ℕ) → part (centred p) i ≡ centred (part p i)
  unfolding centred continued part_start part_count
  parts i = λ j.
      record {
        unit = p.unit;
        value = raised (part_start p.count i) j;
        slope = same_slope (part_start p.count i) j;
        curve = p.curve;
        count = part_count p.count i;
        window = min p.unit (2 * p.window - 1);
      }

  -- ---- the covering segment

  covers_itself : CoveringCorrect p
  covers_itself = covering_correct p (positive range) range.slope_below

  covers_centred : CoveringCorrect (centred p)
  covers_centred = covering_correct (centred p) (omega (arith, within.value_below)) within.slope_below

  same_spread : spread (centred p) ≡ spread p
  unfolding centred spread
  same_spread = refl

  -- what is added to a raised number, with the remainder taken once
  once : (v k : ℕ) → ((v + (p.window - 1)) % p.unit + k) % p.unit ≡ (v + (p.window - 1) + k) % p.unit
  once v k = mod-add-mod (v + (p.window - 1)) p.unit k

  covers_both : CoveringBothCorrect p (covering (centred p))
  unfolding centred
  covers_both =
      record {
        numbers = record {
          unit = refl;
          step = covers_centred.numbers.step;
          start_rising = λ n D e d. covers_centred.numbers.start_rising n D e d ∙ once p.value D ∙ ap (λ (k : ℕ). k % p.unit) (omega arith);
          start_falling = λ n e. covers_centred.numbers.start_falling n e;
          count = refl;
          window = λ D d. covers_centred.numbers.window D d ∙ omega arith;
        };
        spread_is = covers_itself.spread_is;
        rising = λ n e x h. covers_centred.rising n e x h ∙ rw (raised x, same_spread) (once (value_at p x) (spread p - n * triangle x));
        falling = λ n e x. covers_centred.falling n e x ∙ rw (raised x) (once (value_at p x) (suc n * triangle x));
        covers = λ x l n. covers_centred.covers x l ((hard x).1 n);
      }

  pub centred_correct : CentredCorrect p
  centred_correct =
      record {
        start = unfold centred in refl;
        window = unfold centred in refl;
        same = unfold centred in (refl, refl, refl, refl);
        in_range = within;
        value = raised;
        slope = same_slope;
        hard = hard;
        covering_both = covers_both;
        parts = parts;
      }
