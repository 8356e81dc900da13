-- Values, residues and hard arguments in a call's own numbers are those of the definitions; for a domain hard is to be near a multiple of the modulus. Assumes
-- nothing.
use mathlib.Core.Path.{◌≡◌, ap, subst}
use mathlib.Core.Logic.{◌↔◌, ◌⊎◌, inl, inr, ⊎_elim, by_cases}
use Prim.Native.Nat.{ℕ, suc, ◌+◌, ◌-◌, ◌*◌, ◌/◌, ◌≤◌, ◌<◌}
use native.Mathlib.Nat.{div-add-mod'}
use native.Mathlib.Decide.{dec_le}
use native.Mathlib.Omega.{arith}
use lib.IntN.{ℤ, pos, sub_ℕ, ◌+ℤ◌, ◌*ℤ◌}
use Rattle.numbers.proofs.Congruences.{Congruent, flip, chain, cancel, same}
use Rattle.numbers.proofs.Integers.{gain, loss, Difference, number, difference, sum, product, scaled, balanced, same_integer, size_below, split}
use Rattle.geometry.specs.Segment.{Segment, residue}
use Rattle.geometry.specs.Segment as geometry
use Rattle.geometry.proofs.Laws.{residue_lt, residue_congruent}
use Rattle.geometry.proofs.Promises as geometry_promises
use Rattle.parabola.specs.Parabola.{Hard, triangle, value_at, centred}
use Rattle.parabola.proofs.Laws.{positive, triangle_twice, value_congruent, value_is}
use Rattle.parabola.proofs.Promises.{promised}
use Rattle.domain.specs.Domain.{parabola_of, centred_of, Searchable}
use Rattle.domain.specs.Promise.{ValueInNumbers, HardInNumbers, NearAMultiple, ResidueInSegment, HardInSegment}
use Rattle.domain.specs.declared.Domain.{Domain}

module _ (d : Domain) (x : ℕ) where
  -- twice the terms of V(x), and k times twice the modulus: what they add, and what they take away
  abbrev added : (k : ℕ) → ℕ
  added k = 2 * (d.value + d.slope * x) + gain d.curve * (x * (x - 1)) + k * (2 * d.modulus)

  abbrev taken : (k : ℕ) → ℕ
  taken k = 0 + loss d.curve * (x * (x - 1)) + k * (2 * d.modulus)

  doubled : {k : ℤ} {a b : ℕ} → Difference k a b
      → Difference (pos (2 * (d.value + d.slope * x)) +ℤ d.curve *ℤ pos (x * (x - 1)) +ℤ k *ℤ pos (2 * d.modulus)) (added a) (taken b)
  doubled p = sum (sum (number (2 * (d.value + d.slope * x))) (product d.curve (x * (x - 1)))) (scaled (2 * d.modulus) p)

  -- x(x-1) is twice the triangle
  twice : (n : ℕ) → n * (x * (x - 1)) ≡ 2 * (n * triangle x)
  twice n = omega (arith, ap (λ (m : ℕ). n * m) (triangle_twice x))

  -- the value by the definition is the value in numbers, and no other number is
  pub value_in_numbers : 0 < d.modulus → ValueInNumbers d x (value_at (parabola_of d) x)
  value_in_numbers positive =
      let c = value_congruent (parabola_of d) positive x in
      let e = same_integer (number (2 * value_at (parabola_of d) x)) (doubled (difference c.under c.over))
      (omega (arith, c.equal, twice (gain d.curve), twice (loss d.curve))) in
      ((promised.values (parabola_of d) positive).in_range x, (sub_ℕ c.under c.over, e))

  one_value : 0 < d.modulus → {v : ℕ} → ValueInNumbers d x v → v ≡ value_at (parabola_of d) x
  one_value positive {v} h =
      let k = h.1.0 in
      let e = balanced h.1.1 (number (2 * v)) (doubled (split k)) in
      let c : Congruent d.modulus (v + loss d.curve * triangle x) (d.value + d.slope * x + gain d.curve * triangle x)
      = record { over = loss k; under = gain k; equal = omega (arith, e, twice (gain d.curve), twice (loss d.curve)) } in
      value_is (parabola_of d) positive x h.0 c

  -- hard on either side, by the definition of values
  abbrev EitherSide : Type 0
  EitherSide = (x < d.count) × ((value_at (parabola_of d) x < d.window) ⊎ (d.modulus - value_at (parabola_of d) x < d.window))

  by_values : 0 < d.modulus → EitherSide ↔ HardInNumbers d x
  by_values positive = (
    λ h. (h.0, (value_at (parabola_of d) x, value_in_numbers positive, h.1)),
    λ h. (h.0, subst (λ (u : ℕ). (u < d.window) ⊎ (d.modulus - u < d.window)) (one_value positive h.1.1) h.1.2),
  )

  -- it is hard by the test of the parabola that the phases search
  pub hard_by_numbers : Searchable d → Hard (centred_of d) x ↔ HardInNumbers d x
  hard_by_numbers a =
      let values = by_values (positive a) in
      let hard = (promised.centred_correct (parabola_of d) a).hard x in
      unfold centred in (λ h. values.0 (h.0, hard.0 h.1), λ h. let v = values.1 h in (v.0, hard.1 v.1))

  -- ---- by the distance to a multiple

  -- a number below M that makes up the difference is V(x)
  remainder_of : (v a b : ℕ) → v < d.modulus → (v < d.window) ⊎ (d.modulus - v < d.window) → x < d.count → 2 * v + taken b ≡ added a
      → HardInNumbers d x
  remainder_of v a b low near below e =
      (below, (v, (low, (sub_ℕ a b, same_integer (number (2 * v)) (doubled (difference a b)) (omega (arith, e)))), near))

  pub nearest : d.window ≤ d.modulus → HardInNumbers d x ↔ NearAMultiple d x
  nearest most = (to, from)
    where
      -- v is above a multiple, or below the next one
      to : HardInNumbers d x → NearAMultiple d x
      to h =
          let v = h.1.0 in
          let k = h.1.1.1.0 in
          let e = balanced h.1.1.1.1 (number (2 * v)) (doubled (split k)) in
          ⊎_elim
          (λ l. (h.0, (k, (size_below (doubled (split k))).1 (omega (arith, e, l), omega (arith, e, l)))))
          (λ l. (
            h.0,
            (sub_ℕ (gain k) (suc (loss k)), (size_below (doubled (difference (gain k) (suc (loss k))))).1 (omega (arith, e, h.1.1.0), omega (arith, e, l))),
          ))
          h.1.2

      from : NearAMultiple d x → HardInNumbers d x
      from h =
          let k = h.1.0 in
          let l = (size_below (doubled (split k))).0 h.1.1 in
          let even = twice (gain d.curve) in
          let even_taken = twice (loss d.curve) in
          let up : ℕ = added (gain k) in
          let down : ℕ = taken (loss k) in
          by_cases (dec_le down up)
          (λ m. remainder_of ((up - down) / 2) (gain k) (loss k) (omega (arith, l.0)) (inl (omega (arith, l.0))) h.0 (omega (arith, even, even_taken)))
          (λ m. remainder_of (d.modulus - (down - up) / 2) (suc (gain k)) (loss k) (omega (arith, even, even_taken))
          (inr (omega (arith, l.1, even, even_taken))) h.0 (omega (arith, l.1, even, even_taken)))

-- of a segment
module _ (s : Segment) (x : ℕ) (low : s.step < s.unit) (start : s.start < s.unit) where
  pub residue_in_segment : ResidueInSegment s.unit s.step s.start x (residue s x)
  residue_in_segment =
      let r = (geometry_promises.promised).residues s low start in
      let n = residue s x + s.step * x in
      (r.in_range x, (n / s.unit, omega (arith, r.congruent x, div-add-mod' n s.unit)))

  one_residue : {r : ℕ} → ResidueInSegment s.unit s.step s.start x r → r ≡ residue s x
  one_residue {r} h =
      let c : Congruent s.unit (r + s.step * x) s.start = record { over = 0; under = h.1.0; equal = omega (arith, h.1.1) } in
      same h.0 (residue_lt s x (omega arith)) (cancel (s.step * x) (chain c (flip (residue_congruent s x (omega arith)))))

  pub hard_in_segment : geometry.Hard s x ↔ HardInSegment s.unit s.step s.start s.count s.window x
  hard_in_segment = (λ h. (h.0, (residue s x, residue_in_segment, h.1)), λ h. (h.0, omega (arith, one_residue h.1.1, h.1.2)))
