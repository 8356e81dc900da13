-- The start lies in a gap of a two-length configuration, and the argument shown is the one at that gap's lower end: its residue is below the
-- gap's length. Every other argument has a larger residue, as none lies between. Assumes nothing.
use mathlib.Core.Path.{◌≡◌, ap}
use mathlib.Core.Logic.{by_cases}
use Prim.Native.Nat.{ℕ, ◌+◌, ◌-◌, ◌≤◌, ◌<◌}
use native.Mathlib.Decide.{dec_lt, dec_le}
use native.Mathlib.Omega.{arith}
use Rattle.geometry.specs.Segment.{Segment, residue}
use Rattle.geometry.specs.TwoLength.{multiple_mod, TwoLength, InGap}
use Rattle.geometry.proofs.Residues.{multiple_lt, residue_low, residue_high}
use Rattle.geometry.proofs.TwoLength.{unit_positive, far_up, far_down}

module _ {s : Segment} {u v p q x : ℕ} (c : TwoLength s.unit s.step u v p q) (d : InGap s u v p q x) where
  -- x + z is not between x and the start
  after : (z : ℕ) → 0 < z → x + z < u + v → residue s x < multiple_mod s.unit s.step z
  after z i j =
      by_cases (dec_lt x v) (λ l. omega (arith, d.left l, c.low z i (omega arith)))
      (λ l. omega (arith, d.right (omega arith), far_up c z i (omega arith)))

  -- nor is x - z
  before : (z : ℕ) → z ≤ x → residue s x + multiple_mod s.unit s.step z < s.unit
  before z j =
      by_cases (dec_lt x v) (λ l. omega (arith, d.left l, far_down c z (omega arith)))
      (λ l. omega (arith, d.right (omega arith), c.high z (omega arith)))

  -- every other argument below u + v has a larger residue
  pub unique : (y : ℕ) → y < u + v → (y ≡ x → ⊥) → residue s x < residue s y
  unique y j n = by_cases (dec_lt x y) larger smaller
    where
      larger : x < y → residue s x < residue s y
      larger k =
          let e : y ≡ x + (y - x) = omega arith in
          let f = residue_high s x (y - x) (unit_positive c) (after (y - x) (omega arith) (omega arith)) in
          omega (arith, ap (residue s) e, multiple_lt s.unit s.step (y - x) (unit_positive c))

      smaller : (x < y → ⊥) → residue s x < residue s y
      smaller k =
          let e : x ≡ y + (x - y) = omega arith in
          let f = ap (residue s) e in
          by_cases (dec_le (multiple_mod s.unit s.step (x - y)) (residue s y))
          (λ l. omega (arith, residue_low s y (x - y) (unit_positive c) l, c.low (x - y) (omega arith) (omega arith)))
          (λ l. omega (arith, residue_high s y (x - y) (unit_positive c) (omega arith), before (x - y) (omega arith)))
