-- The gaps of a configuration are cut by the shorter length: which point is then below the start, and its residue. An even row cuts the long gaps
-- from below and an odd one from above: the point becomes the highest cut that is not above the start, if there is one. Assumes nothing.
use mathlib.Core.Path.{◌≡◌, ap}
use mathlib.Core.Logic.{⊎_elim}
use Prim.Native.Nat.{ℕ, zero, suc, ◌+◌, ◌-◌, ◌*◌, ◌≤◌, ◌<◌}
use native.Mathlib.Nat.{mul-le-mul_right, eq-or-lt_of_le}
use native.Mathlib.Omega.{arith}
use Rattle.geometry.specs.Segment.{Segment, residue}
use Rattle.geometry.specs.TwoLength.{TwoLength, InGap}
use Rattle.geometry.proofs.Residues.{residue_low}
use Rattle.geometry.proofs.TwoLength.{unit_positive, cut_p}

module _ {s : Segment} {u v p q x : ℕ} (c : TwoLength s.unit s.step u v p q) (d : InGap s u v p q x) where
  -- up by p from x
  pub up : (i : ℕ) → i * p ≤ residue s x → residue s (x + i * u) + i * p ≡ residue s x
  up zero h =
      let e : x + 0 * u ≡ x = omega arith in
      omega (arith, ap (residue s) e)
  up (suc i) h =
      let e : x + suc i * u ≡ x + i * u + u = omega arith in
      let f = up i (omega arith) in
      omega (arith, ap (residue s) e, residue_low s (x + i * u) u (unit_positive c) (omega arith))

  module _ (i j : ℕ) where
    -- to the last of j cuts from below, or to the last that is not above the start
    pub shown_up : i ≤ j → i * p ≤ residue s x → (i < j → residue s x < i * p + p) → j * p < q → InGap s u (v + j * u) p (q - j * p) (x + i * u)
    shown_up l f g h =
        let r = up i f in
        ⊎_elim
        (λ e. let a = ap (λ (n : ℕ). n * u) e in
        let b = ap (λ (n : ℕ). n * p) e in
        record { below = omega arith; left = λ k. omega (arith, d.left (omega arith)); right = λ k. omega (arith, d.right (omega arith)) })
        (λ k. omega (arith, mul-le-mul_right u k, g k))
        (eq-or-lt_of_le l)

    -- up by q from the lowest of j cuts from above
    pub cut_up : i < j → p - j * q + i * q ≤ residue s x → j * q < p → residue s (x + (u + j * v - i * v)) + (p - j * q + i * q) ≡ residue s x
    cut_up l f h =
        let e : j ≡ j - i + i = omega arith in
        let a = ap (λ (n : ℕ). n * v) e in
        let b = ap (λ (n : ℕ). n * q) e in
        let t = (cut_p c (j - i) (omega arith)).at_u in
        let w : u + j * v - i * v ≡ u + (j - i) * v = omega arith in
        omega (arith, ap (λ (n : ℕ). residue s (x + n)) w, residue_low s x (u + (j - i) * v) (unit_positive c) (omega arith))

    -- to the last of them that is not above the start
    pub shown_cut_up : i < j → p - j * q + i * q ≤ residue s x → j * q < p → x < v → residue s x < p - j * q + i * q + q
        → InGap s (u + j * v) v (p - j * q) q (x + (u + j * v - i * v))
    shown_cut_up l f h k g =
        omega (arith, cut_up l f h, mul-le-mul_right v l)
