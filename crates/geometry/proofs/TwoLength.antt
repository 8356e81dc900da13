-- Two-length configurations: the points a·z mod M, z below u + v, on a circle of length M. The gap above z is p long where z is below v, up to
-- z + u, and q long where not, up to z - v. The longer gaps are cut by the shorter length: each new point is one multiple, of u or of v, from an
-- old one. Assumes nothing.
use mathlib.Core.Path.{◌≡◌, ap, subst₂}
use mathlib.Core.Logic.{by_cases}
use Prim.Native.Nat.{ℕ, zero, suc, ◌+◌, ◌-◌, ◌*◌, ◌≤◌, ◌<◌}
use native.Mathlib.Nat.{mul-one, mod-eq_of_lt, sub-add_cancel, le_of_lt}
use native.Mathlib.Decide.{dec_lt}
use native.Mathlib.Omega.{arith}
use Rattle.geometry.specs.TwoLength.{multiple_mod, TwoLength}
use Rattle.geometry.proofs.Residues.{multiple_lt, multiple_zero, multiple_low, multiple_high}

-- one point, with one gap
pub first : {M a : ℕ} → 0 < a → a < M → TwoLength M a 1 0 a M
first {M} {a} h l =
    record {
      at_u = unfold multiple_mod in rw mul-one (mod-eq_of_lt l);
      at_v = omega (arith, multiple_zero M a);
      whole = omega arith;
      positive_u = omega arith;
      positive_p = h;
      positive_q = omega arith;
      low = λ z i j. omega arith;
      high = λ z j. let e : z ≡ 0 = omega arith in omega (arith, ap (multiple_mod M a) e, multiple_zero M a);
    }

module _ {M a u v p q : ℕ} (c : TwoLength M a u v p q) where
  -- the modulus is positive
  pub unit_positive : 0 < M
  unit_positive = omega arith

  -- p is below the modulus
  pub p_below : p < M
  p_below = omega (arith, multiple_lt M a u unit_positive)

  -- arguments below u lead at least p + q up
  pub far_up : (z : ℕ) → 0 < z → z < u → p + q ≤ multiple_mod M a z
  far_up z i j =
      let b = c.low z i (omega arith) in
      by_cases (dec_lt (multiple_mod M a z) q)
      (λ l. absurd (omega (arith, multiple_low M a z v unit_positive (omega arith), c.high (z + v) (omega arith))))
      (λ l. omega (arith, multiple_high M a z v unit_positive (omega arith), c.low (z + v) (omega arith) (omega arith)))

  -- and those below v at least p + q down
  pub far_down : (z : ℕ) → z < v → multiple_mod M a z + (p + q) ≤ M
  far_down z j =
      let b = multiple_lt M a z unit_positive in
      by_cases (dec_lt (multiple_mod M a z + p) M)
      (λ l. omega (arith, multiple_low M a z u unit_positive (omega arith), c.high (z + u) (omega arith)))
      (λ l. absurd (omega (arith, multiple_high M a z u unit_positive (omega arith), c.low (z + u) (omega arith) (omega arith))))

  -- the gaps of length q are cut by p
  cut_q_once : p < q → TwoLength M a u (v + u) p (q - p)
  cut_q_once h =
      record {
        at_u = c.at_u;
        at_v = omega (arith, multiple_low M a v u unit_positive (omega arith));
        whole = omega (arith, ap (λ (n : ℕ). u * n) (sub-add_cancel (le_of_lt h)));
        positive_u = c.positive_u;
        positive_p = c.positive_p;
        positive_q = omega arith;
        low = λ z i j. by_cases (dec_lt z (u + v)) (c.low z i) (λ l. (new z l j).0);
        high = λ z j. by_cases (dec_lt z (u + v)) (λ l. omega (arith, c.high z l)) (λ l. (new z l j).1);
      }
    where
      new : (z : ℕ) → (z < u + v → ⊥) → z < u + (v + u) → (p ≤ multiple_mod M a z) × (multiple_mod M a z + (q - p) ≤ M)
      new z i j =
          let b = c.high (z - u) (omega arith) in
          let e : z ≡ z - u + u = omega arith in
          omega (arith, ap (multiple_mod M a) e, multiple_low M a (z - u) u unit_positive (omega arith))

  -- the gaps of length p are cut by q
  cut_p_once : q < p → TwoLength M a (u + v) v (p - q) q
  cut_p_once h =
      record {
        at_u = omega (arith, multiple_high M a u v unit_positive (omega arith));
        at_v = c.at_v;
        whole = omega (arith, ap (λ (n : ℕ). v * n) (sub-add_cancel (le_of_lt h)));
        positive_u = omega arith;
        positive_p = omega arith;
        positive_q = c.positive_q;
        low = λ z i j. by_cases (dec_lt z (u + v)) (λ l. omega (arith, c.low z i l)) (λ l. (new z l j).0);
        high = λ z j. by_cases (dec_lt z (u + v)) (c.high z) (λ l. (new z l j).1);
      }
    where
      new : (z : ℕ) → (z < u + v → ⊥) → z < u + v + v → (p - q ≤ multiple_mod M a z) × (multiple_mod M a z + q ≤ M)
      new z i j =
          let b = c.low (z - v) (omega arith) (omega arith) in
          let d = c.high (z - v) (omega arith) in
          let e : z ≡ z - v + v = omega arith in
          omega (arith, ap (multiple_mod M a) e, multiple_high M a (z - v) v unit_positive (omega arith))

module _ {M a u v p q : ℕ} (c : TwoLength M a u v p q) where
  -- the gaps of length q are cut j times by p
  pub cut_q : (j : ℕ) → j * p < q → TwoLength M a u (v + j * u) p (q - j * p)
  cut_q zero h = subst₂ (λ (y z : ℕ). TwoLength M a u y p z) (omega arith) (omega arith) c
  cut_q (suc j) h = subst₂ (λ (y z : ℕ). TwoLength M a u y p z) (omega arith) (omega arith) (cut_q_once (cut_q j (omega arith)) (omega arith))

  -- the gaps of length p are cut j times by q
  pub cut_p : (j : ℕ) → j * q < p → TwoLength M a (u + j * v) v (p - j * q) q
  cut_p zero h = subst₂ (λ (y z : ℕ). TwoLength M a y v z q) (omega arith) (omega arith) c
  cut_p (suc j) h = subst₂ (λ (y z : ℕ). TwoLength M a y v z q) (omega arith) (omega arith) (cut_p_once (cut_p j (omega arith)) (omega arith))
