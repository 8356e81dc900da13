-- Values and slopes by what they are congruent to; each value leads to the next by its slope and each slope to the next by the second difference;
-- and from an argument on the parabola goes on. Assumes nothing.
use mathlib.Core.Path.{◌≡◌, refl, sym, ◌∙◌, ap}
use mathlib.Core.Logic.{⊎_elim}
use Prim.Native.Nat.{ℕ, zero, suc, ◌+◌, ◌-◌, ◌*◌, ◌/◌, ◌%◌, ◌≤◌, ◌<◌}
use native.Mathlib.Nat.{mod-lt, eq-or-lt_of_le}
use native.Mathlib.Omega.{arith}
use lib.IntN.{pos, ◌+ℤ◌, ◌*ℤ◌}
use Rattle.numbers.proofs.Congruences.{Congruent, equals, chain, plus, remainder}
use Rattle.numbers.proofs.Integers.{gain, loss, Difference, number, sum, product, mod_below, mod_congruent, mod_is}
use Rattle.parabola.specs.Parabola.{Parabola, triangle, value_at, slope_at, second_difference, continued}

-- ---- x(x-1)/2

square : (x : ℕ) → x * (x - 1) + x ≡ x * x
square zero = refl
square (suc x) =
    let e : suc x - 1 ≡ x = omega arith in
    omega (arith, ap (λ (n : ℕ). suc x * n) e)

halves : (x : ℕ) → (t : ℕ) × (t + t + x ≡ x * x)
halves zero = (0, refl)
halves (suc x) = ((halves x).0 + x, omega (arith, (halves x).1))

-- twice the triangle
pub triangle_double : (x : ℕ) → triangle x + triangle x + x ≡ x * x
unfolding triangle
triangle_double x = omega (arith, (halves x).1, square x)

pub triangle_twice : (x : ℕ) → triangle x + triangle x ≡ x * (x - 1)
triangle_twice x = omega (arith, triangle_double x, square x)

-- as the code has it
pub square_most : (x : ℕ) → x ≤ x * x
square_most x = omega (arith, triangle_double x)

pub triangle_square : (x : ℕ) → (x * x - x) / 2 ≡ triangle x
triangle_square x = omega (arith, triangle_double x)

triangle_zero : triangle 0 ≡ 0
unfolding triangle
triangle_zero = refl

triangle_next : (x : ℕ) → triangle (suc x) ≡ triangle x + x
triangle_next x = omega (arith, triangle_double x, triangle_double (suc x))

pub triangle_grows : (x n : ℕ) → x ≤ n → triangle x ≤ triangle n
triangle_grows x zero h =
    let e : x ≡ 0 = omega arith in
    omega (arith, ap triangle e)
triangle_grows x (suc n) h = ⊎_elim (λ e. omega (arith, ap triangle e)) (λ l. omega (arith, triangle_grows x n (omega arith), triangle_next n)) (eq-or-lt_of_le h)

-- ---- values by congruences

module _ (p : Parabola) where
  value_difference : (x : ℕ) → Difference (pos p.value +ℤ pos p.slope *ℤ pos x +ℤ p.curve *ℤ pos (triangle x))
      (p.value + p.slope * x + gain p.curve * triangle x) (loss p.curve * triangle x)
  value_difference x =
      let d = sum (sum (number p.value) (product (pos p.slope) x)) (product p.curve (triangle x)) in
      record { balance = omega (arith, d.balance) }

  slope_difference : (x : ℕ) → Difference (pos p.slope +ℤ p.curve *ℤ pos x) (p.slope + gain p.curve * x) (loss p.curve * x)
  slope_difference x =
      let d = sum (number p.slope) (product p.curve x) in
      record { balance = omega (arith, d.balance) }

module _ (p : Parabola) (positive : 0 < p.unit) where
  pub value_below : (x : ℕ) → value_at p x < p.unit
  unfolding value_at
  value_below x = mod_below positive _

  pub slope_below : (x : ℕ) → slope_at p x < p.unit
  unfolding slope_at
  slope_below x = mod_below positive _

  pub second_below : second_difference p < p.unit
  unfolding second_difference
  second_below = mod_below positive _

  -- V(x), and what the curve takes away, make up the rest of the formula
  pub value_congruent : (x : ℕ) → Congruent p.unit (value_at p x + loss p.curve * triangle x) (p.value + p.slope * x + gain p.curve * triangle x)
  unfolding value_at
  value_congruent x = mod_congruent positive (value_difference p x)

  pub slope_congruent : (x : ℕ) → Congruent p.unit (slope_at p x + loss p.curve * x) (p.slope + gain p.curve * x)
  unfolding slope_at
  slope_congruent x = mod_congruent positive (slope_difference p x)

  second_congruent : Congruent p.unit (second_difference p + loss p.curve) (gain p.curve)
  unfolding second_difference
  second_congruent = mod_congruent positive (record { balance = omega arith })

  -- and only V(x) does
  pub value_is : (x : ℕ) {r : ℕ} → r < p.unit → Congruent p.unit (r + loss p.curve * triangle x) (p.value + p.slope * x + gain p.curve * triangle x)
      → r ≡ value_at p x
  unfolding value_at
  value_is x low c = mod_is positive (value_difference p x) low c

  pub slope_is : (x : ℕ) {r : ℕ} → r < p.unit → Congruent p.unit (r + loss p.curve * x) (p.slope + gain p.curve * x) → r ≡ slope_at p x
  unfolding slope_at
  slope_is x low c = mod_is positive (slope_difference p x) low c

  pub second_is : {r : ℕ} → r < p.unit → Congruent p.unit (r + loss p.curve) (gain p.curve) → r ≡ second_difference p
  unfolding second_difference
  second_is low c = mod_is positive (record { balance = omega arith }) low c

  -- ---- differences

  -- V(x + 1) = V(x) + c1 + s·x
  pub value_next : (x : ℕ) → value_at p (suc x) ≡ (value_at p x + slope_at p x) % p.unit
  value_next x =
      let l = ap (λ (t : ℕ). loss p.curve * t) (triangle_next x) in
      let g = ap (λ (t : ℕ). gain p.curve * t) (triangle_next x) in
      sym
      (value_is (suc x) (mod-lt (value_at p x + slope_at p x) positive)
      (chain (plus (remainder (value_at p x + slope_at p x) p.unit) (equals l))
      (chain (equals (omega arith)) (chain (plus (value_congruent x) (slope_congruent x)) (equals (omega (arith, g)))))))

  pub slope_next : (x : ℕ) → slope_at p (suc x) ≡ (slope_at p x + second_difference p) % p.unit
  slope_next x =
      sym
      (slope_is (suc x) (mod-lt (slope_at p x + second_difference p) positive)
      (chain (plus (remainder (slope_at p x + second_difference p) p.unit) (equals {a = loss p.curve * suc x} refl))
      (chain (equals (omega arith)) (chain (plus (slope_congruent x) second_congruent) (equals (omega arith))))))

  pub value_first : p.value < p.unit → value_at p 0 ≡ p.value
  value_first h =
      let l = ap (λ (t : ℕ). loss p.curve * t) triangle_zero in
      let g = ap (λ (t : ℕ). gain p.curve * t) triangle_zero in
      sym (value_is 0 h (equals (omega (arith, l, g))))

  pub slope_first : p.slope < p.unit → slope_at p 0 ≡ p.slope
  slope_first h = sym (slope_is 0 h (equals (omega arith)))

-- ---- from an argument on

module _ (p : Parabola) (positive : 0 < p.unit) (h n : ℕ) where
  same_second : second_difference (continued p h n) ≡ second_difference p
  unfolding second_difference continued
  same_second = refl

  pub slope_continues : (y : ℕ) → slope_at (continued p h n) y ≡ slope_at p (h + y)
  unfolding continued
  slope_continues zero =
      let e : h ≡ h + 0 = omega arith in
      slope_first (continued p h n) positive (slope_below p positive h) ∙ ap (slope_at p) e
  slope_continues (suc y) =
      let e : suc (h + y) ≡ h + suc y = omega arith in
      slope_next (continued p h n) positive y ∙ rw (slope_continues y, same_second) (sym (slope_next p positive (h + y)) ∙ ap (slope_at p) e)

  pub value_continues : (y : ℕ) → value_at (continued p h n) y ≡ value_at p (h + y)
  unfolding continued
  value_continues zero =
      let e : h ≡ h + 0 = omega arith in
      value_first (continued p h n) positive (value_below p positive h) ∙ ap (value_at p) e
  value_continues (suc y) =
      let e : suc (h + y) ≡ h + suc y = omega arith in
      value_next (continued p h n) positive y
      ∙ rw (value_continues y, slope_continues y) (sym (value_next p positive (h + y)) ∙ ap (value_at p) e)
