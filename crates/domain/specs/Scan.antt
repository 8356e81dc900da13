-- A scan's way from a value to the next, and what it writes of each hard argument, for the contracts of the functions that do it. Assumes nothing: these are
-- definitions.
use Rattle.std.specs.Prelude.{List, map, ℕ, ◌+◌, ◌-◌, ◌%◌, ◌^◌, ◌≤◌, ◌<◌}
use Rattle.parabola.specs.Parabola.{Parabola, value_at, hard_list}
use Rattle.arc.specs.declared.Point.{Point}

-- the value and the slope of the next argument
unfoldable pub next_point : (second modulus : ℕ) → Point → Point
next_point c M p = record { value = (p.value + p.slope) % M; slope = (p.slope + c) % M }

-- all numbers are below the modulus, and that is at most 2^62
pub record PointBelow (second modulus : ℕ) (p : Point) : Type 0 where
  pub value_below : p.value < modulus
  pub slope_below : p.slope < modulus
  pub second_below : second < modulus
  pub modulus_high : modulus ≤ 2 ^ 62

-- the hard arguments of a parabola whose first argument is listed as `begin`
abbrev pub listed_from : (begin : ℕ) → Parabola → List ℕ
listed_from begin p = map (λ x. begin + x) (hard_list p)

-- a value that was raised, as it was before, modulo M
unfoldable pub lowered : (raise modulus value : ℕ) → ℕ
lowered raise M v = (v + (M - raise)) % M

-- the value at an argument of a parabola that was raised, as it was before
abbrev pub lowered_at : (raise : ℕ) → Parabola → (x : ℕ) → ℕ
lowered_at raise p x = lowered raise p.unit (value_at p x)

-- and at each of its hard arguments, in their order
abbrev pub lowered_values : (raise : ℕ) → Parabola → List ℕ
lowered_values raise p = map (lowered_at raise p) (hard_list p)
