-- What the bounds of a parabola give: its unit is not 0, and the products that the code makes fit a word, as D is at most 2^59. Assumes nothing.
use Prim.Native.Nat.{ℕ, ◌*◌, ◌≤◌, ◌<◌}
use native.Mathlib.Nat.{mul-le-mul}
use native.Mathlib.Omega.{arith}
use lib.IntN.{nat_abs}
use Rattle.numbers.proofs.Selections.{filter_few}
use Rattle.parabola.specs.Parabola.{Parabola, triangle, is_hard, hard_list, spread, InRange}
use Rattle.parabola.proofs.Values.{triangle_double}
use lib.ListN.{length}

-- x(x-1)/2 for arguments up to 2^20
pub triangle_most : (x : ℕ) → x ≤ 1048576 → triangle x ≤ 549755813888
triangle_most x h = omega (arith, triangle_double x, mul-le-mul {n₁ = x} {m₁ = x} {n₂ = 1048576} {m₂ = 1048576} h h)

module _ {p : Parabola} (range : InRange p) where
  pub positive : 0 < p.unit
  positive = omega (arith, range.value_below)

  pub arc_most : (x : ℕ) → x ≤ 1048576 → nat_abs p.curve * triangle x ≤ 576460752303423488
  arc_most x h = mul-le-mul range.size_small (triangle_most x h)

  pub rise_most : (x : ℕ) → x ≤ 1048576 → nat_abs p.curve * x ≤ 1099511627776
  rise_most x h = mul-le-mul range.size_small h

  pub spread_most : spread p ≤ 576460752303423488
  unfolding spread
  spread_most = arc_most _ (omega (arith, range.count_high))

  -- no list is longer than 2^20
  pub list_most : length (hard_list p) ≤ 1048576
  unfolding hard_list
  list_most = omega (arith, filter_few (is_hard p) p.count 0, range.count_high)
