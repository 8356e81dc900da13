-- `arc::within::Within::value_at` meets its contract. Assumes nothing.
use Rattle.std.proofs.Common.{arith}
use native.Mathlib.Nat.{mod-lt, mul-le-mul}
use Rattle.numbers.proofs.Integers.{mod_below}
use Rattle.parabola.proofs.Laws.{positive, square_most, triangle_square, triangle_most}
use Rattle.arc.proofs.Arcs.{arc_fits, arc_read, value_of_terms}
use Rattle.arc.proofs.within.Within.value_at.Goals as goal

pub overflow_mul-triangle : goal.overflow_mul-triangle
overflow_mul-triangle c = let x = c.args.x in record { fits = omega (arith, mul-le-mul {n₁ = x} {m₁ = x} c.requires c.requires) }

pub overflow_sub-triangle : goal.overflow_sub-triangle
overflow_sub-triangle c = square_most c.args.x

pub times-requires : goal.times-requires
times-requires c = (c.args.self.in_range.slope_below, c.args.self.in_range.unit_within.1)

pub overflow_cast-triangle : goal.overflow_cast-triangle
overflow_cast-triangle c = rw (triangle_square c.args.x) (record { sfits = omega (arith, triangle_most c.args.x c.requires) })

pub overflow_mul-arc : goal.overflow_mul-arc
overflow_mul-arc c = rw (triangle_square c.args.x) (arc_fits c.args.self.in_range _ c.requires)

pub invariant_of-along : goal.invariant_of-along
invariant_of-along c =
    let r = c.args.self.in_range in
    record {
      first_below = r.value_below;
      second_below = rw c.times.ensures (mod-lt _ (positive r));
      modulus_high = r.unit_within.1;
    }

pub invariant_of-value : goal.invariant_of-value
invariant_of-value c =
    let r = c.args.self.in_range in
    record {
      first_below = rw c.sum.ensures (mod-lt _ (positive r));
      second_below = rw c.remainder.ensures (mod_below (positive r) _);
      modulus_high = r.unit_within.1;
    }

pub returns : goal.returns
returns c =
    rw (
      c.sum-2.ensures,
      c.remainder.ensures,
      c.sum.ensures,
      c.times.ensures,
      triangle_square c.args.x,
      arc_read c.args.self.in_range c.args.x c.requires,
    )
    (value_of_terms c.args.self.in_range _)
