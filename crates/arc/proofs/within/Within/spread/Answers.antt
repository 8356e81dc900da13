-- `arc::within::Within::spread` meets its contract. Assumes nothing.
use Rattle.std.proofs.Common.{arith}
use Rattle.parabola.specs.Parabola.{spread}
use Rattle.parabola.proofs.Laws.{triangle_square, spread_most}
use Rattle.arc.proofs.Arcs.{curve_kept}
use Rattle.arc.proofs.within.Within.spread.Goals as goal

pub overflow_mul-result-2 : goal.overflow_mul-result-2
overflow_mul-result-2 c =
    rw (c.magnitude.ensures, triangle_square c.args.self.arc.count, curve_kept c.args.self.in_range)
    (record { fits = unfold spread in omega (arith, spread_most c.args.self.in_range) })

pub returns : goal.returns
unfolding spread
returns c = rw (c.magnitude.ensures, triangle_square c.args.self.arc.count, curve_kept c.args.self.in_range)
