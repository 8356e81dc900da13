-- `arc::within::Within::covering_window` meets its contract. Assumes nothing.
use Rattle.std.proofs.Common.{arith}
use Rattle.parabola.specs.Parabola.{covering_window}
use Rattle.parabola.proofs.Laws.{spread_most}
use Rattle.arc.proofs.within.Within.covering_window.Goals as goal

pub overflow_add-arc : goal.overflow_add-arc
overflow_add-arc c = let r = c.args.self.in_range in record { fits = omega (arith, c.spread.ensures, spread_most r, r.window_high, r.unit_within.1) }

pub overflow_add-arc-2 : goal.overflow_add-arc-2
overflow_add-arc-2 c = let r = c.args.self.in_range in record { fits = omega (arith, c.spread.ensures, spread_most r, r.window_high, r.unit_within.1) }

pub returns : goal.returns
unfolding covering_window
returns c = omega (arith, c.min.ensures, c.spread.ensures)
