-- `arc::within::Within::covering_start` meets its contract. Assumes nothing.
use Rattle.std.proofs.Common.{arith}
use lib.IntN.{pos}
use lib.Signed.{le_z}
use Rattle.numbers.proofs.Selections.{kept_most}
use Rattle.numbers.proofs.Signed.{read}
use Rattle.parabola.proofs.Laws.{spread_most}
use Rattle.arc.proofs.Arcs.{curve_kept, start_risen}
use Rattle.arc.proofs.within.Within.covering_start.Goals as goal

-- D or nothing, by the curve's sign

pub overflow_add-arc : goal.overflow_add-arc
overflow_add-arc c =
    let r = c.args.self.in_range in
    let most = kept_most c.spread.result (le_z (pos 0) (read c.args.self.arc.curve)) in
    record { fits = omega (arith, most, c.spread.ensures, spread_most r, r.value_below, r.unit_within.1) }

pub returns : goal.returns
returns c = rw (c.reduce.ensures, c.spread.ensures, curve_kept c.args.self.in_range) (start_risen c.args.self.in_range)
