-- `arc::within::Within::slope_at` meets its contract. Assumes nothing.
use Rattle.numbers.proofs.Integers.{mod_below}
use Rattle.parabola.proofs.Laws.{positive}
use Rattle.arc.proofs.Arcs.{rise_read, slope_of_terms}
use Rattle.arc.proofs.within.Within.slope_at.Goals as goal

pub invariant_of-slope : goal.invariant_of-slope
invariant_of-slope c =
    let r = c.args.self.in_range in
    record {
      first_below = r.slope_below;
      second_below = rw c.remainder.ensures (mod_below (positive r) _);
      modulus_high = r.unit_within.1;
    }

pub returns : goal.returns
returns c =
    let r = c.args.self.in_range in
    rw (c.sum.ensures, c.remainder.ensures, rise_read r _ c.requires) (slope_of_terms r _)
