-- `domain::scan::next` meets its contract. Assumes nothing.
use Rattle.domain.specs.Scan.{next_point}
use Rattle.domain.proofs.Scanning.{line_next}
use Rattle.domain.proofs.scan.next.Goals as goal

pub returns-then-second-eq0 : goal.returns-then-second-eq0
returns-then-second-eq0 c = line_next c.requires c.if-second-eq0.true c.add_fixed.ensures

pub invariant_of-value : goal.invariant_of-value
invariant_of-value c =
    let p = c.requires in
    record {
      first_below = p.value_below;
      second_below = p.slope_below;
      modulus_high = p.modulus_high;
    }

pub invariant_of-slope : goal.invariant_of-slope
invariant_of-slope c =
    let p = c.requires in
    record {
      first_below = p.slope_below;
      second_below = p.second_below;
      modulus_high = p.modulus_high;
    }

pub returns : goal.returns
unfolding next_point
returns c = rw (c.sum.ensures, c.sum-2.ensures)
