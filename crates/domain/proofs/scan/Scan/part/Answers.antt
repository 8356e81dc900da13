-- `domain::scan::Scan::part` meets its contract: a part with arguments begins and ends within the whole. Assumes nothing.
use Rattle.std.proofs.Common.{◌≡◌, suc, arith}
use Rattle.numbers.proofs.Signed.{read}
use Rattle.parabola.specs.Parabola.{part}
use Rattle.parabola.proofs.Promises.{promised}
use Rattle.arc.specs.Arc.{parabola}
use Rattle.domain.proofs.Parts.{begins_below, ends_within, part_made}
use Rattle.domain.proofs.scan.Scan.part.Goals as goal
use Rattle.domain.proofs.scan.Scan.part.Goals.{After-part_count}

made : (c : After-part_count)
    → record {
      unit = c.args.self.within.arc.modulus;
      value = c.in-Some.point.value;
      slope = c.in-Some.point.slope;
      curve = read c.args.self.within.arc.curve;
      count = c.part_count.result;
      window = suc c.args.self.within.arc.highest;
    } ≡ part (parabola c.args.self.within.arc) c.args.i
made c =
    part_made c.args.self.within.arc c.requires.is_part c.requires.some_argument c.args.self.within.in_range
    c.part_start-start.ensures c.in-Some.ensures.1 c.part_count.ensures

pub unreachable-requires : goal.unreachable-requires
unreachable-requires c =
    let below = begins_below c.args.self.within.arc c.requires.is_part c.requires.some_argument in
    let high = c.args.self.within.in_range.count_high in
    omega (arith, below, c.part_start-start.ensures, high, c.in_default.ensures)

pub overflow_add-result : goal.overflow_add-result
overflow_add-result c =
    let below = begins_below c.args.self.within.arc c.requires.is_part c.requires.some_argument in
    record { fits = omega (arith, below, c.part_start-start.ensures, c.args.self.end_bound) }

pub invariant_of-within : goal.invariant_of-within
invariant_of-within c =
    record {
      in_range = rw (made (goal.at.invariant_of-within c).After-part_count)
          ((promised.parts _ c.args.self.within.in_range).in_range_of _ c.requires.some_argument);
    }

pub invariant_of-result-clause-end_bound : goal.invariant_of-result-clause-end_bound
invariant_of-result-clause-end_bound c =
    let within = ends_within c.args.self.within.arc c.requires.is_part c.requires.some_argument in
    omega (arith, within, c.part_start-start.ensures, c.part_count.ensures, c.args.self.end_bound)

pub returns-clause-made : goal.returns-clause-made
returns-clause-made c = made (goal.at.returns-clause-made c).After-part_count
