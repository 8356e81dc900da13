-- `domain::phases::part_count` meets its contract. Assumes nothing.
use Rattle.std.proofs.Common.{arith, ◌%◌}
use Rattle.parabola.specs.Parabola.{part_count}
use Rattle.domain.proofs.Parts.{one_more}
use Rattle.domain.proofs.phases.part_count.Goals as goal

pub returns : goal.returns
unfolding part_count
returns c = omega (arith, one_more c.args.i (c.args.count % 8))
