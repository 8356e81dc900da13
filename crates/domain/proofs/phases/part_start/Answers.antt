-- `domain::phases::part_start` meets its contract. Assumes nothing.
use Rattle.std.proofs.Common.{arith}
use Rattle.parabola.specs.Parabola.{part_start}
use Rattle.domain.proofs.phases.part_start.Goals as goal

pub returns : goal.returns
unfolding part_start
returns c = omega (arith, c.min.ensures)
