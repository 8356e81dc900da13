-- `arc::within::Within::cover` meets its contract. Assumes nothing.
use Rattle.parabola.specs.Parabola.{covering_step}
use Rattle.arc.specs.Arc.{covering_segment}
use Rattle.arc.proofs.within.Within.cover.Goals as goal

pub returns : goal.returns
unfolding covering_segment covering_step
returns c = rw (c.covering_window.ensures, c.covering_start.ensures, c.reduce.ensures)
