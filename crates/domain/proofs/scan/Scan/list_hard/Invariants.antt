-- `domain::scan::Scan::list_hard` meets its contract.
-- The loop's invariant: the hard arguments below x and their values are written, and the next ones
-- go to the place `at`. The measure is the number of arguments from x on. Assumes nothing.
use Rattle.std.proofs.Common.{◌+◌, ◌-◌}
use Rattle.arc.specs.Arc.{parabola}
use Rattle.domain.proofs.Scanning.{Listing}
use Rattle.domain.proofs.scan.Scan.list_hard.Given as goal

abbrev pub invariant-loop-at : goal.invariant-loop-at
invariant-loop-at l =
    Listing (parabola l.self.within.arc) l.second l.self.within.arc.highest l.self.raise l.self.begin l.initial.list l.initial.values l.list l.values l.point l.at l.x

abbrev pub decreases-loop-at : goal.decreases-loop-at
decreases-loop-at l = l.self.begin + l.self.within.arc.count - l.x
