-- `domain::scan::Scan::count_hard` meets its contract.
-- The loop's invariant: so many hard arguments are below x. Assumes nothing.
use Rattle.arc.specs.Arc.{parabola}
use Rattle.domain.proofs.Scanning.{Counting}
use Rattle.domain.proofs.scan.Scan.count_hard.Given as goal

abbrev pub invariant-loop-x : goal.invariant-loop-x
invariant-loop-x l = Counting (parabola l.arc) l.second l.arc.highest l.point l._x l.number
