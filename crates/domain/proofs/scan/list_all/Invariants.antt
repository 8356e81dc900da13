-- `domain::scan::list_all` meets its contract.
-- The invariant of the first loop: the arguments below x are written, and it and all after it are
-- hard. Of the second: the same of the values. Assumes nothing.
use Rattle.std.proofs.Common.{◌+◌, ℕ}
use Rattle.arc.specs.Arc.{parabola}
use Rattle.domain.proofs.Scanning.{FullColumn, FullValues}
use Rattle.domain.proofs.scan.list_all.Given as goal

abbrev pub invariant-loop-x : goal.invariant-loop-x
invariant-loop-x l = FullColumn (λ (y : ℕ). 0 + y) (parabola l.arc) l.initial.list l.list l.x

abbrev pub invariant-loop-x-2 : goal.invariant-loop-x-2
invariant-loop-x-2 l = FullValues (parabola l.arc) l.second l.arc.highest l.initial.values l.values l.point l.x
