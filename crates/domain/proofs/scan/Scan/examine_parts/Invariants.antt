-- `domain::scan::Scan::examine_parts` meets its contract.
-- The loop's invariant: the marks of the parts before i and how many hard arguments each has are
-- written, and added up. Assumes nothing.
use Rattle.arc.specs.Arc.{parabola}
use Rattle.domain.proofs.Parts.{Examining}
use Rattle.domain.proofs.scan.Scan.examine_parts.Given as goal

abbrev pub invariant-loop-i : goal.invariant-loop-i
invariant-loop-i l = Examining (parabola l.self.within.arc) l.marks l.hard l.total l.i
