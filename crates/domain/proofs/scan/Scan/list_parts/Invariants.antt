-- `domain::scan::Scan::list_parts` meets its contract.
-- The loop's invariant: what the parts before i list is written, and the values beside it. Assumes nothing.
use Rattle.arc.specs.Arc.{parabola}
use Rattle.domain.proofs.Parts.{ListingParts}
use Rattle.domain.proofs.scan.Scan.list_parts.Given as goal

abbrev pub invariant-loop-i : goal.invariant-loop-i
invariant-loop-i l = ListingParts (parabola l.self.within.arc) l.self.begin l.self.raise l.initial.list l.initial.values l.list l.values l.place l.i
