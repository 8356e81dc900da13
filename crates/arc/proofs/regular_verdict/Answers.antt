-- `arc::regular_verdict` meets its contract. Assumes nothing.
use Rattle.arc.proofs.Coverings.{never_cleared, verdict_is}
use Rattle.arc.proofs.regular_verdict.Goals as goal

pub returns-in-Some : goal.returns-in-Some
returns-in-Some c = verdict_is _ c.in-Some.within c.in-Some.ensures c.regular_verdict.ensures

pub returns-in-None : goal.returns-in-None
returns-in-None c = never_cleared _ _ c.in-None.ensures
