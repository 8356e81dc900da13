-- `arc::within::Within::fine_verdict` meets its contract: the search never refuses an arc within the bounds. Assumes nothing.
use Rattle.arc.proofs.Coverings.{fine_unrefused, fine_verdict}
use Rattle.arc.proofs.within.Within.fine_verdict.Goals as goal

pub returns-in-Err : goal.returns-in-Err
returns-in-Err c = absurd (fine_unrefused c.args.self.in_range c.cover.ensures c.fine_search.ensures c.in-Err.is)

pub returns-in-Ok : goal.returns-in-Ok
returns-in-Ok c = fine_verdict c.args.self.in_range c.cover.ensures c.fine_search.ensures c.in-Ok.is
