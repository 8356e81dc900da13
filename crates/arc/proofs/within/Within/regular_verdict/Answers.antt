-- `arc::within::Within::regular_verdict` meets its contract. Assumes nothing.
use Rattle.std.proofs.Common.{◌∙◌}
use Rattle.arc.proofs.Coverings.{regular_verdict}
use Rattle.arc.proofs.within.Within.regular_verdict.Goals as goal

pub returns : goal.returns
returns c = c.regular_verdict.ensures ∙ regular_verdict c.args.self.in_range c.cover.ensures
