-- `c_api::geyserdish_range` meets its contract: it hands over where `range` lies. Assumes nothing.
use Rattle.std.proofs.Common.{◌∙◌, ap, length}
use Rattle.range.proofs.Promises.{promised}
use Rattle.c_api.proofs.geyserdish_range.Goals as goal

pub returns-clause-returned : goal.returns-clause-returned
returns-clause-returned c = ap length c.range-part.ensures.holds ∙ (promised.handed_back _ _ _).many
