-- `segment::regular_verdict` meets its contract: possible where the search is refused, else the
-- verdict by the distance. Assumes nothing.
use Rattle.std.proofs.Common.{sym, ◌∙◌, arith}
use Rattle.segment.proofs.Answers.{unrefused, verdict_refused, verdict_answered}
use Rattle.segment.proofs.Sketches.{sketch_goes_on}
use Rattle.segment.proofs.regular_verdict.Goals as goal

pub returns-in_default : goal.returns-in_default
returns-in_default c = verdict_refused _ _ _ _ _ (sym c.refuse.ensures ∙ c.in_default.is)

pub end-sketch-requires : goal.end-sketch-requires
end-sketch-requires c = let a = unrefused _ (sym c.refuse.ensures ∙ c.in-Ok.is) in sketch_goes_on (omega arith)

pub returns : goal.returns
returns c =
    rw c.judge.ensures (verdict_answered _ _ _ _ _ (unrefused _ (sym c.refuse.ensures ∙ c.in-Ok.is)) c.end-sketch.ensures)
