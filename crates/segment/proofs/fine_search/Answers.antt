-- `segment::fine_search` meets its contract: a refusal, or what the state shows in which the
-- search ends. Assumes nothing.
use Rattle.std.proofs.Common.{sym, ◌∙◌, arith, rules}
use Rattle.numbers.specs.Refusals.{outcome}
use Rattle.expansion.specs.Reached.Search.{fine}
use Rattle.segment.specs.Answer.{fine_answer}
use Rattle.segment.proofs.Answers.{unrefused, points_few, fine_answered}
use Rattle.segment.proofs.Stepping.{goes_on}
use Rattle.segment.proofs.fine_search.Goals as goal

pub returns-in_err-refuse : goal.returns-in_err-refuse
unfolding outcome fine_answer
returns-in_err-refuse c = search rules

pub end-end-requires : goal.end-end-requires
end-end-requires c = let a = unrefused _ (sym c.refuse.ensures ∙ c.in_ok-refuse.was) in goes_on fine (omega arith)

pub overflow_add-result : goal.overflow_add-result
overflow_add-result c =
    let few = points_few fine _ _ _ _ _ (unrefused _ (sym c.refuse.ensures ∙ c.in_ok-refuse.was)) c.end-end.ensures in
    search rules

pub returns : goal.returns
returns c =
    rw c.judge.ensures (fine_answered _ _ _ _ _ (unrefused _ (sym c.refuse.ensures ∙ c.in_ok-refuse.was)) c.end-end.ensures)
