-- `expansion::expand` meets its contract: a refusal, or the table of an accepted modulus and step.
-- Assumes nothing.
use Rattle.std.proofs.Common.{rules}
use Rattle.expansion.specs.Answer.{answer}
use Rattle.numbers.proofs.Outcomes.{shown_accepted, refused_alike, outcome_shown}
use Rattle.expansion.proofs.Answers.{accepted}
use Rattle.expansion.proofs.expand.Goals as goal

pub returns-in_err-refuse : goal.returns-in_err-refuse
unfolding answer
returns-in_err-refuse c = search (rules, refused_alike)

pub fill-requires : goal.fill-requires
fill-requires c = search (rules, shown_accepted, accepted)

pub returns : goal.returns
unfolding answer
returns c = search (rules, shown_accepted, outcome_shown)
