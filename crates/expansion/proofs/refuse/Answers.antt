-- `expansion::refuse` meets its contract: each return is the first condition that does not hold, or
-- none. Assumes nothing.
use Rattle.std.proofs.Common.{refl, inl, inr, arith}
use Rattle.numbers.specs.declared.refusals.Refusal.TheVariants.{Modulus, Step}
use Rattle.numbers.proofs.Outcomes.{outcome_refused, outcome_accepted}
use Rattle.expansion.specs.Answer.{refusal, checks}
use Rattle.expansion.proofs.refuse.Goals as goal

pub returns-then-modulus-lt2 : goal.returns-then-modulus-lt2
unfolding refusal
returns-then-modulus-lt2 c = outcome_refused (checks _ _) Modulus tt (inl (refl, omega (arith, c.then-modulus-lt2.either)))

pub returns-then-modulus-step : goal.returns-then-modulus-step
unfolding refusal
returns-then-modulus-step c = outcome_refused (checks _ _) Step tt (inr (omega arith, inl (refl, omega arith)))

pub returns : goal.returns
unfolding refusal
returns c = outcome_accepted (checks _ _) tt (omega arith)
