-- `segment::refuse` meets its contract: each return is the first condition that does not hold, or
-- none. Assumes nothing.
use Rattle.std.proofs.Common.{refl, sym, ◌∙◌, arith, rules, inl, inr, ◌<◌, ◌≡◌, ℕ, Ok}
use Rattle.numbers.specs.Unit.{Ranged}
use Rattle.numbers.specs.Checklist.{first_failing}
use Rattle.numbers.specs.Refusals.{outcome, tested}
use Rattle.numbers.specs.declared.refusals.Refusal.TheVariants.{Start, Count, Window}
use Rattle.numbers.proofs.Outcomes.{tested_accepted, outcome_refused, outcome_accepted}
use Rattle.expansion.specs.Answer as expansion
use Rattle.expansion.proofs.Promises.{promised}
use Rattle.segment.specs.Accepted.{checks, refusal}
use Rattle.segment.proofs.refuse.Goals as goal

-- the modulus and the step hold
held : (M a : ℕ) → tested (expansion.refusal M a) ≡ Ok tt → Ranged M × (a < M)
held M a e = let h = (promised.answers M a).accepted.0 (sym (promised.refusals M a) ∙ tested_accepted _ e) in ((h.0, h.1), h.2)

pub returns-in_err-refuse : goal.returns-in_err-refuse
unfolding refusal expansion.refusal outcome first_failing
returns-in_err-refuse c = search rules

pub returns-then-modulus-start : goal.returns-then-modulus-start
unfolding refusal
returns-then-modulus-start c =
    let h = held _ _ (sym c.refuse.ensures ∙ c.in_ok-refuse.was) in outcome_refused (checks _) Start tt (inr (h.0, inr (h.1, inl (refl, omega arith))))

pub returns-then-count-lt1 : goal.returns-then-count-lt1
unfolding refusal
returns-then-count-lt1 c =
    let h = held _ _ (sym c.refuse.ensures ∙ c.in_ok-refuse.was) in
    outcome_refused (checks _) Count tt (inr (h.0, inr (h.1, inr (omega arith, inl (refl, omega (arith, c.then-count-lt1.either))))))

pub returns-then-window-lt1 : goal.returns-then-window-lt1
unfolding refusal
returns-then-window-lt1 c =
    let h = held _ _ (sym c.refuse.ensures ∙ c.in_ok-refuse.was) in
    outcome_refused (checks _) Window tt (inr (h.0, inr (h.1, inr (omega arith, inr (omega arith, inl (refl, omega (arith, c.then-window-lt1.either)))))))

pub returns : goal.returns
unfolding refusal
returns c = let h = held _ _ (sym c.refuse.ensures ∙ c.in_ok-refuse.was) in outcome_accepted (checks _) tt (omega arith)
