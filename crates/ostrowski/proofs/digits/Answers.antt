-- `ostrowski::digits` meets its contract: a refusal, or the digits of an argument below the period.
-- Assumes nothing.
use Rattle.std.proofs.Common.{Ok, refl, sym, ap, ◌∙◌, rules, arith}
use Rattle.expansion.specs.Answer.{answer}
use Rattle.ostrowski.proofs.Refusals.{argument_first, digits_or_refusal}
use Rattle.ostrowski.proofs.Taking.{tabled, argument_refused, argument_accepted, taking_first, taking_next, none_written, digit_written, digits_written}
use Rattle.ostrowski.proofs.digits.Goals as goal

pub returns-in_err-denominators : goal.returns-in_err-denominators
unfolding answer
returns-in_err-denominators c = rw (digits_or_refusal _ _ _) (search (rules, argument_first))

pub returns-then-denominators-last : goal.returns-then-denominators-last
returns-then-denominators-last c =
    argument_refused (tabled c.in_ok-denominators.ensures) _ c.if-denominators-last.true
    ∙ sym (digits_or_refusal _ _ _)

pub loop-row-init : goal.loop-row-init
loop-row-init c =
    let t = taking_first (tabled c.in_ok-denominators.ensures) c.if-denominators-last.false in
    record { taking = t; written = none_written t refl }

pub loop-row-preserved : goal.loop-row-preserved
loop-row-preserved c =
    let i = c.loop-row.invariant in
    record {
      taking = taking_next i.taking c.loop-row-test.true;
      written = digit_written i.taking c.loop-row-test.true i.written;
    }

pub returns : goal.returns
returns c =
    let i = c.loop-row.invariant in
    ap Ok (digits_written i.taking (omega arith) i.written) ∙ argument_accepted i.taking _
    ∙ sym (digits_or_refusal _ _ _)
