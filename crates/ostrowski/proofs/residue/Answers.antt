-- `ostrowski::residue` meets its contract: a refusal, or what the rows come to. Assumes nothing.
use Rattle.std.proofs.Common.{Ok, ap, ◌∙◌, rules, arith}
use Rattle.expansion.specs.Answer.{answer}
use Rattle.ostrowski.specs.Answer.{residue_answer}
use Rattle.ostrowski.proofs.Refusals.{argument_first}
use Rattle.ostrowski.proofs.Taking.{tabled, remainders_tabled, argument_refused, argument_accepted, taking_first, reducing_first, reducing_next, residue_below, term_fits, residue_made}
use Rattle.ostrowski.proofs.residue.Goals as goal

pub returns-in_err-remainders : goal.returns-in_err-remainders
unfolding answer residue_answer
returns-in_err-remainders c = search (rules, argument_first)

pub returns-then-denominators-last : goal.returns-then-denominators-last
unfolding residue_answer
returns-then-denominators-last c =
    argument_refused (tabled c.in_ok-remainders.ensures) _ c.if-denominators-last.true

pub loop-row-init : goal.loop-row-init
loop-row-init c =
    let f = c.in_ok-remainders.ensures in
    reducing_first (taking_first (tabled f) c.if-denominators-last.false) (remainders_tabled f)

pub overflow_mul-term : goal.overflow_mul-term
overflow_mul-term c =
    let h = term_fits c.loop-row.invariant c.loop-row-test.true in omega arith

pub invariant_of-left : goal.invariant_of-left
invariant_of-left c =
    let i = c.loop-row.invariant in
    record {
      first_below = term_fits i c.loop-row-test.true;
      second_below = residue_below i;
      modulus_high = i.taking.table.accepted.most;
    }

pub loop-row-preserved : goal.loop-row-preserved
loop-row-preserved c =
    rw c.difference-residue.ensures (reducing_next c.loop-row.invariant c.loop-row-test.true)

pub returns : goal.returns
unfolding residue_answer
returns c =
    let i = c.loop-row.invariant in
    ap Ok (residue_made i (omega arith)) ∙ argument_accepted i.taking _
