-- `arc::Arc::within` meets its contract: the test is read in the arc's own numbers. Assumes nothing.
use Rattle.std.proofs.Common.{◌≡◌, ◌+◌, rules, sym, ◌∙◌, add-one, Result}
use mir.Facts.{to_z-of_z}
use mir.Syntax.{w64}
use mir.Val.{SFits, to_z, of_z}
use Rattle.numbers.specs.Refusals.{tested}
use Rattle.numbers.specs.declared.refusals.Refusal.{Refusal}
use Rattle.numbers.proofs.Outcomes.{outcome_shown}
use Rattle.arc.specs.Arc.{asked, parabola, refusal}
use Rattle.arc.specs.declared.Arc.{Arc}
use Rattle.arc.proofs.Refusals.{accepted, unrefused}
use Rattle.arc.proofs.Arc.within.Goals as goal

test_is : (a : Arc) {r : Result (Unit {0}) Refusal}
    → r ≡ tested (refusal (asked a.modulus a.value a.slope (to_z w64 (of_z w64 a.curve)) a.count (a.highest + 1))) → SFits w64 a.curve
    → r ≡ tested (refusal (parabola a))
test_is a e fits = rw (to_z-of_z fits, add-one) at e

pub invariant_of-result : goal.invariant_of-result
invariant_of-result c =
    record { in_range = unrefused _ (sym (test_is c.args.self c.refuse-refused.ensures (search rules)) ∙ c.in-Ok.is) }

pub returns-in-Err : goal.returns-in-Err
returns-in-Err c = λ range.
    let e = sym c.in-Err.is ∙ test_is c.args.self c.refuse-refused.ensures (search rules) ∙ outcome_shown tt ((accepted _).1 range) in cc
