-- `domain::search` meets its contract: it goes from phase to phase. Assumes nothing.
use Rattle.std.proofs.Common.{sym, ◌∙◌, arith, rules, ◌≡◌, ◌≤◌, ◌^◌, Result}
use Rattle.std.proofs.lemmas.Result.{err_from_is_err_and}
use mir.Facts.{to_z-of_z}
use mir.Syntax.{w64}
use mir.Val.{SFits, to_z, of_z}
use Rattle.numbers.specs.Refusals.{tested}
use Rattle.numbers.specs.declared.refusals.Refusal.{Refusal}
use Rattle.numbers.proofs.Outcomes.{tested_accepted}
use Rattle.arc.specs.Arc.{asked, refusal}
use Rattle.domain.specs.declared.Domain.{Domain}
use Rattle.domain.specs.Domain.{parabola_of, Searchable, Accepted}
use Rattle.domain.proofs.Answers.{searchable_iff, never_cleared, domain_refused, origin_refused, domain_cleared, domain_searched}
use Rattle.domain.proofs.search.Goals as goal
use Rattle.domain.proofs.search.Goals.{In_ok-refuse}

-- the test is of the domain's parabola, whose curve is read as it is
test_is : (d : Domain) {r : Result (Unit {0}) Refusal}
    → tested (refusal (asked d.modulus d.value d.slope (to_z w64 (of_z w64 d.curve)) d.count d.window)) ≡ r → SFits w64 d.curve
    → tested (refusal (parabola_of d)) ≡ r
test_is d e fits = rw (to_z-of_z fits) at e

-- where that does not refuse
searchable : (c : In_ok-refuse) → Searchable c.args.domain
searchable c = (searchable_iff c.args.domain).0 (tested_accepted _ (test_is c.args.domain (sym c.refuse.ensures ∙ c.in_ok-refuse.was) (search rules)))

-- nor the origin
taken_on : (c : In_ok-refuse) → c.args.domain.origin ≤ 2 ^ 52 → Accepted c.args.domain
taken_on c h = record { searchable = searchable c; origin_within = h }

pub returns-in_err-refuse : goal.returns-in_err-refuse
returns-in_err-refuse c =
    let e = err_from_is_err_and c.from_residual.result c.from_residual.ensures.1 in
    let l = domain_refused c.args.domain c.args.marks.now c.args.list.now c.args.values.now
    (test_is c.args.domain (sym c.refuse.ensures ∙ c.in_err-refuse.was) (search rules)) in
    record { value = rw (e.1, e.2) l.value; marks_after = l.marks_after; list_after = l.list_after; values_after = l.values_after }

pub returns-then-domain-gt-LARGEST_ORIGIN : goal.returns-then-domain-gt-LARGEST_ORIGIN
returns-then-domain-gt-LARGEST_ORIGIN c =
    let s = searchable (goal.at.returns-then-domain-gt-LARGEST_ORIGIN c).In_ok-refuse in
    origin_refused c.args.domain c.args.marks.now c.args.list.now c.args.values.now s c.if-domain-gt-LARGEST_ORIGIN.true

pub centred-scan-requires : goal.centred-scan-requires
centred-scan-requires c = taken_on (goal.at.centred-scan-requires c).In_ok-refuse c.if-domain-gt-LARGEST_ORIGIN.false

pub overflow_sub-domain : goal.overflow_sub-domain
overflow_sub-domain c = let s = searchable (goal.at.overflow_sub-domain c).In_ok-refuse in omega (arith, s.unit_within)

pub search_parts-requires : goal.search_parts-requires
search_parts-requires c =
    never_cleared c.args.domain c.args.marks.now c.args.list.now c.args.values.now
    (taken_on (goal.at.search_parts-requires c).In_ok-refuse c.if-domain-gt-LARGEST_ORIGIN.false)
    c.centred-scan.ensures.made c.if-scan-domain.true

pub returns-then-scan-domain : goal.returns-then-scan-domain
returns-then-scan-domain c =
    let e = c.centred-scan.ensures in
    domain_searched c.args.domain c.args.marks.now c.args.list.now c.args.values.now
    (taken_on (goal.at.returns-then-scan-domain c).In_ok-refuse c.if-domain-gt-LARGEST_ORIGIN.false)
    e.made e.raise e.begin c.search_parts.ensures

pub returns-in-Clear : goal.returns-in-Clear
returns-in-Clear c =
    domain_cleared c.args.domain c.args.marks.now c.args.list.now c.args.values.now
    (taken_on (goal.at.returns-in-Clear c).In_ok-refuse c.if-domain-gt-LARGEST_ORIGIN.false)
    c.centred-scan.ensures.made (sym c.regular_verdict.ensures ∙ c.in-Clear.is)

pub search_parts-requires-in-Possible : goal.search_parts-requires-in-Possible
search_parts-requires-in-Possible c = sym c.regular_verdict.ensures ∙ c.in-Possible.is

pub returns-in-Possible : goal.returns-in-Possible
returns-in-Possible c =
    let e = c.centred-scan.ensures in
    domain_searched c.args.domain c.args.marks.now c.args.list.now c.args.values.now
    (taken_on (goal.at.returns-in-Possible c).In_ok-refuse c.if-domain-gt-LARGEST_ORIGIN.false)
    e.made e.raise e.begin c.search_parts-in-Possible.ensures
