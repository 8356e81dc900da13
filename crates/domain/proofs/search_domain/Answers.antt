-- `domain::search_domain` meets its contract: the marks by their numbers. Assumes nothing.
use Rattle.std.proofs.Common.{◌≡◌, ℕ, List, Ok, Err, sym, ap, ◌∙◌}
use Rattle.numbers.specs.declared.refusals.Refusal.{Refusal}
use Rattle.numbers.specs.Refusals.{outcome}
use Rattle.numbers.proofs.Checklists.{unrefused_new, refused_old}
use Rattle.numbers.proofs.Outcomes.{shown_accepted, not_refused}
use Rattle.domain.specs.Marks.{mark_numbers}
use Rattle.domain.specs.Domain.{centred_of}
use Rattle.domain.specs.Answer.{found, domain_number, domain_answer, marks_of, marks_after, mark_numbers_after}
use Rattle.domain.specs.declared.Domain.{Domain}
use Rattle.domain.specs.declared.Searched.{Searched}
use Rattle.domain.specs.declared.marks.Mark.{Mark}
use Rattle.domain.proofs.search_domain.Goals as goal

-- an answer says that nothing refuses, and a refusal that a number does
unrefused : (d : Domain) (m n : ℕ) {s : Searched} → domain_answer d m n ≡ Ok s → domain_number d m n ≡ 0
unfolding domain_answer
unrefused d m n e = shown_accepted (domain_number d m n) _ e

refused : (d : Domain) (m n : ℕ) {r : Refusal} → domain_answer d m n ≡ Err r → domain_number d m n ≡ 0 → ⊥
unfolding domain_answer
refused d m n e z = not_refused (found (centred_of d)) (ap (λ (k : ℕ). outcome k (found (centred_of d))) (sym z) ∙ e)

kept : (d : Domain) (m n : ℕ) (old : List ℕ) {r : Refusal} → domain_answer d m n ≡ Err r → old ≡ mark_numbers_after d m n old
unfolding mark_numbers_after
kept d m n old e = sym (refused_old (domain_number d m n) (mark_numbers (marks_of d)) old (refused d m n e))

shown : (d : Domain) (m n : ℕ) (marks : List Mark) (old : List ℕ) {s : Searched} → domain_answer d m n ≡ Ok s
    → mark_numbers (marks_after d m n marks) ≡ mark_numbers_after d m n old
unfolding marks_after mark_numbers_after
shown d m n marks old e =
    let z = unrefused d m n e in
    ap mark_numbers (unrefused_new (marks_of d) marks z) ∙ sym (unrefused_new (mark_numbers (marks_of d)) old z)

pub returns-in_err-found-clause-marks_after : goal.returns-in_err-found-clause-marks_after
returns-in_err-found-clause-marks_after c = kept c.args.domain _ _ _ (sym c.search.ensures.value ∙ c.in_err-found.was)

pub returns-clause-marks_after : goal.returns-clause-marks_after
returns-clause-marks_after c =
    c.numbers_of.ensures ∙ ap mark_numbers c.search.ensures.marks_after
    ∙ shown c.args.domain _ _ _ _ (sym c.search.ensures.value ∙ c.in_ok-found.was)
