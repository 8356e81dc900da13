-- The answers of the three calls: refused by the first condition that does not hold, and else what
-- is asked for. Assumes nothing.
use Rattle.std.proofs.Common.{Err, ◌≡◌, ℕ, suc, ◌*◌, ◌%◌, ◌^◌, ◌≤◌, ◌<◌, Ok, ◌↔◌, inl, inr, IsOkAnd, refl, sym, ap, ◌∙◌, arith}
use Rattle.numbers.specs.Checklist.{AllHold, RefusedBy}
use Rattle.numbers.specs.declared.refusals.Refusal.{Refusal}
use Rattle.numbers.specs.Refusals.{number_of, number_in}
use Rattle.numbers.specs.declared.refusals.Refusal.TheVariants.{Target}
use Rattle.numbers.proofs.Checklists.{accepts, refuses}
use Rattle.numbers.proofs.Equivalences.{through}
use Rattle.numbers.proofs.Lists.{padded_places, padded_front, padded_after}
use Rattle.numbers.proofs.Outcomes.{failing_number, shown_holds, outcome_refuses}
use Rattle.expansion.specs.Rows.{last, period}
use Rattle.expansion.proofs.Promises as expansion
use Rattle.ostrowski.specs.Digits.{digits_of, residue_of, argument_of}
use Rattle.ostrowski.specs.Answer.{argument_checks, target_checks, argument_refusal, target_refusal, with_digits, digits_answer, residue_answer, divide_answer}
use Rattle.ostrowski.specs.Promise.{ArgumentAsked, TargetAsked, NumeralCorrect, DigitsAnswerCorrect, ResidueAnswerCorrect, DivideAnswerCorrect}
use Rattle.ostrowski.proofs.Writing.{digits_many}
use Rattle.ostrowski.proofs.Residues.{digits_residue}
use Rattle.ostrowski.proofs.Targets.{argument_only, target_correct, argument_correct}
use Rattle.ostrowski.proofs.Refusals.{outcome_shows, argument_named, target_named, digits_or_refusal}

-- ---- digits

module _ (M a x : ℕ) where
  -- the answer has the number of the first condition that does not hold
  number : argument_refusal M a x ≡ number_in (digits_answer M a x)
  unfolding argument_refusal
  number =
      let numeral = with_digits (digits_of M a x) (last M a) in
      sym (failing_number (argument_checks M a x) numeral (argument_named M a x))
      ∙ sym (ap number_in (digits_or_refusal M a x))

  refused : (n : ℕ) → (argument_refusal M a x ≡ suc n) ↔ RefusedBy (ArgumentAsked M a x) (suc n)
  unfolding argument_refusal
  refused = refuses (argument_checks M a x)

  accepted : (argument_refusal M a x ≡ 0) ↔ ((2 ≤ M) × (M ≤ 2 ^ 62) × (a < M) × (x < period M a))
  unfolding argument_refusal
  accepted =
      let r = accepts (argument_checks M a x) (omega arith) in
      (λ e. let h = r.0 e in omega arith, λ h. r.1 (omega arith))

  numeral_correct : a < M → M ≤ 2 ^ 62
      → NumeralCorrect M a x (with_digits (digits_of M a x) (last M a))
  numeral_correct small most =
      let d = digits_of M a x in
      let n = digits_many M a x in
      let few = ((expansion.promised).few M a small).last_at_most_88 most in
      record {
        counted = refl;
        places = padded_places 88 d (omega arith);
        of_row = λ i l. padded_front 88 d i (omega arith);
        after = λ i l. padded_after 88 d i (omega arith);
      }

  shown : argument_refusal M a x ≡ 0 → IsOkAnd (digits_answer M a x) (NumeralCorrect M a x)
  shown e =
      let h = accepted.0 e in
      rw (digits_or_refusal M a x)
      (shown_holds (argument_refusal M a x) (NumeralCorrect M a x) e (numeral_correct h.2 h.1))

  by_name : (r : Refusal)
      → (digits_answer M a x ≡ Err r) ↔ RefusedBy (ArgumentAsked M a x) (number_of r)
  unfolding argument_refusal
  by_name r =
      rw (digits_or_refusal M a x)
      (outcome_refuses (argument_checks M a x) _ r (argument_named M a x))

  pub digits_answer_correct : DigitsAnswerCorrect M a x (digits_answer M a x)
  digits_answer_correct =
      record {
        refused = λ n. through (sym number) (refused n);
        accepted = through (sym number) accepted;
        refused_empty = by_name;
        shown = λ e. shown (number ∙ e);
      }

-- ---- residue and divide

pub residue_answer_correct : (M a x : ℕ) → ResidueAnswerCorrect M a x
unfolding residue_answer argument_refusal
residue_answer_correct M a x =
    let cs = argument_checks M a x in
    let y = residue_of M a (digits_of M a x) in
    let all = argument_named M a x in
    let made : AllHold (ArgumentAsked M a x) → y ≡ a * x % M =
    λ h. digits_residue M a x h.1.0 h.1.1.0 in
    let shown : AllHold (ArgumentAsked M a x) → residue_answer M a x ≡ Ok (a * x % M) =
    λ h. (outcome_shows cs y _ all).1 (h, sym (made h)) in
    record {
      refused = λ r. outcome_refuses cs y r all;
      found = λ z. (
        λ e. let f = (outcome_shows cs y z all).0 e in (f.0, f.1 ∙ made f.0),
        λ h. shown h.0 ∙ ap Ok (sym h.1),
      );
      shown = λ h. (ap number_in (shown h), shown h);
    }

pub divide_answer_correct : (M a t : ℕ) → DivideAnswerCorrect M a t
unfolding divide_answer target_refusal
divide_answer_correct M a t =
    let cs = target_checks M a t in
    let y = argument_of M a t in
    let all = target_named M a t in
    let made : AllHold (TargetAsked M a t) → (y < period M a) × (a * y % M ≡ t) =
    λ h. argument_correct M a h.1.0 t h.1.1.0 in
    let shown : AllHold (TargetAsked M a t) → divide_answer M a t ≡ Ok y =
    λ h. (outcome_shows cs y y all).1 (h, refl) in
    record {
      refused = λ r. outcome_refuses cs y r all;
      found = λ x. (
        λ e. let f = (outcome_shows cs y x all).0 e in (f.0, rw f.1 (made f.0)),
        λ h. shown h.0 ∙ ap Ok (sym (argument_only M a h.0.1.0 t x h.1.0 h.1.1)),
      );
      shown = λ h. (ap number_in (shown h), rw (shown h) (made h));
      refused_if_none = λ low most small.
          let e = (target_correct M a small t).exists in (
            λ r s. let f = shown ((low, most), (small, (e.0 s, tt))) in cc,
            λ n. (outcome_refuses cs y Target all).1
                (inr ((low, most), inr (small, inl (refl, λ h. n (e.1 h))))),
          );
    }
