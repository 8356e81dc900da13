-- All that is promised of digits, residues and modular division. Assumes nothing.
use Rattle.std.proofs.Common.{◌≡◌, ℕ, ◌<◌, Ok, refl, sym, ap, ◌∙◌}
use Rattle.expansion.specs.Rows.{period}
use Rattle.ostrowski.specs.Digits.{digits_of, residue_of}
use Rattle.ostrowski.specs.Answer.{residue_answer, divide_answer}
use Rattle.ostrowski.specs.Promise.{DigitsCorrect, Promised}
use Rattle.ostrowski.proofs.Writing.{digits_allowed, digits_sum_to, digits_are, list_correct}
use Rattle.ostrowski.proofs.Residues.{digits_residue, term_below, product_below}
use Rattle.ostrowski.proofs.Targets.{target_correct}
use Rattle.ostrowski.proofs.Answers.{digits_answer_correct, residue_answer_correct, divide_answer_correct}

module _ (M a x : ℕ) (small : a < M) (within : x < period M a) where
  digits_correct : DigitsCorrect M a x
  digits_correct =
      record {
        allowed = digits_allowed M a small x within;
        sums_to = digits_sum_to M a small x within;
        only = λ d h e. sym (digits_are M a small d h) ∙ ap (digits_of M a) e;
        terms_below = λ i l.
            (product_below M a x small within i l, term_below M a x small within i l);
        residue = unfold residue_of in digits_residue M a x small within;
      }

-- where one finds a number, all holds that is asked of the other
module _ (M a x t : ℕ) where
  divides : residue_answer M a x ≡ Ok t → divide_answer M a t ≡ Ok x
  divides e =
      let h = ((residue_answer_correct M a x).found t).0 e in
      let p = h.0 in
      let target = (target_correct M a p.1.0 t).anywhere x (sym h.1) in
      ((divide_answer_correct M a t).found x).1 ((p.0, (p.1.0, (target, tt))), (p.1.1.0, sym h.1))

  multiplies : divide_answer M a t ≡ Ok x → residue_answer M a x ≡ Ok t
  multiplies e =
      let h = ((divide_answer_correct M a t).found x).0 e in
      let p = h.0 in
      ((residue_answer_correct M a x).found t).1 ((p.0, (p.1.0, (h.1.0, tt))), sym h.1.1)

pub promised : Promised
promised =
    record {
      digits = λ M a x small within. digits_correct M a x small within;
      lists = λ M a small d h. list_correct M a small d h;
      targets = λ M a t small. target_correct M a small t;
      digits_answers = digits_answer_correct;
      residue_answers = residue_answer_correct;
      divide_answers = divide_answer_correct;
      inverse = λ M a x t. (divides M a x t, multiplies M a x t);
      numbers = λ r n. (refl, refl);
    }
