-- The promises of specs/Promise.antt. Assumes nothing.
use mathlib.Core.Path.{◌≡◌, refl, sym, ap, ◌∙◌}
use mathlib.Core.List.{List}
use mathlib.Core.Logic.{inl, ⊎_elim}
use Prim.Native.Nat.{ℕ, ◌+◌, ◌<◌}
use native.Mathlib.Omega.{arith}
use lib.ListN.{length, get_or}
use Rattle.std.proofs.Common.{Option, Some, None}
use Rattle.numbers.proofs.Buffers.{front_correct}
use Rattle.domain.specs.declared.Domain.{Domain}
use Rattle.domain.proofs.Promises as domain
use Rattle.text.specs.Text.{bytes, decimal_within, decimal}
use Rattle.text.proofs.Laws.{one_digit}
use Rattle.job.specs.Reading.{six_lines, rendering, reading}
use Rattle.job.specs.Output.{answer_of, verdict_name, argument_lines, refused, report, printed, output_with, output_of}
use Rattle.numbers.specs.Refusals.{number_of}
use Rattle.job.specs.Promise.{TextCorrect, OutputCorrect, Promised}
use Rattle.job.proofs.Outputs.{search_refuses, number_is, marks_correct, hard_listed, values_listed, printed_refused, printed_report, by_answer, output_short}
use Rattle.job.proofs.Longest.{longest_answered, longest_printed}
use Rattle.job.proofs.Renderings.{reading_correct}

text_correct : TextCorrect
unfolding six_lines rendering verdict_name argument_lines refused report
text_correct =
    record {
      origin_line = λ o M c0 c1 s N w. refl;
      lines = λ o M c0 c1 s N w. refl;
      range = λ o M c0 c1 s N w. (λ r. omega arith, λ h. omega arith);
      report_is = λ first marks arguments values. refl;
      names = (refl, refl);
      no_mark = refl;
      mark_more = λ m ms. refl;
      no_line = refl;
      line_more = λ x v xs vs. refl;
      refused_is = λ n. refl;
    }

-- ---- refusal 8 is that of malformed texts alone

eight_printed : output_with None ≡ bytes "refused=8\n"
unfolding decimal_within decimal refused output_with
eight_printed = refl

-- of what is printed the ninth byte is the number's digit, where that is one digit
digit_at : (n : ℕ) → n < 10 → get_or (refused n) 8 0 ≡ 48 + n
unfolding refused
digit_at n h = rw (one_digit n h)

eleven_at : get_or (refused 11) 8 0 ≡ 49
unfolding decimal_within decimal refused
eleven_at = refl

no_job_eight : (d : Domain) → printed d ≡ bytes "refused=8\n" → ⊥
no_job_eight d e =
    by_answer (answer_of d)
    (λ n r.
    let ninth = ap (λ (l : List ℕ). get_or l 8 0) (sym (printed_refused d r) ∙ e) in
    ⊎_elim (λ small. omega (arith, small, digit_at (number_of n) (omega arith), ninth))
    (λ eleven. omega (arith, ap (λ (k : ℕ). get_or (refused k) 8 0) eleven, eleven_at, ninth))
    (number_is d r))
    (λ v r. unfold report in let b = ap (λ (l : List ℕ). get_or l 0 0) (sym (printed_report d r) ∙ e) in omega (arith, b))

malformed_of : (r : Option Domain) → output_with r ≡ bytes "refused=8\n" → r ≡ None
unfolding output_with
malformed_of None e = refl
malformed_of (Some d) e = absurd (no_job_eight d e)

-- ---- the output of a job's text

five_printed : refused 5 ≡ bytes "refused=5\n"
unfolding decimal_within decimal refused
five_printed = refl

output_is : (t : List ℕ) {d : Domain} → reading t ≡ Some d → output_of t ≡ printed d
unfolding output_of output_with
output_is t e = ap output_with e

output_correct : OutputCorrect
unfolding output_of
output_correct =
    record {
      malformed = λ t. ((λ e. ap output_with e ∙ eight_printed), malformed_of (reading t));
      asked = λ d. refl;
      refuses = search_refuses;
      job_refused = λ t d n s e. output_is t s ∙ printed_refused d e;
      without_window = λ t d s e low high slope value some most.
          output_is t s ∙ printed_refused d (((domain.promised).without_window d e).refused 4096 4096 low high slope value some most) ∙ five_printed;
      job_reported = λ t d found s e. output_is t s ∙ printed_report d e;
      marked = λ d found e. marks_correct d e;
      hard = λ d found e. hard_listed d e;
      values = λ d found e. values_listed d e;
      longest_is = refl;
      fits = λ t. output_short (reading t);
      longest_output = (rendering longest_answered, ap length (output_is (rendering longest_answered) ((reading_correct.read (rendering longest_answered) longest_answered).1 (omega arith, inl refl))) ∙ longest_printed);
      buffer = λ t old e. front_correct (output_with (reading t)) old (omega (arith, e, output_short (reading t)));
      front_enough = λ t. ap output_with (reading_correct.front_decides t 4096 (omega arith));
    }

pub promised : Promised
promised = record { texts = text_correct; readings = reading_correct; outputs = output_correct }
