-- What is promised of a job's text and of what is printed. `Promised`, at the end, is all of it; proofs/Promises.antt proves it.
-- Assumes nothing: these are statements.
use Rattle.std.specs.Prelude.{◌≡◌, Some, None, List, [], ◌∷◌, ◌++◌, ◌↔◌, ◌⊎◌, ℕ, ◌+◌, ◌^◌, ◌≤◌, ◌<◌, ℤ, nat_abs, length, take, Ok, Err}
use Rattle.numbers.specs.Lists.{overwrite_front}
use Rattle.numbers.specs.Promise.{Enumerates, BufferCorrect}
use Rattle.segment.specs.declared.Verdict.{Verdict}
use Rattle.segment.specs.declared.Verdict.TheVariants.{Clear, Possible}
use Rattle.domain.specs.Domain.{listed_arguments, hard_values}
use Rattle.domain.specs.Answer.{domain_answer, marks_of}
use Rattle.domain.specs.Promise.{ListedInNumbers, ValuesBeside, RefusedFor, MarksCorrect}
use Rattle.domain.specs.declared.Domain.{Domain}
use Rattle.domain.specs.Marks.{mark_numbers}
use Rattle.domain.specs.declared.Searched.{Searched}
use Rattle.numbers.specs.Refusals.{number_of}
use Rattle.numbers.specs.declared.refusals.Refusal.{Refusal}
use Rattle.text.specs.Text.{bytes, decimal, signed_decimal}
use Rattle.job.specs.Reading.{six_lines, rendering, InRange, reading, reading_refusal}
use Rattle.job.specs.Output.{longest, answer_of, verdict_name, mark_digits, argument_lines, refused, report, output_of}

-- ---- reading

pub record ReadingCorrect : Type 0 where
  -- a text is read as a job exactly where the job's numbers are in range and it is their seven lines, or, where the origin is 0, the last six of these
  pub read : (t : List ℕ) (d : Domain) → (reading t ≡ Some d) ↔ (InRange d × ((t ≡ rendering d) ⊎ ((d.origin ≡ 0) × (t ≡ six_lines d))))
  -- and is malformed exactly where it is neither for any such job
  pub malformed : (t : List ℕ)
      → (reading t ≡ None) ↔ ((d : Domain) → InRange d → (t ≡ rendering d) ⊎ ((d.origin ≡ 0) × (t ≡ six_lines d)) → ⊥)
  -- so with origin 0 a job has two texts, and both are read as that job
  pub both : (d : Domain) → InRange d → d.origin ≡ 0 → (reading (rendering d) ≡ Some d) × (reading (six_lines d) ≡ Some d)
  -- 01's numbers for the two cases: no refusal, and 8
  pub numbers : (d : Domain) → (reading_refusal (Some d) ≡ 0) × (reading_refusal None ≡ 8)
  -- no job's text is longer than 193 bytes, and that of six lines not longer than 165; there are jobs with as many. So the first 194 bytes of a text decide
  pub short : (t : List ℕ) (d : Domain) → reading t ≡ Some d → length t ≤ 193
  pub six_short : (d : Domain) → InRange d → length (six_lines d) ≤ 165
  pub longest_text : (d : Domain) × InRange d × (length (rendering d) ≡ 193) × (length (six_lines d) ≡ 165)
  pub front_decides : (t : List ℕ) (n : ℕ) → 194 ≤ n → reading (take n t) ≡ reading t

-- ---- the text, written out

-- the definitions of the text and of what is printed, once more in one place and in bytes: what a reader of 01 has to compare
pub record TextCorrect : Type 0 where
  pub origin_line : (o M c0 c1 : ℕ) (s : ℤ) (N w : ℕ)
      → rendering (record { origin = o; modulus = M; value = c0; slope = c1; curve = s; count = N; window = w })
      ≡ bytes "origin=" ++ (decimal o ++ (bytes "\n" ++ six_lines (record { origin = o; modulus = M; value = c0; slope = c1; curve = s; count = N; window = w })))
  pub lines : (o M c0 c1 : ℕ) (s : ℤ) (N w : ℕ)
      → six_lines (record { origin = o; modulus = M; value = c0; slope = c1; curve = s; count = N; window = w })
      ≡ bytes "modulus=" ++ (decimal M ++ (bytes "\nvalue=" ++ (decimal c0 ++ (bytes "\nslope=" ++ (decimal c1 ++ (bytes "\ncurve=" ++ (signed_decimal s ++ (bytes "\ncount=" ++ (decimal N ++ (bytes "\nwindow=" ++ (decimal w ++ bytes "\n")))))))))))
  pub range : (o M c0 c1 : ℕ) (s : ℤ) (N w : ℕ)
      → InRange (record { origin = o; modulus = M; value = c0; slope = c1; curve = s; count = N; window = w })
      ↔ ((o < 2 ^ 64) × (M < 2 ^ 64) × (c0 < 2 ^ 64) × (c1 < 2 ^ 64) × (nat_abs s < 2 ^ 63) × (N < 2 ^ 64) × (w < 2 ^ 64))
  pub report_is : (first : Verdict) (marks arguments values : List ℕ)
      → report first marks arguments values
      ≡ bytes "first=" ++ (verdict_name first ++ (bytes "\nparts=" ++ (mark_digits marks ++ (bytes "\nlisted=" ++ (decimal (length arguments) ++ (bytes "\n" ++ argument_lines arguments values))))))
  pub names : (verdict_name Clear ≡ bytes "cleared") × (verdict_name Possible ≡ bytes "possible")
  pub no_mark : mark_digits [] ≡ []
  pub mark_more : (m : ℕ) (ms : List ℕ) → mark_digits (m ∷ ms) ≡ (48 + m) ∷ mark_digits ms
  pub no_line : argument_lines [] [] ≡ []
  pub line_more : (x v : ℕ) (xs vs : List ℕ)
      → argument_lines (x ∷ xs) (v ∷ vs) ≡ bytes "argument=" ++ (decimal x ++ (bytes " value=" ++ (decimal v ++ (bytes "\n" ++ argument_lines xs vs))))
  pub refused_is : (n : ℕ) → refused n ≡ bytes "refused=" ++ (decimal n ++ bytes "\n")

-- ---- printing

pub record OutputCorrect : Type 0 where
  -- a malformed text prints the single line of refusal 8, and no job does
  pub malformed : (t : List ℕ) → (reading t ≡ None) ↔ (output_of t ≡ bytes "refused=8\n")
  -- a job is asked of the domain search with 4,096 places for arguments and as many for values
  pub asked : (d : Domain) → answer_of d ≡ domain_answer d 4096 4096
  -- a job that is refused, which is as the domain search refuses it, prints its number alone
  pub refuses : (d : Domain) (r : Refusal) → (answer_of d ≡ Err r) ↔ RefusedFor d 4096 4096 (number_of r)
  pub job_refused : (t : List ℕ) (d : Domain) (r : Refusal) → reading t ≡ Some d → answer_of d ≡ Err r → output_of t ≡ refused (number_of r)
  -- a job with a window of 0 that nothing asked before the window refuses prints the single line of refusal 5
  pub without_window : (t : List ℕ) (d : Domain) → reading t ≡ Some d → d.window ≡ 0 → 2 ≤ d.modulus → d.modulus ≤ 2 ^ 62 → d.slope < d.modulus → d.value < d.modulus
      → 1 ≤ d.count → d.count ≤ 1048576 → output_of t ≡ bytes "refused=5\n"
  -- a job that is not refused prints phase 1's verdict, the marks, how many arguments are listed, and a line for each hard argument x with origin + x and V(x): what is
  -- hard is said in the job's own numbers, the arguments are all there, each once and ascending, and each has its own value beside it
  pub job_reported : (t : List ℕ) (d : Domain) (s : Searched) → reading t ≡ Some d → answer_of d ≡ Ok s
      → output_of t ≡ report s.first (mark_numbers (marks_of d)) (listed_arguments d) (hard_values d)
  pub marked : (d : Domain) (s : Searched) → answer_of d ≡ Ok s → MarksCorrect d s.first (mark_numbers (marks_of d))
  pub hard : (d : Domain) (s : Searched) → answer_of d ≡ Ok s
      → Enumerates (ListedInNumbers d) s.listed (listed_arguments d)
  pub values : (d : Domain) (s : Searched) → answer_of d ≡ Ok s → ValuesBeside d (listed_arguments d) (hard_values d)
  -- what is printed fits a buffer of 213,034 bytes, which is what the code has, and no smaller one; over the front of one it leaves every place after it as it was
  pub longest_is : longest ≡ 213034
  pub fits : (t : List ℕ) → length (output_of t) ≤ 213034
  pub longest_output : (t : List ℕ) × (length (output_of t) ≡ 213034)
  pub buffer : (t old : List ℕ) → length old ≡ 213034 → BufferCorrect (output_of t) old (overwrite_front (output_of t) old)
  -- the program need not read more than 4,096 bytes
  pub front_enough : (t : List ℕ) → output_of (take 4096 t) ≡ output_of t

-- all of it
pub record Promised : Type 0 where
  pub texts : TextCorrect
  pub readings : ReadingCorrect
  pub outputs : OutputCorrect
