-- What the job program prints. Assumes nothing: these are definitions.
use Rattle.std.specs.Prelude.{Option, Some, None, List, [], ◌∷◌, ◌++◌, map, ℕ, length, Result, Ok, Err}
use Rattle.numbers.specs.Refusals.{number_of}
use Rattle.numbers.specs.declared.refusals.Refusal.{Refusal}
use Rattle.numbers.specs.declared.refusals.Refusal.TheVariants.{Malformed}
use Rattle.segment.specs.declared.Verdict.{Verdict}
use Rattle.segment.specs.declared.Verdict.TheVariants.{Clear, Possible}
use Rattle.domain.specs.Domain.{listed_arguments, hard_values}
use Rattle.domain.specs.Answer.{domain_answer, marks_of, marks_after, list_after, values_after}
use Rattle.domain.specs.declared.Domain.{Domain}
use Rattle.domain.specs.Marks.{mark_numbers}
use Rattle.domain.specs.declared.marks.Mark.{Mark}
use Rattle.domain.specs.declared.Searched.{Searched}
use Rattle.text.specs.Text.{bytes, digit, decimal, line}
use Rattle.job.specs.Reading.{reading, reading_refusal}

-- the places that a job has for hard arguments, and as many for their values
abbrev pub places : ℕ
places = 4096

-- and for what is printed: the longest answer has 4,096 arguments of sixteen digits with values of nineteen
abbrev pub longest : ℕ
longest = 213034

-- the answer of the domain search for a job
abbrev pub answer_of : Domain → Result Searched Refusal
answer_of d = domain_answer d places places

-- what a verdict is called
unfoldable pub verdict_name : Verdict → List ℕ
verdict_name Clear = bytes "cleared"
verdict_name Possible = bytes "possible"

-- the numbers of marks, a digit each
abbrev pub mark_digits : (marks : List ℕ) → List ℕ
mark_digits = map digit

-- the line of an argument and its value, and what follows it
abbrev pub argument_line : (argument value : ℕ) → (rest : List ℕ) → List ℕ
argument_line x v rest = bytes "argument=" ++ (decimal x ++ line (bytes " value=") (decimal v) rest)

-- a line for each argument that has a value beside it
unfoldable pub argument_lines : (arguments values : List ℕ) → List ℕ
argument_lines [] vs = []
argument_lines (x ∷ xs) [] = []
argument_lines (x ∷ xs) (v ∷ vs) = argument_line x v (argument_lines xs vs)

-- a refusal is its number alone
unfoldable pub refused : (number : ℕ) → List ℕ
refused n = line (bytes "refused=") (decimal n) []

-- what is printed of a job that is not refused
unfoldable pub report : Verdict → (marks arguments values : List ℕ) → List ℕ
report first marks arguments values =
    line (bytes "first=") (verdict_name first)
    (line (bytes "parts=") (mark_digits marks)
    (line (bytes "listed=") (decimal (length arguments))
    (argument_lines arguments values)))

-- what is printed of a domain that got this answer
unfoldable pub printed_for : Result Searched Refusal → Domain → List ℕ
printed_for (Err r) d = refused (number_of r)
printed_for (Ok s) d = report s.first (mark_numbers (marks_of d)) (listed_arguments d) (hard_values d)

unfoldable pub printed : Domain → List ℕ
printed d = printed_for (answer_of d) d

-- the answer to a text, with so many places: that of the domain search, or refusal 8
unfoldable pub job_answer : Option Domain → (list_places value_places : ℕ) → Result Searched Refusal
job_answer (Some d) m n = domain_answer d m n
job_answer None m n = Err Malformed

-- the marks then, from what they were
unfoldable pub job_marks : Option Domain → (list_places value_places : ℕ) → (old : List Mark) → List Mark
job_marks (Some d) m n old = marks_after d m n old
job_marks None m n old = old

-- the list then, from what it was
unfoldable pub job_list : Option Domain → (value_places : ℕ) → (old : List ℕ) → List ℕ
job_list (Some d) n old = list_after d n old
job_list None n old = old

-- and the values
unfoldable pub job_values : Option Domain → (list_places : ℕ) → (old : List ℕ) → List ℕ
job_values (Some d) m old = values_after d m old
job_values None m old = old

-- what is printed of a job, or of a text that is none
unfoldable pub output_with : Option Domain → List ℕ
output_with (Some d) = printed d
output_with None = refused (reading_refusal None)

-- what is printed of a text
unfoldable pub output_of : (text : List ℕ) → List ℕ
output_of t = output_with (reading t)
