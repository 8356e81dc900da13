-- What the two calls answer, and what they leave in the caller's buffers. Assumes nothing: these are definitions.
use Rattle.std.specs.Prelude.{List, [], ◌∷◌, ◌++◌, map, ℕ, ◌^◌, length, Result, Ok, Err}
use Rattle.std.proofs.Math.Logic.Dec
use Rattle.std.proofs.Math.Decide.{dec_le}
use Rattle.numbers.specs.Checklist.{Check, check, first_failing, unless_refused}
use Rattle.numbers.specs.Lists.{overwrite_front}
use Rattle.numbers.specs.Refusals.{outcome}
use Rattle.numbers.specs.declared.refusals.Refusal.{Refusal}
use Rattle.expansion.specs.Reached.Search.{regular}
use Rattle.geometry.specs.Segment.{Segment, residue}
use Rattle.geometry.specs.Segment as geometry
use Rattle.segment.specs.Accepted as segment
use Rattle.segment.specs.Search.{verdict}
use Rattle.segment.specs.declared.Verdict.{Verdict}
use Rattle.segment.specs.declared.Verdict.TheVariants.{Possible}
use Rattle.parabola.specs.Parabola.{Parabola, hard_list, covering}
use Rattle.arc.specs.Arc as arc
use Rattle.domain.specs.Domain.{parabola_of, centred_of, hard_arguments, listed_arguments, hard_values}
use Rattle.domain.specs.Scan.{listed_from, lowered_values}
use Rattle.domain.specs.Phases.{marks}
use Rattle.domain.specs.Marks.{mark_numbers}
use Rattle.domain.specs.declared.Domain.{Domain}
use Rattle.domain.specs.declared.Searched.{Searched}
use Rattle.domain.specs.declared.marks.Mark.{Mark}

-- 7, unless the list and the values each have a place for every hard argument
abbrev pub room : (xs : List ℕ) → (list_places value_places : ℕ) → List Check
room xs m n = check 7 (Dec.and (dec_le (length xs) m) (dec_le (length xs) n)) ∷ []

-- ---- domains

-- 11, unless the origin is at most 2^52
abbrev pub origin_checks : Domain → List Check
origin_checks d = check 11 (dec_le d.origin (2 ^ 52)) ∷ []

-- what is asked of a domain, but for places: what is asked of its parabola, and then of its origin
abbrev pub own_checks : Domain → List Check
own_checks d = arc.checks (parabola_of d) ++ origin_checks d

-- and then that a list and values of so many places have room
abbrev pub domain_checks : Domain → (list_places value_places : ℕ) → List Check
domain_checks d m n = own_checks d ++ room (hard_arguments d) m n

-- the number of the first condition that does not hold, or 0
unfoldable pub domain_number : Domain → (list_places value_places : ℕ) → ℕ
domain_number d m n = first_failing (domain_checks d m n)

-- what a search of a parabola finds: phase 1's verdict and how many arguments are listed
abbrev pub found : Parabola → Searched
found p = record { first = verdict regular (covering p); listed = length (hard_list p) }

-- the answer where the checklist gives this number: a refusal stands alone
abbrev pub answer_with : (number : ℕ) → Parabola → Result Searched Refusal
answer_with n p = outcome n (found p)

-- the answer for a domain with a list and values of so many places
unfoldable pub domain_answer : Domain → (list_places value_places : ℕ) → Result Searched Refusal
domain_answer d m n = answer_with (domain_number d m n) (centred_of d)

-- the eight marks of a domain
abbrev pub marks_of : Domain → List Mark
marks_of d = marks (centred_of d)

-- the caller's marks then
unfoldable pub marks_after : Domain → (list_places value_places : ℕ) → (old : List Mark) → List Mark
marks_after d m n old = unless_refused (domain_number d m n) (marks_of d) old

-- and where the caller has the numbers of marks
unfoldable pub mark_numbers_after : Domain → (list_places value_places : ℕ) → (old : List ℕ) → List ℕ
mark_numbers_after d m n old = unless_refused (domain_number d m n) (mark_numbers (marks_of d)) old

-- the caller's list: the hard arguments, each as origin + x, from the first place on, and the places after them as they were
unfoldable pub list_after : Domain → (value_places : ℕ) → (old : List ℕ) → List ℕ
list_after d n old = unless_refused (domain_number d (length old) n) (overwrite_front (listed_arguments d) old) old

-- and the caller's values: V(x) at the place of each hard argument x, and the places after them as they were
unfoldable pub values_after : Domain → (list_places : ℕ) → (old : List ℕ) → List ℕ
values_after d m old = unless_refused (domain_number d m (length old)) (overwrite_front (hard_values d) old) old

-- phase 1's verdict; possible where it refuses, so that nobody takes the domain for cleared
abbrev pub domain_first : Result Searched Refusal → Verdict
domain_first (Ok s) = s.first
domain_first (Err r) = Possible

-- how many arguments it listed; 0 where it refuses
abbrev pub domain_count : Result Searched Refusal → ℕ
domain_count (Ok s) = s.listed
domain_count (Err r) = 0

-- ---- phases 2 and 3

-- 7 where the list or the values have too few places, else 0
unfoldable pub too_few : Parabola → (list_places value_places : ℕ) → ℕ
too_few p m n = first_failing (room (hard_list p) m n)

abbrev pub marks_with : (number : ℕ) → Parabola → (old : List Mark) → List Mark
marks_with n p old = unless_refused n (marks p) old

abbrev pub list_with : (number : ℕ) → (origin : ℕ) → Parabola → (old : List ℕ) → List ℕ
list_with n origin p old = unless_refused n (overwrite_front (listed_from origin p) old) old

abbrev pub values_with : (number : ℕ) → (raise : ℕ) → Parabola → (old : List ℕ) → List ℕ
values_with n raise p old = unless_refused n (overwrite_front (lowered_values raise p) old) old

-- ---- scans of segments

-- the residue of each hard argument, in their order
abbrev pub hard_residues : Segment → List ℕ
hard_residues s = map (residue s) (geometry.hard_list s)

-- what is asked of a segment with a list and values of so many places
abbrev pub scan_checks : Segment → (list_places value_places : ℕ) → List Check
scan_checks s m n = segment.checks s ++ room (geometry.hard_list s) m n

unfoldable pub scan_number : Segment → (list_places value_places : ℕ) → ℕ
scan_number s m n = first_failing (scan_checks s m n)

-- the answer for modulus, step, start, count, window and a list and values of so many places: how many hard arguments there are
unfoldable pub scan_answer : (M a b N w list_places value_places : ℕ) → Result ℕ Refusal
scan_answer M a b N w m n = outcome (scan_number (segment.asked M a b N w) m n) (length (geometry.hard_list (segment.asked M a b N w)))

-- what the caller's list is then
unfoldable pub scan_list_after : (M a b N w value_places : ℕ) → (old : List ℕ) → List ℕ
scan_list_after M a b N w n old =
    unless_refused (scan_number (segment.asked M a b N w) (length old) n) (overwrite_front (geometry.hard_list (segment.asked M a b N w)) old) old

-- and what the caller's values are
unfoldable pub scan_values_after : (M a b N w list_places : ℕ) → (old : List ℕ) → List ℕ
scan_values_after M a b N w m old =
    unless_refused (scan_number (segment.asked M a b N w) m (length old)) (overwrite_front (hard_residues (segment.asked M a b N w)) old) old

-- how many it listed; 0 where it refuses
abbrev pub scan_count : Result ℕ Refusal → ℕ
scan_count (Ok n) = n
scan_count (Err r) = 0
