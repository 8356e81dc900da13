-- What is promised of domains and of scans (the second demand), with the letters of document 01: M the modulus, c0 the value, c1 the slope,
-- s the curve, N the count, w the window; x is an argument below N, and y = origin + x as a domain lists it; of a segment a the step and b the start.
-- `Promised`, at the end, is all of it; proofs/Promises.antt proves it. Assumes nothing: these are statements.
use Rattle.std.specs.Prelude.{◌≡◌, List, [], ◌∷◌, ◌↔◌, ◌⊎◌, ℕ, suc, ◌+◌, ◌-◌, ◌*◌, ◌/◌, ◌%◌, ◌^◌, ◌≤◌, ◌<◌, ℤ, pos, nat_abs, ◌+ℤ◌, ◌*ℤ◌, length, get_or, take, Result, Ok, Err}
use Rattle.numbers.specs.Checklist.{Condition, condition, RefusedBy}
use Rattle.numbers.specs.Refusals.{number_of, number_in}
use Rattle.numbers.specs.declared.refusals.Refusal.{Refusal}
use Rattle.numbers.specs.declared.refusals.Refusal.TheVariants.{Window}
use Rattle.numbers.specs.Integers.{◌modulo◌}
use Rattle.numbers.specs.Lists.{overwrite_front}
use Rattle.numbers.specs.Promise.{Enumerates, InPiece, BufferCorrect}
use Rattle.expansion.specs.Reached.{Search}
use Rattle.expansion.specs.Reached.Search.{regular, fine}
use Rattle.geometry.specs.Segment.{Segment}
use Rattle.geometry.specs.Segment as geometry
use Rattle.segment.specs.Accepted as segment
use Rattle.segment.specs.Search.{distance, verdict}
use Rattle.segment.specs.Promise as segment_promise
use Rattle.segment.specs.declared.Verdict.{Verdict}
use Rattle.segment.specs.declared.Verdict.TheVariants.{Clear, Possible}
use Rattle.parabola.specs.Parabola.{Parabola, value_at, slope_at, second_difference, covering, continued, part_start, part_count, part}
use Rattle.parabola.specs.Promise.{ValuesCorrect, CoversBothBy, CoveringBothCorrect, CentredCorrect, EightPartsCorrect, PartsCorrect}
use Rattle.domain.specs.Domain.{parabola_of, centred_of, hard_arguments, listed_arguments, hard_values, covering_of, part_covering, Searchable, Accepted, with_origin}
use Rattle.domain.specs.Marks.{mark_number, mark_numbers}
use Rattle.domain.specs.Phases.{mark_of}
use Rattle.domain.specs.Scan.{next_point}
use Rattle.domain.specs.Answer.{domain_answer, marks_of, marks_after, mark_numbers_after, list_after, values_after, domain_first, domain_count, hard_residues, scan_answer, scan_list_after, scan_values_after, scan_count}
use Rattle.domain.specs.declared.Domain.{Domain}
use Rattle.domain.specs.declared.Searched.{Searched}
use Rattle.domain.specs.declared.marks.Mark.{Mark}
use Rattle.domain.specs.declared.marks.Mark.TheVariants as mark

-- ---- the numbers of a call

-- the parabola of a domain has the domain's numbers, and its values are c0 + c1·x + s·x(x-1)/2 modulo M
pub record ParabolaCorrect (d : Domain) : Type 0 where
  pub unit : (parabola_of d).unit ≡ d.modulus
  pub start : (parabola_of d).value ≡ d.value
  pub slope : (parabola_of d).slope ≡ d.slope
  pub curve : (parabola_of d).curve ≡ d.curve
  pub count : (parabola_of d).count ≡ d.count
  pub window : (parabola_of d).window ≡ d.window
  pub value : (x : ℕ) → value_at (parabola_of d) x ≡ (pos d.value +ℤ pos d.slope *ℤ pos x +ℤ d.curve *ℤ pos (x * (x - 1) / 2)) modulo d.modulus

-- what V(x) is in the call's own numbers: the v below M that differs from c0 + c1·x + s·x(x-1)/2 by k·M for an integer k. All is doubled, so that nothing is
-- halved
abbrev pub ValueInNumbers : Domain → (x v : ℕ) → Type 0
ValueInNumbers d x v =
    (v < d.modulus)
    × ((k : ℤ) × (pos (2 * v) ≡ pos (2 * (d.value + d.slope * x)) +ℤ d.curve *ℤ pos (x * (x - 1)) +ℤ k *ℤ pos (2 * d.modulus)))

-- what hard means: below N, with a value v that is less than w from a multiple of M: v < w or M - v < w
abbrev pub HardInNumbers : Domain → (x : ℕ) → Type 0
HardInNumbers d x = (x < d.count) × ((v : ℕ) × ValueInNumbers d x v × ((v < d.window) ⊎ (d.modulus - v < d.window)))

-- what is listed: y is origin + x for a hard argument x
abbrev pub ListedInNumbers : Domain → (y : ℕ) → Type 0
ListedInNumbers d y = (x : ℕ) × (y ≡ d.origin + x) × HardInNumbers d x

-- and what stands beside y: V(x) of that x, whatever the origin is
abbrev pub BesideInNumbers : Domain → (y v : ℕ) → Type 0
BesideInNumbers d y v = (x : ℕ) × (y ≡ d.origin + x) × ValueInNumbers d x v

-- values stand beside listed arguments: there are as many, and each is the value for the argument at its place
pub record ValuesBeside (d : Domain) (arguments values : List ℕ) : Type 0 where
  pub as_many : length values ≡ length arguments
  pub each : (i : ℕ) → i < length arguments → BesideInNumbers d (get_or arguments i 0) (get_or values i 0)

-- by the distance: c0 + c1·x + s·x(x-1)/2 is less than w from some multiple of M, and so from the nearest one. All is doubled here too
abbrev pub NearAMultiple : Domain → (x : ℕ) → Type 0
NearAMultiple d x =
    (x < d.count)
    × ((k : ℤ) × (nat_abs (pos (2 * (d.value + d.slope * x)) +ℤ d.curve *ℤ pos (x * (x - 1)) +ℤ k *ℤ pos (2 * d.modulus)) < 2 * d.window))

-- what the residue of x is for a segment: the r below M that differs from b - a·x by a multiple of M. With b below M that multiple is not negative
abbrev pub ResidueInSegment : (M a b x r : ℕ) → Type 0
ResidueInSegment M a b x r = (r < M) × ((k : ℕ) × (r + a * x ≡ b + k * M))

-- and what hard means, on one side: below N, with a residue below w
abbrev pub HardInSegment : (M a b N w x : ℕ) → Type 0
HardInSegment M a b N w x = (x < N) × ((r : ℕ) × ResidueInSegment M a b x r × (r < w))

-- ---- the covering segments

-- the covering segments of a domain and of its parts, on both sides and in the call's own numbers: a part that begins at h and has n arguments (`EightPartsCorrect`)
-- has the value V(h) and the slope (c1 + s·h) mod M. The searches accept them where there is an argument
pub record CoveringsCorrect (d : Domain) : Type 0 where
  pub whole : CoversBothBy d.modulus d.value d.slope d.curve d.count d.window (covering_of d)
  pub whole_accepted : segment.Accepted (covering_of d)
  pub whole_covers : CoveringBothCorrect (parabola_of d) (covering_of d)
  pub of_part : (i h n : ℕ) → i < 8 → h ≡ part_start d.count i → n ≡ part_count d.count i → 1 ≤ n
      → CoversBothBy d.modulus ((pos d.value +ℤ pos d.slope *ℤ pos h +ℤ d.curve *ℤ pos (h * (h - 1) / 2)) modulo d.modulus)
      ((pos d.slope +ℤ d.curve *ℤ pos h) modulo d.modulus) d.curve n d.window (part_covering d i)
  pub part_accepted : (i : ℕ) → i < 8 → 1 ≤ part_count d.count i → segment.Accepted (part_covering d i)
  pub part_covers : (i : ℕ) → i < 8 → 1 ≤ part_count d.count i → CoveringBothCorrect (part (parabola_of d) i) (part_covering d i)

-- ---- a window of 0

-- a domain with a window of 0 has no hard argument, and so none in any part: a domain or a part that was cleared before document 02's 2.3 has none, and the empty
-- list is right. Where nothing that is asked before the window refuses it, it is now refused by 5, whatever its curve and the places
pub record WithoutWindow (d : Domain) : Type 0 where
  pub none_hard : (x : ℕ) → HardInNumbers d x → ⊥
  pub refused : (list_places value_places : ℕ) → 2 ≤ d.modulus → d.modulus ≤ 2 ^ 62 → d.slope < d.modulus → d.value < d.modulus
      → 1 ≤ d.count → d.count ≤ 1048576 → domain_answer d list_places value_places ≡ Err Window

-- ---- the phases

-- a segment is cleared by a search
abbrev pub ClearedBy : Search → Segment → Type 0
ClearedBy k s = segment_promise.Cleared k s.unit s.step s.start s.count s.window

-- an argument is in the part i: from its beginning on, and before that of the next
abbrev pub InPart : Domain → (i x : ℕ) → Type 0
InPart d i x = InPiece (part_start d.count) i x

-- no argument of the part i is hard
abbrev pub NoneInPart : Domain → (i : ℕ) → Type 0
NoneInPart d i = (x : ℕ) → InPart d i x → HardInNumbers d x → ⊥

-- phase 1's verdict is clear exactly where the regular search clears the covering segment, that is, where the distance is at least that segment's
-- window, and then no argument is hard; phase 2's verdict on a part with arguments is likewise by the fine search of the part's covering segment
pub record PhasesCorrect (d : Domain) : Type 0 where
  pub first_cleared : (verdict regular (covering_of d) ≡ Clear) ↔ ClearedBy regular (covering_of d)
  pub first_distance : (verdict regular (covering_of d) ≡ Clear) ↔ ((covering_of d).window ≤ distance regular (covering_of d))
  pub first_none : verdict regular (covering_of d) ≡ Clear → (x : ℕ) → HardInNumbers d x → ⊥
  pub part_cleared : (i : ℕ) → 1 ≤ part_count d.count i → (verdict fine (part_covering d i) ≡ Clear) ↔ ClearedBy fine (part_covering d i)
  pub part_distance : (i : ℕ) → 1 ≤ part_count d.count i
      → (verdict fine (part_covering d i) ≡ Clear) ↔ ((part_covering d i).window ≤ distance fine (part_covering d i))
  pub part_none : (i : ℕ) → 1 ≤ part_count d.count i → verdict fine (part_covering d i) ≡ Clear → NoneInPart d i

-- the numbers of the eight marks: 0 exactly where phase 1 clears the domain, and so all of them. Where it does not, 3 exactly where the part has no argument, and of the others 1
-- exactly where the part is clear, and then no argument of it is hard, 2 exactly where it is possible: a part that has a hard argument is marked 2
pub record MarksCorrect (d : Domain) (first : Verdict) (marks : List ℕ) : Type 0 where
  pub eight : length marks ≡ 8
  pub at_most_3 : (i : ℕ) → get_or marks i 0 ≤ 3
  pub not_looked_at : (i : ℕ) → i < 8 → (get_or marks i 0 ≡ 0) ↔ (first ≡ Clear)
  pub clear : (i : ℕ) → i < 8
      → (get_or marks i 0 ≡ 1) ↔ ((first ≡ Possible) × (1 ≤ part_count d.count i) × (verdict fine (part_covering d i) ≡ Clear))
  pub possible : (i : ℕ) → i < 8
      → (get_or marks i 0 ≡ 2) ↔ ((first ≡ Possible) × (1 ≤ part_count d.count i) × (verdict fine (part_covering d i) ≡ Possible))
  pub empty : (i : ℕ) → i < 8 → (get_or marks i 0 ≡ 3) ↔ ((first ≡ Possible) × (part_count d.count i ≡ 0))
  pub none_hard : (i : ℕ) → i < 8 → get_or marks i 0 ≡ 1 → NoneInPart d i
  pub hard_in_2 : first ≡ Possible → (i : ℕ) → i < 8 → (x : ℕ) → InPart d i x → HardInNumbers d x → get_or marks i 0 ≡ 2

-- ---- refusals

-- what is asked of a domain with a list and values of so many places, in this order, with the number of each refusal
abbrev pub Asked : Domain → (list_places value_places : ℕ) → List Condition
Asked d list_places value_places =
    condition 1 ((2 ≤ d.modulus) × (d.modulus ≤ 2 ^ 62))
    ∷ condition 2 (d.slope < d.modulus)
    ∷ condition 3 (d.value < d.modulus)
    ∷ condition 4 ((1 ≤ d.count) × (d.count ≤ 1048576))
    ∷ condition 5 ((1 ≤ d.window) × (d.window ≤ d.modulus))
    ∷ condition 6 (nat_abs d.curve ≤ 1048576)
    ∷ condition 11 (d.origin ≤ 2 ^ 52)
    ∷ condition 7 ((length (hard_arguments d) ≤ list_places) × (length (hard_arguments d) ≤ value_places))
    ∷ []

-- a number refuses a domain: its condition is the first that does not hold
abbrev pub RefusedFor : Domain → (list_places value_places number : ℕ) → Type 0
RefusedFor d list_places value_places n = RefusedBy (Asked d list_places value_places) n

-- the same of a scan: as the searches ask it of a segment, and then for room
abbrev pub ScanAsked : Segment → (list_places value_places : ℕ) → List Condition
ScanAsked s list_places value_places =
    condition 1 ((2 ≤ s.unit) × (s.unit ≤ 2 ^ 62))
    ∷ condition 2 (s.step < s.unit)
    ∷ condition 3 (s.start < s.unit)
    ∷ condition 4 ((1 ≤ s.count) × (s.count ≤ 1048576))
    ∷ condition 5 ((1 ≤ s.window) × (s.window ≤ s.unit))
    ∷ condition 7 ((length (geometry.hard_list s) ≤ list_places) × (length (geometry.hard_list s) ≤ value_places))
    ∷ []

abbrev pub ScanRefusedFor : Segment → (list_places value_places number : ℕ) → Type 0
ScanRefusedFor s list_places value_places n = RefusedBy (ScanAsked s list_places value_places) n

-- ---- answers

-- what a domain is answered with the marks `old_marks`, a list `old` and values `old_values`, and what is then in them, `new_marks`, `new` and `new_values`
pub record DomainCorrect (d : Domain) (old_marks : List Mark) (old old_values : List ℕ) (answer : Result Searched Refusal) (new_marks : List Mark)
    (new new_values : List ℕ) : Type 0 where
  -- a refusal is answered exactly where the condition of its number is the first that does not hold, and leaves marks, list and values as they were
  pub refused : (r : Refusal) → (answer ≡ Err r) ↔ RefusedFor d (length old) (length old_values) (number_of r)
  pub unchanged : (r : Refusal) → answer ≡ Err r → (new_marks ≡ old_marks) × (new ≡ old) × (new_values ≡ old_values)
  -- otherwise it is accepted, and there are places enough in both
  pub searched : (s : Searched) → (answer ≡ Ok s)
      ↔ (Accepted d × (length (hard_arguments d) ≤ length old) × (length (hard_arguments d) ≤ length old_values)
      × (s.first ≡ verdict regular (covering_of d)) × (s.listed ≡ length (hard_arguments d)))
  pub marked : (s : Searched) → answer ≡ Ok s → MarksCorrect d s.first (mark_numbers new_marks)
  pub cleared : (s : Searched) → answer ≡ Ok s → s.first ≡ Clear
      → (s.listed ≡ 0) × (new ≡ old) × (new_values ≡ old_values) × ((x : ℕ) → HardInNumbers d x → ⊥)
  pub written : (s : Searched) → answer ≡ Ok s
      → (new_marks ≡ marks_of d) × (new ≡ overwrite_front (listed_arguments d) old) × (new_values ≡ overwrite_front (hard_values d) old_values)
  pub buffer : (s : Searched) → answer ≡ Ok s → BufferCorrect (listed_arguments d) old new
  pub values_buffer : (s : Searched) → answer ≡ Ok s → BufferCorrect (hard_values d) old_values new_values
  -- from the call's numbers to what then lies in the caller's list, and that it ascends strictly there
  pub hard : (s : Searched) → answer ≡ Ok s → Enumerates (ListedInNumbers d) s.listed (take s.listed new)
  pub ascends : (s : Searched) → answer ≡ Ok s → (i j : ℕ) → i < j → j < s.listed → get_or new i 0 < get_or new j 0
  -- and what lies beside each listed argument origin + x is V(x)
  pub values : (s : Searched) → answer ≡ Ok s → (i : ℕ) → i < s.listed → BesideInNumbers d (get_or new i 0) (get_or new_values i 0)
  -- the places after them are as they were in both
  pub after : (s : Searched) → answer ≡ Ok s → (i : ℕ) → s.listed ≤ i
      → (get_or new i 0 ≡ get_or old i 0) × (get_or new_values i 0 ≡ get_or old_values i 0)

-- what a domain leaves in eight numbers `old` that it is lent for the marks, whatever they are:
-- `new`. A refusal leaves them as they were; otherwise they are the numbers of the marks
pub record MarkNumbersCorrect (d : Domain) (old : List ℕ) (answer : Result Searched Refusal)
    (new : List ℕ) : Type 0 where
  pub unchanged : (r : Refusal) → answer ≡ Err r → new ≡ old
  pub marked : (s : Searched) → answer ≡ Ok s → MarksCorrect d s.first new
  pub written : (s : Searched) → answer ≡ Ok s → new ≡ mark_numbers (marks_of d)

-- with another origin `o`, a domain is answered the same, leaves the same marks and values, and each listed argument moves by the difference of the origins, where
-- both are at most 2^52
pub record OriginCorrect (d : Domain) (o : ℕ) (old_marks : List Mark) (old old_values : List ℕ) : Type 0 where
  -- it has the same other numbers
  pub is : with_origin o d
      ≡ record { origin = o; modulus = d.modulus; value = d.value; slope = d.slope; curve = d.curve; count = d.count; window = d.window }
  pub same_answer : domain_answer (with_origin o d) (length old) (length old_values) ≡ domain_answer d (length old) (length old_values)
  pub same_marks : marks_after (with_origin o d) (length old) (length old_values) old_marks ≡ marks_after d (length old) (length old_values) old_marks
  pub same_mark_numbers : (numbers : List ℕ)
      → mark_numbers_after (with_origin o d) (length old) (length old_values) numbers
      ≡ mark_numbers_after d (length old) (length old_values) numbers
  pub same_values : values_after (with_origin o d) (length old) old_values ≡ values_after d (length old) old_values
  pub moved : (s : Searched) → domain_answer d (length old) (length old_values) ≡ Ok s → (i : ℕ) → i < s.listed
      → get_or (list_after (with_origin o d) (length old_values) old) i 0 + d.origin ≡ get_or (list_after d (length old_values) old) i 0 + o

-- what the scan of a segment is answered with a list `old` and values `old_values`, and what is then in them, `new` and `new_values`
pub record ScanCorrect (s : Segment) (old old_values : List ℕ) (answer : Result ℕ Refusal) (new new_values : List ℕ) : Type 0 where
  pub refused : (r : Refusal) → (answer ≡ Err r) ↔ ScanRefusedFor s (length old) (length old_values) (number_of r)
  pub unchanged : (r : Refusal) → answer ≡ Err r → (new ≡ old) × (new_values ≡ old_values)
  pub listed : (n : ℕ) → (answer ≡ Ok n)
      ↔ (segment.Accepted s × (length (geometry.hard_list s) ≤ length old) × (length (geometry.hard_list s) ≤ length old_values)
      × (n ≡ length (geometry.hard_list s)))
  pub buffer : (n : ℕ) → answer ≡ Ok n → BufferCorrect (geometry.hard_list s) old new
  pub values_buffer : (n : ℕ) → answer ≡ Ok n → BufferCorrect (hard_residues s) old_values new_values
  pub hard : (n : ℕ) → answer ≡ Ok n → Enumerates (HardInSegment s.unit s.step s.start s.count s.window) n (take n new)
  pub ascends : (n : ℕ) → answer ≡ Ok n → (i j : ℕ) → i < j → j < n → get_or new i 0 < get_or new j 0
  pub values : (n : ℕ) → answer ≡ Ok n → (i : ℕ) → i < n
      → ResidueInSegment s.unit s.step s.start (get_or new i 0) (get_or new_values i 0)
  pub after : (n : ℕ) → answer ≡ Ok n → (i : ℕ) → n ≤ i → (get_or new i 0 ≡ get_or old i 0) × (get_or new_values i 0 ≡ get_or old_values i 0)

-- ---- all of it

pub record Promised : Type 0 where
  pub parabolas : (d : Domain) → ParabolaCorrect d
  -- a domain is accepted exactly where its seven numbers are within 01's bounds, as 02 changes them; what the phases need does not depend on the origin
  pub accepted : (d : Domain) → Accepted d ↔ (Searchable d × (d.origin ≤ 2 ^ 52))
  pub searchable : (d : Domain)
      → Searchable d
      ↔ ((2 ≤ d.modulus) × (d.modulus ≤ 2 ^ 62) × (d.slope < d.modulus) × (d.value < d.modulus) × (1 ≤ d.count) × (d.count ≤ 1048576)
      × (1 ≤ d.window) × (d.window ≤ d.modulus) × (nat_abs d.curve ≤ 1048576))
  pub values : (d : Domain) → 0 < d.modulus → ValuesCorrect (parabola_of d)
  -- the parabola that the phases search has the values raised by w - 1 and a window for both sides
  pub centred : (d : Domain) → Searchable d → CentredCorrect (parabola_of d)
  -- hard is what is less than w from the nearest multiple of M
  pub nearest : (d : Domain) → Searchable d → (x : ℕ) → HardInNumbers d x ↔ NearAMultiple d x
  pub hard_lists : (d : Domain) → Searchable d → Enumerates (HardInNumbers d) (length (hard_arguments d)) (hard_arguments d)
  pub listed_are : (d : Domain) → Accepted d → Enumerates (ListedInNumbers d) (length (hard_arguments d)) (listed_arguments d)
  pub hard_values_are : (d : Domain) → Searchable d → ValuesBeside d (listed_arguments d) (hard_values d)
  pub coverings : (d : Domain) → Searchable d → CoveringsCorrect d
  -- where parts begin and how long they are; the parts of a domain; and those of the parabola that the phases search, whose lists make up the list of the domain
  pub eight_parts : (d : Domain) → EightPartsCorrect d.count
  pub parts : (d : Domain) → Searchable d → PartsCorrect (parabola_of d)
  pub centred_parts : (d : Domain) → Searchable d → PartsCorrect (centred_of d)
  -- a scan goes from the value and the slope at x to those at x + 1
  pub differences : (p : Parabola) (x : ℕ) → 0 < p.unit
      → next_point (second_difference p) p.unit (record { value = value_at p x; slope = slope_at p x })
      ≡ record { value = value_at p (suc x); slope = slope_at p (suc x) }
  pub phases : (d : Domain) → Searchable d → PhasesCorrect d
  -- 1 to 5 refuse a domain exactly where they refuse the segment with its slope for the step and its value for the start
  pub refused_as_segment : (d : Domain) (list_places value_places : ℕ) (r : Refusal) → number_of r ≤ 5
      → (domain_answer d list_places value_places ≡ Err r)
      ↔ (segment.refusal (segment.asked d.modulus d.slope d.value d.count d.window) ≡ number_of r)
  -- counts that were accepted before document 02's 2.2, the multiples of 8 from 8 on, have the marks of before: by the verdict on each of eight parts of N/8
  -- arguments, of which none is without arguments
  pub marks_as_before : (d : Domain) → Searchable d → 8 ≤ d.count → d.count % 8 ≡ 0 → verdict regular (covering_of d) ≡ Possible → (i : ℕ) → i < 8
      → get_or (mark_numbers (marks_of d)) i 0 ≡ mark_number (mark_of (verdict fine (covering (continued (centred_of d) (i * (d.count / 8)) (d.count / 8)))))
  pub domains : (d : Domain) (old_marks : List Mark) (old old_values : List ℕ)
      → DomainCorrect d old_marks old old_values (domain_answer d (length old) (length old_values))
      (marks_after d (length old) (length old_values) old_marks) (list_after d (length old_values) old) (values_after d (length old) old_values)
  -- the call that is lent numbers for the marks has the same answer, list and values, and leaves the
  -- numbers of the marks that the call by names leaves
  pub mark_numbers_left : (d : Domain) (old : List ℕ) (list_places value_places : ℕ)
      → MarkNumbersCorrect d old (domain_answer d list_places value_places)
      (mark_numbers_after d list_places value_places old)
  pub by_number : (d : Domain) (old : List Mark) (list_places value_places : ℕ)
      → mark_numbers (marks_after d list_places value_places old)
      ≡ mark_numbers_after d list_places value_places (mark_numbers old)
  -- nothing but the listed arguments depends on the origin
  pub origins : (d : Domain) (o : ℕ) (old_marks : List Mark) (old old_values : List ℕ) → d.origin ≤ 2 ^ 52 → o ≤ 2 ^ 52 → OriginCorrect d o old_marks old old_values
  pub scans : (M a b N w : ℕ) (old old_values : List ℕ)
      → segment_promise.for_segment
      (λ s. ScanCorrect s old old_values (scan_answer M a b N w (length old) (length old_values))
      (scan_list_after M a b N w (length old_values) old) (scan_values_after M a b N w (length old) old_values)) M a b N w
  pub without_window : (d : Domain) → d.window ≡ 0 → WithoutWindow d
  -- 01's numbers and values for the cases of an answer: the refusal or 0, how many it listed or 0, phase 1's verdict
  pub domain_numbers : (r : Refusal) (s : Searched)
      → (number_in {A = Searched} (Err r) ≡ number_of r) × (number_in (Ok s) ≡ 0) × (domain_count (Err r) ≡ 0) × (domain_count (Ok s) ≡ s.listed)
      × (domain_first (Err r) ≡ Possible) × (domain_first (Ok s) ≡ s.first)
  -- there are four marks and no other, and these are their numbers
  pub four_marks : (m : Mark) → (m ≡ mark.Unseen) ⊎ (m ≡ mark.Clear) ⊎ (m ≡ mark.Possible) ⊎ (m ≡ mark.Empty)
  pub mark_numbers_are : mark_numbers (mark.Unseen ∷ mark.Clear ∷ mark.Possible ∷ mark.Empty ∷ []) ≡ 0 ∷ 1 ∷ 2 ∷ 3 ∷ []
  pub scan_numbers : (r : Refusal) (n : ℕ)
      → (number_in {A = ℕ} (Err r) ≡ number_of r) × (number_in (Ok n) ≡ 0) × (scan_count (Err r) ≡ 0) × (scan_count (Ok n) ≡ n)
