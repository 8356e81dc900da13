-- Document 01's settled examples marked P, as document 02's requests leave them, and examples of those requests, as one statement with a field for each.
-- Assumes nothing: these are statements.
use Rattle.std.specs.Prelude.{◌≡◌, List, [], ◌∷◌, ◌++◌, ℕ, ◌≤◌, ◌<◌, ℤ, pos, negsuc, replicate, Some, Result, Ok, Err}
use Rattle.numbers.specs.Lists.{tabulate}
use Rattle.numbers.specs.declared.refusals.Refusal.{Refusal}
use Rattle.numbers.specs.declared.refusals.Refusal.TheVariants.{Modulus, Step, Count, Window, Curve, Room, Argument, Target, Origin}
use Rattle.expansion.specs.Rows.{expansion, remainders, denominators, quotients}
use Rattle.expansion.specs.Configurations.{counts, regular, fine}
use Rattle.expansion.specs.Answer.{answer}
use Rattle.ostrowski.specs.Answer.{digits_answer, residue_answer, divide_answer}
use Rattle.ostrowski.specs.declared.Numeral.{Numeral}
use Rattle.geometry.specs.Segment.{segment, hard_list}
use Rattle.segment.specs.Answer.{regular_answer, fine_answer}
use Rattle.segment.specs.declared.Verdict.{Verdict}
use Rattle.segment.specs.declared.Verdict.TheVariants.{Clear, Possible}
use Rattle.parabola.specs.Parabola.{part_start, part_count}
use Rattle.domain.specs.Domain.{covering_of}
use Rattle.domain.specs.Answer.{scan_answer, scan_list_after, scan_values_after, domain_answer, marks_after, mark_numbers_after, list_after, values_after}
use Rattle.domain.specs.declared.Domain.{Domain}
use Rattle.domain.specs.Marks.{mark_numbers}
use Rattle.domain.specs.declared.marks.Mark.{Mark}
use Rattle.domain.specs.declared.Searched.{Searched}
use Rattle.text.specs.Text.{bytes}
use Rattle.job.specs.Reading.{reading}
use Rattle.job.specs.Output.{output_of}

-- what a domain's search answers: phase 1's verdict, and so many listed
abbrev pub searched : (first : Verdict) → (listed : ℕ) → Searched
searched v n = record { first = v; listed = n }

-- the expansion of 45 and 14, the call's whole answer, and the counts of its regular and fine configurations
pub record Example1 : Type 0 where
  pub remainders_are : remainders (expansion 45 14) ≡ 14 ∷ 3 ∷ 2 ∷ 1 ∷ 0 ∷ []
  -- the last is written 0
  pub quotients_are : quotients (expansion 45 14) ≡ 3 ∷ 4 ∷ 1 ∷ 2 ∷ 0 ∷ []
  pub denominators_are : denominators (expansion 45 14) ≡ 1 ∷ 3 ∷ 13 ∷ 16 ∷ 45 ∷ []
  pub answered : answer 45 14
      ≡ Ok (record {
        remainders = 14 ∷ 3 ∷ 2 ∷ 1 ∷ 0 ∷ replicate 84 0;
        denominators = 1 ∷ 3 ∷ 13 ∷ 16 ∷ 45 ∷ replicate 84 0;
        quotients = 3 ∷ 4 ∷ 1 ∷ 2 ∷ 0 ∷ replicate 84 0;
        last = 4;
      })
  pub regular_counts : counts (regular 45 14) ≡ 1 ∷ 4 ∷ 16 ∷ 29 ∷ 45 ∷ []
  pub fine_counts : counts (fine 45 14) ≡ 1 ∷ 2 ∷ 3 ∷ 4 ∷ 7 ∷ 10 ∷ 13 ∷ 16 ∷ 29 ∷ 45 ∷ []

-- M 45, a 14, b 44, N 16, w 1, regular: n 16, index 2, distance 2 at 3, clear
abbrev pub Example2 : Type 0
Example2 =
    regular_answer 45 14 44 16 1
    ≡ Ok (record { count = 16; quotients = 2; distance = 2; argument = 3; verdict = Clear })

-- the same with N 17: n 29, index 3, distance 0 at 16, possible
abbrev pub Example3 : Type 0
Example3 =
    regular_answer 45 14 44 17 1
    ≡ Ok (record { count = 29; quotients = 3; distance = 0; argument = 16; verdict = Possible })

-- b 8, N 5, w 1: regular n 16, distance 0 at 7, possible; fine n 7, label (1, 1), distance 8 at 0, clear
pub record Example4 : Type 0 where
  pub by_regular : regular_answer 45 14 8 5 1
      ≡ Ok (record { count = 16; quotients = 2; distance = 0; argument = 7; verdict = Possible })
  pub by_fine : fine_answer 45 14 8 5 1
      ≡ Ok (record { count = 7; index = 1; part = 1; distance = 8; argument = 0; verdict = Clear })

-- M 45, a 0, b 9, N 1,048,576: n 1, distance 9 at 0; w 9 clear, w 10 possible; by either search
pub record Example5 : Type 0 where
  pub regular_clear : regular_answer 45 0 9 1048576 9
      ≡ Ok (record { count = 1; quotients = 0; distance = 9; argument = 0; verdict = Clear })
  pub regular_possible : regular_answer 45 0 9 1048576 10
      ≡ Ok (record { count = 1; quotients = 0; distance = 9; argument = 0; verdict = Possible })
  pub fine_clear : fine_answer 45 0 9 1048576 9
      ≡ Ok (record { count = 1; index = 0; part = 0; distance = 9; argument = 0; verdict = Clear })
  pub fine_possible : fine_answer 45 0 9 1048576 10
      ≡ Ok (record { count = 1; index = 0; part = 0; distance = 9; argument = 0; verdict = Possible })

-- where 01 tells no window: what a search answers for every one from 1 to M, clear where the distance is at least the window, and possible where it is less
pub record RegularShows (M a b N count quotients distance argument : ℕ) : Type 0 where
  pub clear : (w : ℕ) → 1 ≤ w → w ≤ M → w ≤ distance
      → regular_answer M a b N w
      ≡ Ok (record { count = count; quotients = quotients; distance = distance; argument = argument; verdict = Clear })
  pub possible : (w : ℕ) → 1 ≤ w → w ≤ M → distance < w
      → regular_answer M a b N w
      ≡ Ok (record { count = count; quotients = quotients; distance = distance; argument = argument; verdict = Possible })

pub record FineShows (M a b N count index part distance argument : ℕ) : Type 0 where
  pub clear : (w : ℕ) → 1 ≤ w → w ≤ M → w ≤ distance
      → fine_answer M a b N w
      ≡ Ok (record { count = count; index = index; part = part; distance = distance; argument = argument; verdict = Clear })
  pub possible : (w : ℕ) → 1 ≤ w → w ≤ M → distance < w
      → fine_answer M a b N w
      ≡ Ok (record { count = count; index = index; part = part; distance = distance; argument = argument; verdict = Possible })

-- M 45, a 15, b 44, N 10, fine: n 3, label (0, 2), distance 14 at 2
abbrev pub Example6 : Type 0
Example6 = FineShows 45 15 44 10 3 0 2 14 2

-- M 45, a 44, b 0, N 3: regular n 45, index 2; fine n 3, label (1, 1). Both show distance 0 at 0, which 01 does not tell: every
-- accepted window is possible
pub record Example7 : Type 0 where
  pub by_regular : RegularShows 45 44 0 3 45 2 0 0
  pub by_fine : FineShows 45 44 0 3 3 1 1 0 0

-- M 45, a 14, b 44, N 1: n 1, distance 44; by either search, at argument 0
pub record Example8 : Type 0 where
  pub by_regular : RegularShows 45 14 44 1 1 0 44 0
  pub by_fine : FineShows 45 14 44 1 1 0 0 44 0

-- the scan of M 45, a 14, b 44, N 16: w 6 lists 3, 6 with the residues 2, 5 (02, 2.6); w 3 lists 3 with 2; w 0 is 5 (02, 2.3). A place more stays as it was, and
-- w 6 with one place is 7
pub record Example9 : Type 0 where
  pub hard_6 : hard_list (segment 45 14 44 16 6) ≡ 3 ∷ 6 ∷ []
  pub hard_3 : hard_list (segment 45 14 44 16 3) ≡ 3 ∷ []
  pub answered_6 : scan_answer 45 14 44 16 6 2 2 ≡ Ok 2
  pub left_6 : (x y z : ℕ) → scan_list_after 45 14 44 16 6 3 (x ∷ y ∷ z ∷ []) ≡ 3 ∷ 6 ∷ z ∷ []
  pub values_6 : (x y z : ℕ) → scan_values_after 45 14 44 16 6 3 (x ∷ y ∷ z ∷ []) ≡ 2 ∷ 5 ∷ z ∷ []
  pub answered_3 : scan_answer 45 14 44 16 3 1 1 ≡ Ok 1
  pub left_3 : (x : ℕ) → scan_list_after 45 14 44 16 3 1 (x ∷ []) ≡ 3 ∷ []
  pub values_3 : (x : ℕ) → scan_values_after 45 14 44 16 3 1 (x ∷ []) ≡ 2 ∷ []
  pub answered_0 : (m n : ℕ) → scan_answer 45 14 44 16 0 m n ≡ Err Window
  pub left_0 : (n : ℕ) (old : List ℕ) → scan_list_after 45 14 44 16 0 n old ≡ old
  pub values_0 : (m : ℕ) (old : List ℕ) → scan_values_after 45 14 44 16 0 m old ≡ old
  pub too_few : scan_answer 45 14 44 16 6 1 1 ≡ Err Room
  pub left_too_few : (x : ℕ) → scan_list_after 45 14 44 16 6 1 (x ∷ []) ≡ x ∷ []
  pub values_too_few : (x : ℕ) → scan_values_after 45 14 44 16 6 1 (x ∷ []) ≡ x ∷ []

-- job J's domain, M 45, c0 44, c1 31, with any count, curve and window
abbrev pub JWith : (count : ℕ) (s : ℤ) (window : ℕ) → Domain
JWith n s w = record { origin = 0; modulus = 45; value = 44; slope = 31; curve = s; count = n; window = w }

-- with job J's own curve and window, s 0 and w 3
abbrev pub JOf : (count : ℕ) → Domain
JOf n = JWith n (pos 0) 3

-- job J itself has 16 arguments
abbrev pub J : Domain
J = JOf 16

-- the eight marks that a call leaves, by name and by number, whatever they were
abbrev pub MarksThen : Domain → (list_places value_places : ℕ) → (numbers : List ℕ) → Type 0
MarksThen d m n numbers =
    ((old : List Mark) → mark_numbers (marks_after d m n old) ≡ numbers)
    × ((old : List ℕ) → mark_numbers_after d m n old ≡ numbers)

-- and marks that stay as they were, by name and by number
abbrev pub MarksStay : Domain → (list_places value_places : ℕ) → Type 0
MarksStay d m n =
    ((old : List Mark) → marks_after d m n old ≡ old)
    × ((old : List ℕ) → mark_numbers_after d m n old ≡ old)

-- job J, bytes in and bytes out, by 02's requests 2.1 and 2.6, and the segment that covers it
pub record Example10 : Type 0 where
  pub prints : output_of (bytes "modulus=45\nvalue=44\nslope=31\ncurve=0\ncount=16\nwindow=3\n")
      ≡ bytes "first=possible\nparts=22111111\nlisted=2\nargument=0 value=44\nargument=3 value=2\n"
  pub read : reading (bytes "modulus=45\nvalue=44\nslope=31\ncurve=0\ncount=16\nwindow=3\n")
      ≡ Some J
  pub answered : domain_answer J 4096 4096 ≡ Ok (searched Possible 2)
  pub marks : MarksThen J 4096 4096 (2 ∷ 2 ∷ 1 ∷ 1 ∷ 1 ∷ 1 ∷ 1 ∷ 1 ∷ [])
  pub left : (x y z : ℕ) → list_after J 3 (x ∷ y ∷ z ∷ []) ≡ 0 ∷ 3 ∷ z ∷ []
  pub values : (x y z : ℕ) → values_after J 3 (x ∷ y ∷ z ∷ []) ≡ 44 ∷ 2 ∷ z ∷ []
  pub covered : covering_of J ≡ segment 45 14 1 16 5
  -- with one place it is 7: 0 is hard too, whose value 44 is 1 below the modulus
  pub too_few : domain_answer J 1 1 ≡ Err Room
  pub left_too_few : (x : ℕ) → list_after J 1 (x ∷ []) ≡ x ∷ []
  pub values_too_few : (x : ℕ) → values_after J 1 (x ∷ []) ≡ x ∷ []

-- the domain M 45, c0 0, c1 0, N 8, w 1 with a curve
abbrev pub bent : (s : ℤ) → Domain
bent s = record { origin = 0; modulus = 45; value = 0; slope = 0; curve = s; count = 8; window = 1 }

-- with s 1: parts 22111111, list 0, 1 with the values 0, 0. With s -1 the same
pub record Example11 : Type 0 where
  pub rising : domain_answer (bent (pos 1)) 2 2 ≡ Ok (searched Possible 2)
  pub rising_marks : MarksThen (bent (pos 1)) 2 2 (2 ∷ 2 ∷ 1 ∷ 1 ∷ 1 ∷ 1 ∷ 1 ∷ 1 ∷ [])
  pub rising_left : (x y : ℕ) → list_after (bent (pos 1)) 2 (x ∷ y ∷ []) ≡ 0 ∷ 1 ∷ []
  pub rising_values : (x y : ℕ) → values_after (bent (pos 1)) 2 (x ∷ y ∷ []) ≡ 0 ∷ 0 ∷ []
  pub falling : domain_answer (bent (negsuc 0)) 2 2 ≡ Ok (searched Possible 2)
  pub falling_marks : MarksThen (bent (negsuc 0)) 2 2 (2 ∷ 2 ∷ 1 ∷ 1 ∷ 1 ∷ 1 ∷ 1 ∷ 1 ∷ [])
  pub falling_left : (x y : ℕ) → list_after (bent (negsuc 0)) 2 (x ∷ y ∷ []) ≡ 0 ∷ 1 ∷ []
  pub falling_values : (x y : ℕ) → values_after (bent (negsuc 0)) 2 (x ∷ y ∷ []) ≡ 0 ∷ 0 ∷ []

-- ---- both sides of a breakpoint (2.1), in domains of eight arguments, one a part

-- the line 3 + 3x modulo 10
abbrev pub line_of_10 : (window : ℕ) → Domain
line_of_10 w = record { origin = 0; modulus = 10; value = 3; slope = 3; curve = pos 0; count = 8; window = w }

-- a constant modulo 11, with so many arguments
abbrev pub constant_of : (count value window : ℕ) → Domain
constant_of n v w = record { origin = 0; modulus = 11; value = v; slope = 0; curve = pos 0; count = n; window = w }

abbrev pub constant_of_11 : (value window : ℕ) → Domain
constant_of_11 v w = constant_of 8 v w

-- parabolas with a window of 2
abbrev pub rising_arc : Domain
rising_arc = record { origin = 0; modulus = 45; value = 17; slope = 17; curve = pos 1; count = 8; window = 2 }

abbrev pub falling_arc : Domain
falling_arc = record { origin = 0; modulus = 45; value = 11; slope = 8; curve = negsuc 0; count = 8; window = 2 }

pub record BothSides : Type 0 where
  -- a window of 2 lists 2 and 6, whose values are 9 and 1; a window of 6 lists all
  pub line_2 : domain_answer (line_of_10 2) 2 2 ≡ Ok (searched Possible 2)
  pub line_2_marks : MarksThen (line_of_10 2) 2 2 (1 ∷ 1 ∷ 2 ∷ 1 ∷ 1 ∷ 1 ∷ 2 ∷ 1 ∷ [])
  pub line_2_left : (x y : ℕ) → list_after (line_of_10 2) 2 (x ∷ y ∷ []) ≡ 2 ∷ 6 ∷ []
  pub line_2_values : (x y : ℕ) → values_after (line_of_10 2) 2 (x ∷ y ∷ []) ≡ 9 ∷ 1 ∷ []
  pub line_6 : domain_answer (line_of_10 6) 8 8 ≡ Ok (searched Possible 8)
  pub line_6_left : list_after (line_of_10 6) 8 (replicate 8 0) ≡ 0 ∷ 1 ∷ 2 ∷ 3 ∷ 4 ∷ 5 ∷ 6 ∷ 7 ∷ []
  pub line_6_values : values_after (line_of_10 6) 8 (replicate 8 0) ≡ 3 ∷ 6 ∷ 9 ∷ 2 ∷ 5 ∷ 8 ∷ 1 ∷ 4 ∷ []
  -- 5 is 5 above a multiple of 11, and 6 is 5 below one: a window of 5 is cleared, and a window of 6 lists all
  pub above_5 : domain_answer (constant_of_11 5 5) 0 0 ≡ Ok (searched Clear 0)
  pub above_6 : domain_answer (constant_of_11 5 6) 8 8 ≡ Ok (searched Possible 8)
  pub above_6_left : list_after (constant_of_11 5 6) 8 (replicate 8 0) ≡ 0 ∷ 1 ∷ 2 ∷ 3 ∷ 4 ∷ 5 ∷ 6 ∷ 7 ∷ []
  pub above_6_values : values_after (constant_of_11 5 6) 8 (replicate 8 0) ≡ replicate 8 5
  pub below_5 : domain_answer (constant_of_11 6 5) 0 0 ≡ Ok (searched Clear 0)
  pub below_6 : domain_answer (constant_of_11 6 6) 8 8 ≡ Ok (searched Possible 8)
  pub below_6_left : list_after (constant_of_11 6 6) 8 (replicate 8 0) ≡ 0 ∷ 1 ∷ 2 ∷ 3 ∷ 4 ∷ 5 ∷ 6 ∷ 7 ∷ []
  pub below_6_values : values_after (constant_of_11 6 6) 8 (replicate 8 0) ≡ replicate 8 6
  -- values 1 and 44 listed; D is 28, the start gains 1, and the window of the covering segment is 2·2 - 1 + 28
  pub rising : domain_answer rising_arc 2 2 ≡ Ok (searched Possible 2)
  pub rising_marks : MarksThen rising_arc 2 2 (1 ∷ 1 ∷ 1 ∷ 1 ∷ 2 ∷ 1 ∷ 2 ∷ 1 ∷ [])
  pub rising_left : (x y : ℕ) → list_after rising_arc 2 (x ∷ y ∷ []) ≡ 4 ∷ 6 ∷ []
  pub rising_values : (x y : ℕ) → values_after rising_arc 2 (x ∷ y ∷ []) ≡ 1 ∷ 44 ∷ []
  pub rising_covered : covering_of rising_arc ≡ segment 45 28 1 8 31
  pub falling : domain_answer falling_arc 2 2 ≡ Ok (searched Possible 2)
  pub falling_marks : MarksThen falling_arc 2 2 (1 ∷ 1 ∷ 1 ∷ 1 ∷ 1 ∷ 1 ∷ 2 ∷ 2 ∷ [])
  pub falling_left : (x y : ℕ) → list_after falling_arc 2 (x ∷ y ∷ []) ≡ 6 ∷ 7 ∷ []
  pub falling_values : (x y : ℕ) → values_after falling_arc 2 (x ∷ y ∷ []) ≡ 44 ∷ 1 ∷ []
  pub falling_covered : covering_of falling_arc ≡ segment 45 37 12 8 31

-- ---- domains of any length (2.2)

-- parabolas with 12 arguments and a window of 2
abbrev pub rising_12 : Domain
rising_12 = record { origin = 0; modulus = 45; value = 0; slope = 40; curve = pos 1; count = 12; window = 2 }

abbrev pub falling_12 : Domain
falling_12 = record { origin = 0; modulus = 45; value = 0; slope = 4; curve = negsuc 0; count = 12; window = 2 }

pub record AnyLength : Type 0 where
  -- eight parts of 12 arguments: the first four have two, the others one
  pub starts_of_12 : tabulate (part_start 12) 8 0 ≡ 0 ∷ 2 ∷ 4 ∷ 6 ∷ 8 ∷ 9 ∷ 10 ∷ 11 ∷ []
  pub counts_of_12 : tabulate (part_count 12) 8 0 ≡ 2 ∷ 2 ∷ 2 ∷ 2 ∷ 1 ∷ 1 ∷ 1 ∷ 1 ∷ []
  -- job J with 12 arguments, with 3 and with 1, bytes in and bytes out: parts without arguments are marked 3
  pub prints_12 : output_of (bytes "modulus=45\nvalue=44\nslope=31\ncurve=0\ncount=12\nwindow=3\n")
      ≡ bytes "first=possible\nparts=22111111\nlisted=2\nargument=0 value=44\nargument=3 value=2\n"
  pub prints_3 : output_of (bytes "modulus=45\nvalue=44\nslope=31\ncurve=0\ncount=3\nwindow=3\n")
      ≡ bytes "first=possible\nparts=21133333\nlisted=1\nargument=0 value=44\n"
  pub prints_1 : output_of (bytes "modulus=45\nvalue=44\nslope=31\ncurve=0\ncount=1\nwindow=3\n")
      ≡ bytes "first=possible\nparts=23333333\nlisted=1\nargument=0 value=44\n"
  -- in the calls' answers and buffers
  pub answered_12 : domain_answer (JOf 12) 2 2 ≡ Ok (searched Possible 2)
  pub left_12 : (x y z : ℕ) → list_after (JOf 12) 3 (x ∷ y ∷ z ∷ []) ≡ 0 ∷ 3 ∷ z ∷ []
  pub values_12 : (x y z : ℕ) → values_after (JOf 12) 3 (x ∷ y ∷ z ∷ []) ≡ 44 ∷ 2 ∷ z ∷ []
  pub marks_3 : MarksThen (JOf 3) 1 1 (2 ∷ 1 ∷ 1 ∷ 3 ∷ 3 ∷ 3 ∷ 3 ∷ 3 ∷ [])
  pub left_3 : (x y : ℕ) → list_after (JOf 3) 2 (x ∷ y ∷ []) ≡ 0 ∷ y ∷ []
  pub values_3 : (x y : ℕ) → values_after (JOf 3) 2 (x ∷ y ∷ []) ≡ 44 ∷ y ∷ []
  -- hard arguments in longer and in shorter parts. With two arguments the part 6 of the first domain, and the part 4 of the second, would have the next part's
  -- hard argument and not be clear
  pub rising : domain_answer rising_12 2 2 ≡ Ok (searched Possible 2)
  pub rising_marks : MarksThen rising_12 2 2 (2 ∷ 1 ∷ 1 ∷ 1 ∷ 1 ∷ 1 ∷ 1 ∷ 2 ∷ [])
  pub rising_left : (x y : ℕ) → list_after rising_12 2 (x ∷ y ∷ []) ≡ 0 ∷ 11 ∷ []
  pub rising_values : (x y : ℕ) → values_after rising_12 2 (x ∷ y ∷ []) ≡ 0 ∷ 0 ∷ []
  pub falling : domain_answer falling_12 2 2 ≡ Ok (searched Possible 2)
  pub falling_marks : MarksThen falling_12 2 2 (2 ∷ 1 ∷ 1 ∷ 1 ∷ 1 ∷ 2 ∷ 1 ∷ 1 ∷ [])
  pub falling_left : (x y : ℕ) → list_after falling_12 2 (x ∷ y ∷ []) ≡ 0 ∷ 9 ∷ []
  pub falling_values : (x y : ℕ) → values_after falling_12 2 (x ∷ y ∷ []) ≡ 0 ∷ 0 ∷ []
  -- no part of a cleared domain is looked at, whether it has arguments or not
  pub prints_cleared : output_of (bytes "modulus=11\nvalue=5\nslope=0\ncurve=0\ncount=3\nwindow=5\n")
      ≡ bytes "first=cleared\nparts=00000000\nlisted=0\n"
  pub cleared_3 : domain_answer (constant_of 3 5 5) 0 0 ≡ Ok (searched Clear 0)
  pub cleared_3_marks : MarksThen (constant_of 3 5 5) 0 0 (replicate 8 0)
  -- no argument, and too many
  pub prints_refused : output_of (bytes "modulus=45\nvalue=44\nslope=31\ncurve=0\ncount=0\nwindow=3\n") ≡ bytes "refused=4\n"
  pub refused_0 : domain_answer (JOf 0) 4096 4096 ≡ Err Count
  pub refused_more : domain_answer (JOf 1048577) 4096 4096 ≡ Err Count

-- ---- windows from 1 (2.3)

pub record WindowsFrom1 : Type 0 where
  -- both searches: 0 is 5, M is accepted, M + 1 is 5; 4 comes before 5
  pub regular_0 : regular_answer 45 14 44 16 0 ≡ Err Window
  pub fine_0 : fine_answer 45 14 44 16 0 ≡ Err Window
  pub regular_M : regular_answer 45 14 44 16 45
      ≡ Ok (record { count = 16; quotients = 2; distance = 2; argument = 3; verdict = Possible })
  pub fine_M : fine_answer 45 14 44 16 45
      ≡ Ok (record { count = 16; index = 2; part = 0; distance = 2; argument = 3; verdict = Possible })
  pub regular_above : regular_answer 45 14 44 16 46 ≡ Err Window
  pub fine_above : fine_answer 45 14 44 16 46 ≡ Err Window
  pub regular_none : regular_answer 45 14 44 0 0 ≡ Err Count
  pub fine_none : fine_answer 45 14 44 0 0 ≡ Err Count
  -- scans: M lists all, M + 1 is 5; 4 comes before 5
  pub scan_M : scan_answer 45 14 44 3 45 3 3 ≡ Ok 3
  pub scan_M_left : (x y z : ℕ) → scan_list_after 45 14 44 3 45 3 (x ∷ y ∷ z ∷ []) ≡ 0 ∷ 1 ∷ 2 ∷ []
  pub scan_M_values : (x y z : ℕ) → scan_values_after 45 14 44 3 45 3 (x ∷ y ∷ z ∷ []) ≡ 44 ∷ 30 ∷ 16 ∷ []
  pub scan_above : (m n : ℕ) → scan_answer 45 14 44 16 46 m n ≡ Err Window
  pub scan_none : (m n : ℕ) → scan_answer 45 14 44 0 0 m n ≡ Err Count
  -- job J with windows of 0, 1 and M + 1, and with 3 arguments and a window of M, bytes in and bytes out
  pub prints_0 : output_of (bytes "modulus=45\nvalue=44\nslope=31\ncurve=0\ncount=16\nwindow=0\n") ≡ bytes "refused=5\n"
  pub prints_1 : output_of (bytes "modulus=45\nvalue=44\nslope=31\ncurve=0\ncount=16\nwindow=1\n")
      ≡ bytes "first=cleared\nparts=00000000\nlisted=0\n"
  pub prints_above : output_of (bytes "modulus=45\nvalue=44\nslope=31\ncurve=0\ncount=16\nwindow=46\n") ≡ bytes "refused=5\n"
  pub prints_M : output_of (bytes "modulus=45\nvalue=44\nslope=31\ncurve=0\ncount=3\nwindow=45\n")
      ≡ bytes "first=possible\nparts=22233333\nlisted=3\nargument=0 value=44\nargument=1 value=30\nargument=2 value=16\n"
  -- in the call's answers and buffers
  pub domain_0 : (m n : ℕ) → domain_answer (JWith 16 (pos 0) 0) m n ≡ Err Window
  pub marks_0 : (m n : ℕ) → MarksStay (JWith 16 (pos 0) 0) m n
  pub left_0 : (n : ℕ) (old : List ℕ) → list_after (JWith 16 (pos 0) 0) n old ≡ old
  pub values_0 : (m : ℕ) (old : List ℕ) → values_after (JWith 16 (pos 0) 0) m old ≡ old
  pub domain_1 : domain_answer (JWith 16 (pos 0) 1) 0 0 ≡ Ok (searched Clear 0)
  pub domain_M : domain_answer (JWith 3 (pos 0) 45) 3 3 ≡ Ok (searched Possible 3)
  pub domain_M_left : (x y z : ℕ) → list_after (JWith 3 (pos 0) 45) 3 (x ∷ y ∷ z ∷ []) ≡ 0 ∷ 1 ∷ 2 ∷ []
  pub domain_M_values : (x y z : ℕ) → values_after (JWith 3 (pos 0) 45) 3 (x ∷ y ∷ z ∷ []) ≡ 44 ∷ 30 ∷ 16 ∷ []
  -- 4 comes before 5, and 5 before 6, and before 7 where there is no place
  pub none_and_0 : (m n : ℕ) → domain_answer (JWith 0 (pos 0) 0) m n ≡ Err Count
  pub curve_and_0 : (m n : ℕ) → domain_answer (JWith 16 (pos 1048577) 0) m n ≡ Err Window
  pub curve_and_above : domain_answer (JWith 16 (pos 1048577) 46) 0 0 ≡ Err Window
  pub curve_alone : (m n : ℕ) → domain_answer (JWith 16 (pos 1048577) 1) m n ≡ Err Curve

-- ---- values beside the arguments (2.6)

pub record ValuesBesideArguments : Type 0 where
  -- 7 where either column has too few places, and then both stay as they were, whatever their lengths
  pub scan_list_short : scan_answer 45 14 44 16 6 1 2 ≡ Err Room
  pub scan_list_short_left : (x : ℕ) → scan_list_after 45 14 44 16 6 2 (x ∷ []) ≡ x ∷ []
  pub scan_list_short_values : (x y : ℕ) → scan_values_after 45 14 44 16 6 1 (x ∷ y ∷ []) ≡ x ∷ y ∷ []
  pub scan_values_short : scan_answer 45 14 44 16 6 2 1 ≡ Err Room
  pub scan_values_short_left : (x y : ℕ) → scan_list_after 45 14 44 16 6 1 (x ∷ y ∷ []) ≡ x ∷ y ∷ []
  pub scan_values_short_values : (x : ℕ) → scan_values_after 45 14 44 16 6 2 (x ∷ []) ≡ x ∷ []
  pub domain_list_short : domain_answer J 1 2 ≡ Err Room
  pub domain_list_short_marks : MarksStay J 1 2
  pub domain_list_short_left : (x : ℕ) → list_after J 2 (x ∷ []) ≡ x ∷ []
  pub domain_list_short_values : (x y : ℕ) → values_after J 1 (x ∷ y ∷ []) ≡ x ∷ y ∷ []
  pub domain_values_short : domain_answer J 2 1 ≡ Err Room
  pub domain_values_short_marks : MarksStay J 2 1
  pub domain_values_short_left : (x y : ℕ) → list_after J 1 (x ∷ y ∷ []) ≡ x ∷ y ∷ []
  pub domain_values_short_values : (x : ℕ) → values_after J 2 (x ∷ []) ≡ x ∷ []
  -- columns of other lengths with places enough in both
  pub scan_longer_list : (x y z : ℕ) → scan_list_after 45 14 44 16 6 2 (x ∷ y ∷ z ∷ []) ≡ 3 ∷ 6 ∷ z ∷ []
  pub scan_longer_values : (x y z : ℕ) → scan_values_after 45 14 44 16 6 2 (x ∷ y ∷ z ∷ []) ≡ 2 ∷ 5 ∷ z ∷ []
  pub domain_longer_list : (x y z : ℕ) → list_after J 2 (x ∷ y ∷ z ∷ []) ≡ 0 ∷ 3 ∷ z ∷ []
  pub domain_longer_values : (x y z : ℕ) → values_after J 2 (x ∷ y ∷ z ∷ []) ≡ 44 ∷ 2 ∷ z ∷ []
  -- a cleared domain has no value
  pub cleared_values : (x : ℕ) → values_after (JWith 16 (pos 0) 1) 0 (x ∷ []) ≡ x ∷ []

-- ---- arguments counted from the binade (2.7)

-- job J with any origin and curve
abbrev pub JFrom : (origin : ℕ) (s : ℤ) → Domain
JFrom o s = record { origin = o; modulus = 45; value = 44; slope = 31; curve = s; count = 16; window = 3 }

pub record CountedFromTheBinade : Type 0 where
  -- job J with the origin 2^52, bytes in and bytes out
  pub prints : output_of (bytes "origin=4503599627370496\nmodulus=45\nvalue=44\nslope=31\ncurve=0\ncount=16\nwindow=3\n")
      ≡ bytes "first=possible\nparts=22111111\nlisted=2\nargument=4503599627370496 value=44\nargument=4503599627370499 value=2\n"
  pub read : reading (bytes "origin=4503599627370496\nmodulus=45\nvalue=44\nslope=31\ncurve=0\ncount=16\nwindow=3\n")
      ≡ Some (JFrom 4503599627370496 (pos 0))
  -- with origin 1, and with origin 0, which is J
  pub prints_1 : output_of (bytes "origin=1\nmodulus=45\nvalue=44\nslope=31\ncurve=0\ncount=16\nwindow=3\n")
      ≡ bytes "first=possible\nparts=22111111\nlisted=2\nargument=1 value=44\nargument=4 value=2\n"
  pub prints_0 : output_of (bytes "origin=0\nmodulus=45\nvalue=44\nslope=31\ncurve=0\ncount=16\nwindow=3\n")
      ≡ bytes "first=possible\nparts=22111111\nlisted=2\nargument=0 value=44\nargument=3 value=2\n"
  pub read_0 : reading (bytes "origin=0\nmodulus=45\nvalue=44\nslope=31\ncurve=0\ncount=16\nwindow=3\n") ≡ Some J
  -- above 2^52, up to 2^64 - 1, it is 11; 2^64 is malformed
  pub prints_above : output_of (bytes "origin=4503599627370497\nmodulus=45\nvalue=44\nslope=31\ncurve=0\ncount=16\nwindow=3\n") ≡ bytes "refused=11\n"
  pub prints_most : output_of (bytes "origin=18446744073709551615\nmodulus=45\nvalue=44\nslope=31\ncurve=0\ncount=16\nwindow=3\n") ≡ bytes "refused=11\n"
  pub prints_more : output_of (bytes "origin=18446744073709551616\nmodulus=45\nvalue=44\nslope=31\ncurve=0\ncount=16\nwindow=3\n") ≡ bytes "refused=8\n"
  -- the line twice, after that of the modulus, with a sign, with a leading zero, and instead of the window's
  pub prints_twice : output_of (bytes "origin=0\norigin=0\nmodulus=45\nvalue=44\nslope=31\ncurve=0\ncount=16\nwindow=3\n") ≡ bytes "refused=8\n"
  pub prints_after : output_of (bytes "modulus=45\norigin=0\nvalue=44\nslope=31\ncurve=0\ncount=16\nwindow=3\n") ≡ bytes "refused=8\n"
  pub prints_signed : output_of (bytes "origin=+1\nmodulus=45\nvalue=44\nslope=31\ncurve=0\ncount=16\nwindow=3\n") ≡ bytes "refused=8\n"
  pub prints_zeros : output_of (bytes "origin=00\nmodulus=45\nvalue=44\nslope=31\ncurve=0\ncount=16\nwindow=3\n") ≡ bytes "refused=8\n"
  pub prints_six : output_of (bytes "origin=0\nmodulus=45\nvalue=44\nslope=31\ncurve=0\ncount=16\n") ≡ bytes "refused=8\n"
  -- nothing may follow the line feed of the window line
  pub prints_longer : output_of (bytes "origin=0\nmodulus=45\nvalue=44\nslope=31\ncurve=0\ncount=16\nwindow=3\n\n") ≡ bytes "refused=8\n"
  -- in the call's answers and buffers: marks and values are J's
  pub answered : domain_answer (JFrom 4503599627370496 (pos 0)) 2 2 ≡ Ok (searched Possible 2)
  pub marks : MarksThen (JFrom 4503599627370496 (pos 0)) 2 2 (2 ∷ 2 ∷ 1 ∷ 1 ∷ 1 ∷ 1 ∷ 1 ∷ 1 ∷ [])
  pub left : (x y z : ℕ) → list_after (JFrom 4503599627370496 (pos 0)) 2 (x ∷ y ∷ z ∷ []) ≡ 4503599627370496 ∷ 4503599627370499 ∷ z ∷ []
  pub values : (x y z : ℕ) → values_after (JFrom 4503599627370496 (pos 0)) 2 (x ∷ y ∷ z ∷ []) ≡ 44 ∷ 2 ∷ z ∷ []
  -- 6 comes before 11, and 11 before 7; the buffers stay as they were
  pub curve_and_above : (m n : ℕ) → domain_answer (JFrom 4503599627370497 (pos 1048577)) m n ≡ Err Curve
  pub above_alone : (m n : ℕ) → domain_answer (JFrom 4503599627370497 (pos 0)) m n ≡ Err Origin
  pub most_alone : (m n : ℕ) → domain_answer (JFrom 18446744073709551615 (pos 0)) m n ≡ Err Origin
  pub too_few : domain_answer (JFrom 4503599627370496 (pos 0)) 1 2 ≡ Err Room
  pub above_marks : (m n : ℕ) → MarksStay (JFrom 4503599627370497 (pos 0)) m n
  pub above_left : (n : ℕ) (old : List ℕ) → list_after (JFrom 4503599627370497 (pos 0)) n old ≡ old
  pub above_values : (m : ℕ) (old : List ℕ) → values_after (JFrom 4503599627370497 (pos 0)) m old ≡ old

-- ---- digits of an argument, and modular division (2.4)

-- an answer with these digits, so many
abbrev pub digits_are : (digits : List ℕ) → (count : ℕ) → Result Numeral Refusal
digits_are d m = Ok (record { digits = d; count = m })

pub record DigitsAndDivision : Type 0 where
  -- 45 and 14: 15 is 2·1 + 0·3 + 1·13 + 0·16, with the residue 2·14 - 0·3 + 1·2 - 0·1
  pub of_15 : digits_answer 45 14 15 ≡ digits_are (2 ∷ 0 ∷ 1 ∷ 0 ∷ replicate 84 0) 4
  pub residue_15 : residue_answer 45 14 15 ≡ Ok 30
  pub target_30 : divide_answer 45 14 30 ≡ Ok 15
  -- 44, the last argument, is 0·1 + 4·3 + 0·13 + 2·16, with the residue 0·14 - 4·3 + 0·2 - 2·1 modulo 45
  pub of_44 : digits_answer 45 14 44 ≡ digits_are (0 ∷ 4 ∷ 0 ∷ 2 ∷ replicate 84 0) 4
  pub residue_44 : residue_answer 45 14 44 ≡ Ok 31
  -- a division with rows of both parities
  pub target_31 : divide_answer 45 14 31 ≡ Ok 44
  -- 16 is q(3), and not 3 + 13, in which d(2) = k(3) stands over a digit that is not 0
  pub of_16 : digits_answer 45 14 16 ≡ digits_are (0 ∷ 0 ∷ 0 ∷ 1 ∷ replicate 84 0) 4
  pub residue_16 : residue_answer 45 14 16 ≡ Ok 44
  pub target_44 : divide_answer 45 14 44 ≡ Ok 16
  pub of_0 : digits_answer 45 14 0 ≡ digits_are (replicate 88 0) 4
  -- at P, and at M
  pub of_45 : digits_answer 45 14 45 ≡ Err Argument
  pub residue_45 : residue_answer 45 14 45 ≡ Err Argument
  pub target_45 : divide_answer 45 14 45 ≡ Err Target
  -- 45 and 15, whose period is 3
  pub third_of_2 : digits_answer 45 15 2 ≡ digits_are (2 ∷ replicate 87 0) 1
  pub third_residue_2 : residue_answer 45 15 2 ≡ Ok 30
  pub third_of_3 : digits_answer 45 15 3 ≡ Err Argument
  pub third_residue_3 : residue_answer 45 15 3 ≡ Err Argument
  pub third_target_30 : divide_answer 45 15 30 ≡ Ok 2
  pub third_target_31 : divide_answer 45 15 31 ≡ Err Target
  -- 45 and 42, whose greatest common divisor is 3, and the period 15: what is found is modulo 15 and not modulo 45
  pub common_of_14 : digits_answer 45 42 14 ≡ digits_are (0 ∷ 14 ∷ replicate 86 0) 2
  pub common_residue_14 : residue_answer 45 42 14 ≡ Ok 3
  pub common_of_15 : digits_answer 45 42 15 ≡ Err Argument
  pub common_target_3 : divide_answer 45 42 3 ≡ Ok 14
  pub common_target_4 : divide_answer 45 42 4 ≡ Err Target
  -- 45 and 44: k(1) is 1, so that d(0) is always 0
  pub last_of_44 : digits_answer 45 44 44 ≡ digits_are (0 ∷ 44 ∷ replicate 86 0) 2
  pub last_residue_44 : residue_answer 45 44 44 ≡ Ok 1
  pub last_target_1 : divide_answer 45 44 1 ≡ Ok 44
  -- a step of 0: no digits, the argument 0 alone, the target 0 alone
  pub none_of_0 : digits_answer 45 0 0 ≡ digits_are (replicate 88 0) 0
  pub none_residue_0 : residue_answer 45 0 0 ≡ Ok 0
  pub none_of_1 : digits_answer 45 0 1 ≡ Err Argument
  pub none_residue_1 : residue_answer 45 0 1 ≡ Err Argument
  pub none_target_0 : divide_answer 45 0 0 ≡ Ok 0
  pub none_target_1 : divide_answer 45 0 1 ≡ Err Target
  -- the least modulus and the largest; a product that no word holds
  pub least_of_1 : digits_answer 2 1 1 ≡ digits_are (1 ∷ replicate 87 0) 1
  pub largest_last : digits_answer 4611686018427387904 4611686018427387903 4611686018427387903 ≡ digits_are (0 ∷ 4611686018427387903 ∷ replicate 86 0) 2
  pub largest_residue : residue_answer 4611686018427387904 4611686018427387903 4611686018427387903 ≡ Ok 1
  pub wide_product : residue_answer 4611686018427387903 4611686018427387902 4611686018427387902 ≡ Ok 1
  -- neighbouring Fibonacci numbers, which have all 88 digits: the argument is q(87)
  pub every_place : digits_answer 2880067194370816120 1779979416004714189 1100087778366101931 ≡ digits_are (replicate 87 0 ++ (1 ∷ [])) 88
  pub every_place_residue : residue_answer 2880067194370816120 1779979416004714189 1100087778366101931 ≡ Ok 2880067194370816119
  -- 1 comes before 2, and both before 9 and 10
  pub modulus_0 : digits_answer 0 45 45 ≡ Err Modulus
  pub modulus_1 : residue_answer 1 45 45 ≡ Err Modulus
  pub modulus_above : divide_answer 4611686018427387905 4611686018427387906 4611686018427387906 ≡ Err Modulus
  pub step_45 : digits_answer 45 45 45 ≡ Err Step
  pub step_46 : residue_answer 45 46 45 ≡ Err Step
  pub step_47 : divide_answer 45 47 45 ≡ Err Step

-- all of them
pub record Settled : Type 0 where
  pub p1 : Example1
  pub p2 : Example2
  pub p3 : Example3
  pub p4 : Example4
  pub p5 : Example5
  pub p6 : Example6
  pub p7 : Example7
  pub p8 : Example8
  pub p9 : Example9
  pub p10 : Example10
  pub p11 : Example11
  pub both_sides : BothSides
  pub any_length : AnyLength
  pub windows_from_1 : WindowsFrom1
  pub values_beside_arguments : ValuesBesideArguments
  pub counted_from_the_binade : CountedFromTheBinade
  pub digits_and_division : DigitsAndDivision
