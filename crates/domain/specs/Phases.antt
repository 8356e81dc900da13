-- What the phases find in a parabola: the marks of its parts, and how many hard arguments each has. Assumes nothing: these are definitions.
use Rattle.std.specs.Prelude.{List, map, ℕ, zero, suc, length, replicate}
use Rattle.numbers.specs.Lists.{tabulate}
use Rattle.expansion.specs.Reached.Search.{regular, fine}
use Rattle.segment.specs.Search.{verdict}
use Rattle.segment.specs.declared.Verdict.{Verdict}
use Rattle.segment.specs.declared.Verdict.TheVariants.{Clear, Possible}
use Rattle.parabola.specs.Parabola.{Parabola, hard_list, covering, part}
use Rattle.domain.specs.declared.marks.Mark.{Mark}
use Rattle.domain.specs.declared.marks.Mark.TheVariants as mark
use Rattle.domain.specs.declared.phases.PartReport.{PartReport}
use Rattle.domain.specs.declared.phases.Report.{Report}

-- a part is marked by its verdict: where it is possible it is scanned
unfoldable pub mark_of : Verdict → Mark
mark_of Clear = mark.Clear
mark_of Possible = mark.Possible

-- and as empty where it has no argument
unfoldable pub mark_with : (count : ℕ) → Verdict → Mark
mark_with zero v = mark.Empty
mark_with (suc n) v = mark_of v

-- phase 2's mark of a part, a parabola of its own, by the fine search of its covering segment
abbrev pub mark_of_part : Parabola → Mark
mark_of_part q = mark_with q.count (verdict fine (covering q))

abbrev pub part_mark : Parabola → (i : ℕ) → Mark
part_mark p i = mark_of_part (part p i)

abbrev pub part_marks : Parabola → List Mark
part_marks p = map (part_mark p) (tabulate (λ i. i) 8 0)

-- the eight marks, by the verdict of phase 1: not looked at where it clears the whole
unfoldable pub marks_by : Verdict → Parabola → List Mark
marks_by Clear p = replicate 8 mark.Unseen
marks_by Possible p = part_marks p

-- phase 1: the regular search of the covering segment
abbrev pub marks : Parabola → List Mark
marks p = marks_by (verdict regular (covering p)) p

-- phase 3: how many hard arguments each part has
abbrev pub hard_count : Parabola → (i : ℕ) → ℕ
hard_count p i = length (hard_list (part p i))

abbrev pub hard_counts : Parabola → List ℕ
hard_counts p = tabulate (hard_count p) 8 0

-- ---- what is known of the parts before anything is listed

-- of one, given as a parabola of its own
unfoldable pub part_report : Parabola → PartReport
part_report q = record { mark = mark_of_part q; hard = length (hard_list q) }

-- of all
unfoldable pub report : Parabola → Report
report p = record { marks = part_marks p; hard = hard_counts p; total = length (hard_list p) }
