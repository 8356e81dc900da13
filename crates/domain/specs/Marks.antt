-- The marks of parts by number. Assumes nothing: these are definitions.
use Rattle.std.specs.Prelude.{List, map, ℕ}
use Rattle.domain.specs.declared.marks.Mark.{Mark}
use Rattle.domain.specs.declared.marks.Mark.TheVariants.{Unseen, Clear, Possible, Empty}

-- the number by which document 01 or 02 knows a mark
abbrev pub mark_number : Mark → ℕ
mark_number Unseen = 0
mark_number Clear = 1
mark_number Possible = 2
mark_number Empty = 3

abbrev pub mark_numbers : List Mark → List ℕ
mark_numbers = map mark_number
