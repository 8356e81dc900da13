-- What a scan goes along, and what it writes. Assumes nothing: these are definitions.
use Rattle.std.specs.Prelude.{List, ℕ}
use Rattle.parabola.specs.Parabola.{Parabola}
use Rattle.arc.specs.Arc.{parabola}
use Rattle.domain.specs.Scan.{listed_from, lowered_values}
use Rattle.domain.specs.declared.scan.Scan.{Scan}

-- the parabola of its arc
abbrev pub scanned : Scan → Parabola
scanned s = parabola s.within.arc

-- its hard arguments, as they are listed
abbrev pub arguments_of : Scan → List ℕ
arguments_of s = listed_from s.begin (scanned s)

-- and their values, as they were before the arc was raised
abbrev pub values_of : Scan → List ℕ
values_of s = lowered_values s.raise (scanned s)
