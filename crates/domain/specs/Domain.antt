-- A domain (document 01): which parabola it is, which of its arguments are hard (document 02, 2.1), how they are listed (2.7), which segments cover it and its parts,
-- and which domains are accepted. Assumes nothing: these are definitions.
use Rattle.std.specs.Prelude.{List, map, ℕ, ◌^◌, ◌≤◌}
use Rattle.geometry.specs.Segment.{Segment}
use Rattle.parabola.specs.Parabola.{Parabola, value_at, centred, hard_list, covering, part, InRange}
use Rattle.arc.specs.Arc.{asked}
use Rattle.domain.specs.Scan.{listed_from}
use Rattle.domain.specs.declared.Domain.{Domain}

-- the parabola of a domain
abbrev pub parabola_of : Domain → Parabola
parabola_of d = asked d.modulus d.value d.slope d.curve d.count d.window

-- the parabola that the phases search: its hard arguments are those of the domain, whose values lie less than the window from a multiple of the modulus
abbrev pub centred_of : Domain → Parabola
centred_of d = centred (parabola_of d)

-- all hard arguments of a domain, ascending
abbrev pub hard_arguments : Domain → List ℕ
hard_arguments d = hard_list (centred_of d)

-- and as they are listed: origin + x for each x
abbrev pub listed_arguments : Domain → List ℕ
listed_arguments d = listed_from d.origin (centred_of d)

-- V(x) of each hard argument x, in their order: the value itself, which no window has raised and no origin moves
abbrev pub hard_values : Domain → List ℕ
hard_values d = map (value_at (parabola_of d)) (hard_arguments d)

-- the covering segment of a domain, and that of its part i
abbrev pub covering_of : Domain → Segment
covering_of d = covering (centred_of d)

abbrev pub part_covering : Domain → (i : ℕ) → Segment
part_covering d i = covering (part (centred_of d) i)

-- the phases can search a domain whose parabola is within the bounds, whatever its origin
abbrev pub Searchable : Domain → Type 0
Searchable d = InRange (parabola_of d)

-- what is asked of a domain, but for places
pub record Accepted (d : Domain) : Type 0 where
  pub searchable : Searchable d
  pub origin_within : d.origin ≤ 2 ^ 52

-- the same domain with another origin
abbrev pub with_origin : (origin : ℕ) → Domain → Domain
with_origin origin d =
    record { origin = origin; modulus = d.modulus; value = d.value; slope = d.slope; curve = d.curve; count = d.count; window = d.window }
