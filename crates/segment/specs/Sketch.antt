-- The regular search for its distance alone, as functions of numbers, for the contracts of the
-- functions that take its steps. specs/State.antt has the search itself. Assumes nothing: these are
-- definitions.
use Rattle.std.specs.Prelude.{Bool, true, not, ◌||◌, cond, ℕ, ◌+◌, ◌-◌, ◌*◌, ◌/◌, ◌%◌, ◌^◌, ◌≤◌, ◌<◌, eqb, leb, ltb}
use Rattle.segment.specs.Walk.{Walking}
use Rattle.segment.specs.State.{first_state}
use Rattle.segment.specs.declared.state.State.{State}
use Rattle.segment.specs.declared.sketch.Sketch.{Sketch}

-- a state without its argument and its part
abbrev pub sketch_of : State → (wide : Bool) → Sketch
sketch_of t l =
    record {
      long = t.long;
      short = t.short;
      longs = t.longs;
      shorts = t.shorts;
      distance = t.distance;
      wide = l;
      done = t.done;
    }

-- how many long gaps the next row has, if there is one: as many as the short ones, and one more for
-- each cut of each long one
abbrev pub next_longs : Sketch → ℕ
next_longs s = s.shorts + s.long / s.short * s.longs

-- the row can be divided, its long gaps are no more than N, and those of the next row fit a word
pub record Divisible (N : ℕ) (s : Sketch) : Type 0 where
  pub short_positive : 0 < s.short
  pub below : s.longs ≤ N
  pub fits : next_longs s ≤ 2 ^ 62

-- the next row, with this distance, and whether the start lies in a long gap. After a row that
-- leaves nothing, or reaches N, the search is done
abbrev pub next_row : (N : ℕ) → Sketch → (distance : ℕ) → (wide : Bool) → Sketch
next_row N s d l =
    record {
      long = s.short;
      short = s.long % s.short;
      longs = next_longs s;
      shorts = s.longs;
      distance = d;
      wide = l;
      done = eqb (s.long % s.short) 0 || leb (N - s.longs) (next_longs s);
    }

-- an even row, cut from the left: after as many moves as cuts the start lies in what is left of a
-- long gap
abbrev pub even_next : (N : ℕ) → Sketch → Sketch
even_next N s = next_row N s (s.distance % s.short) (not (eqb (s.distance / s.short) (s.long / s.short)))

-- the distance from the lowest cut of a gap of which the cuts leave `rest`; below that cut, the
-- distance as it is
abbrev pub from_lowest_cut : (distance rest : ℕ) → ℕ
from_lowest_cut d r = cond (ltb d r) d (d - r)

-- an odd row, cut from the right: long gaps only
abbrev pub odd_next : (N : ℕ) → Sketch → Sketch
odd_next N s = next_row N s (cond s.wide (from_lowest_cut s.distance (s.long % s.short) % s.short) s.distance) true

-- an even row, or an odd one
abbrev pub sketch_next : (odd : Bool) → (N : ℕ) → Sketch → Sketch
sketch_next odd N s = cond odd (odd_next N s) (even_next N s)

-- the search, from where it begins
abbrev pub sketch_walk : Walking Sketch
sketch_walk =
    record {
      first = λ s. sketch_of (first_state s.unit s.step s.start s.count) true;
      done = λ k. k.done;
      next = sketch_next;
    }
