-- The steps of the searches as functions of numbers, for the contracts of the functions that take
-- them, and where a search stands after so many steps. specs/Promise.antt says what the steps are
-- for. Assumes nothing: these are definitions.
use Rattle.std.specs.Prelude.{◌≡◌, Bool, true, false, ◌||◌, cond, ℕ, suc, ◌+◌, ◌-◌, ◌*◌, ◌/◌, ◌^◌, ◌≤◌, ◌<◌, min, eqb, leb, ltb}
use Rattle.expansion.specs.Reached.{Search}
use Rattle.expansion.specs.Reached.Search.{regular, fine}
use Rattle.geometry.specs.Segment.{Segment}
use Rattle.segment.specs.Walk.{Walking, after}
use Rattle.segment.specs.declared.state.State.{State}
use Rattle.segment.specs.declared.state.Cuts.{Cuts}
use Rattle.segment.specs.declared.state.Nearest.{Nearest}

-- how many points there are
abbrev pub points : State → ℕ
points s = s.longs + s.shorts

-- one point: done where the step is 0 or the count is 1
abbrev pub first_state : (M a b N : ℕ) → State
first_state M a b N =
    record {
      long = M;
      short = a;
      longs = 1;
      shorts = 0;
      argument = 0;
      distance = b;
      part = 0;
      index = 0;
      done = eqb a 0 || leb N 1;
    }

-- ---- cuts

-- how often the short length goes into the long one
abbrev pub quotient : State → ℕ
quotient s = s.long / s.short

-- how often the long gaps can be cut with something left: as often, or once less where that would
-- leave nothing
abbrev pub all_cuts : State → ℕ
all_cuts s = (s.long - 1) / s.short

-- how often they are cut where N points are reached: a cut of all makes as many points as there are
-- long gaps
abbrev pub cuts_to : (N : ℕ) → State → ℕ
cuts_to N s = (N - s.shorts - 1) / s.longs

-- as many, but at most all
abbrev pub last_cuts : (N : ℕ) → State → ℕ
last_cuts N s = min (cuts_to N s) (all_cuts s)

-- so many cuts, and what they leave of a long gap
abbrev pub cuts_of : (number : ℕ) → State → Cuts
cuts_of j s = record { number = j; rest = s.long - j * s.short }

-- there is room for so many cuts, and they make no more points than the largest unit
pub record Cuttable (cuts : ℕ) (s : State) : Type 0 where
  pub short_positive : 0 < s.short
  pub room : cuts * s.short ≤ s.long
  pub within : s.distance < s.long
  pub below : s.argument < points s
  pub fits : points s + cuts * s.longs ≤ 2 ^ 62

-- these cuts can be made, and what is said to be left of a long gap is what they leave
pub record Cutting (c : Cuts) (s : State) : Type 0 where
  pub able : Cuttable c.number s
  pub rest_is : c.rest ≡ s.long - c.number * s.short

-- a row can be taken: all its cuts can be made, N is not reached, and another row fits the budget
pub record Steppable (N : ℕ) (s : State) : Type 0 where
  pub all : Cuttable (all_cuts s) s
  pub falls : s.short ≤ s.long
  pub longs_positive : 0 < s.longs
  pub below : points s < N
  pub row : s.index < 29

-- ---- the point below the start

abbrev pub nearest : State → Nearest
nearest s = record { argument = s.argument; distance = s.distance }

-- the one after so many cuts from the left end of the long gaps
unfoldable pub advanced_left : (cuts : ℕ) → State → Nearest
advanced_left j s =
    let i : ℕ = min j (s.distance / s.short) in
    record { argument = s.argument + i * s.longs; distance = s.distance - i * s.short }

-- of so many cuts from their right end, the highest that is not above the start
unfoldable pub highest_cut : (cuts : ℕ) → State → Nearest
highest_cut j s =
    let over : ℕ = s.distance - (s.long - j * s.short) in
    let i : ℕ = over / s.short in
    record { argument = s.argument + (s.shorts + j * s.longs - i * s.longs); distance = over - i * s.short }

-- the one after them: only within a long gap, and only at or above what is left of it
unfoldable pub advanced_right : (cuts : ℕ) → State → Nearest
advanced_right j s = cond (leb s.longs s.argument || ltb s.distance (s.long - j * s.short)) (nearest s) (highest_cut j s)

-- even rows are cut from the left, odd ones from the right
abbrev pub advanced : (odd : Bool) → (cuts : ℕ) → State → Nearest
advanced false j s = advanced_left j s
advanced true j s = advanced_right j s

-- ---- rows

-- after the cuts: as many long gaps, and as many short ones more for each cut
abbrev pub row_of : State → Cuts → Nearest → State
row_of s c m =
    record {
      long = c.rest;
      short = s.short;
      longs = s.longs;
      shorts = s.shorts + c.number * s.longs;
      argument = m.argument;
      distance = m.distance;
      part = c.number;
      index = s.index;
      done = true;
    }

-- so many cuts of a row
unfoldable pub cut_state : (odd : Bool) → (cuts : ℕ) → State → State
cut_state odd j s = row_of s (cuts_of j s) (advanced odd j s)

-- on to the next row, where what is left of the long gaps is the short length
abbrev pub in_next_row : (done : Bool) → State → State
in_next_row done s =
    record {
      long = s.short;
      short = s.long;
      longs = s.shorts;
      shorts = s.longs;
      argument = s.argument;
      distance = s.distance;
      part = 0;
      index = suc s.index;
      done = done;
    }

-- whether a search ends with all cuts of a row: they reach N points, or they leave gaps of one
-- length, as many as the period
unfoldable pub ends : (N : ℕ) → State → Bool
ends N s = leb N (s.shorts + all_cuts s * s.longs + s.longs) || eqb s.short (s.long - all_cuts s * s.short)

-- the regular step: all cuts of a row
unfoldable pub regular_next : (odd : Bool) → (N : ℕ) → State → State
regular_next odd N s = in_next_row (ends N s) (cut_state odd (all_cuts s) s)

-- the end of a fine search after cuts of a row; the whole row has the label of the next one
abbrev pub finished : (whole : Bool) → State → State
finished whole s =
    record {
      long = s.long;
      short = s.short;
      longs = s.longs;
      shorts = s.shorts;
      argument = s.argument;
      distance = s.distance;
      part = cond whole 0 s.part;
      index = s.index + cond whole 1 0;
      done = true;
    }

-- the fine step: all cuts of a row where the search goes on after it, else those that reach N, at
-- most all
unfoldable pub fine_next : (odd : Bool) → (N : ℕ) → State → State
fine_next odd N s =
    cond (ends N s) (finished (eqb (last_cuts N s) (quotient s)) (cut_state odd (last_cuts N s) s)) (regular_next odd N s)

-- ---- one step after another

-- the step of a search
abbrev pub next : Search → (odd : Bool) → (N : ℕ) → State → State
next regular odd N s = regular_next odd N s
next fine odd N s = fine_next odd N s

-- the search, from where it begins
abbrev pub walk_of : Search → Walking State
walk_of k =
    record {
      first = λ s. first_state s.unit s.step s.start s.count;
      done = λ t. t.done;
      next = next k;
    }

-- where a search stands after so many steps
abbrev pub state_after : Search → Segment → (steps : ℕ) → State
state_after k = after (walk_of k)
