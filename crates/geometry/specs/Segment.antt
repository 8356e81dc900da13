-- A segment (document 01): the line (b - a·x) mod M over the arguments x below N, with a window w. Assumes nothing: these are definitions.
use Rattle.std.specs.Prelude.{Bool, List, ℕ, ◌+◌, ◌-◌, ◌*◌, ◌%◌, ◌<◌, ltb}
use Rattle.numbers.specs.Lists.{filter_range}

-- unit M, step a, start b, count N, window w
pub record Segment : Type 0 where
  pub unit : ℕ
  pub step : ℕ
  pub start : ℕ
  pub count : ℕ
  pub window : ℕ

abbrev pub segment : (unit step start count window : ℕ) → Segment
segment M a b N w = record { unit = M; step = a; start = b; count = N; window = w }

-- the residue at x: (b - a·x) mod M
unfoldable pub residue : Segment → (x : ℕ) → ℕ
residue s x = (s.start + (s.unit - s.step * x % s.unit)) % s.unit

-- an argument is hard that is below the count and whose residue is less than the window
abbrev pub Hard : Segment → (x : ℕ) → Type 0
Hard s x = (x < s.count) × (residue s x < s.window)

-- whether an argument below the count is hard
unfoldable pub is_hard : Segment → (x : ℕ) → Bool
is_hard s x = ltb (residue s x) s.window

-- all hard arguments, ascending
unfoldable pub hard_list : Segment → List ℕ
hard_list s = filter_range (is_hard s) s.count 0
