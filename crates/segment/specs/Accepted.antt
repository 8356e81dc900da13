-- Which segments the searches accept, and by which number the others are refused. Assumes nothing: these are definitions.
use Rattle.std.specs.Prelude.{List, [], ◌∷◌, ◌++◌, ℕ, ◌≤◌, ◌<◌}
use Rattle.std.proofs.Math.Logic.Dec
use Rattle.std.proofs.Math.Decide.{dec_le, dec_lt}
use Rattle.numbers.specs.Checklist.{Check, check, first_failing}
use Rattle.numbers.specs.Unit.{Ranged}
use Rattle.expansion.specs.Answer as expansion
use Rattle.geometry.specs.Segment.{Segment, segment}

-- the segment of a call, from its modulus, step, start, count and window
abbrev pub asked : (M a b N w : ℕ) → Segment
asked M a b N w = segment M a b N w

-- what is asked of a segment, with the number of each refusal
abbrev pub checks : Segment → List Check
checks s =
    expansion.checks s.unit s.step
    ++ check 3 (dec_lt s.start s.unit)
    ∷ check 4 (Dec.and (dec_le 1 s.count) (dec_le s.count 1048576))
    ∷ check 5 (Dec.and (dec_le 1 s.window) (dec_le s.window s.unit))
    ∷ []

-- the number of the first condition that does not hold, or 0
unfoldable pub refusal : Segment → ℕ
refusal s = first_failing (checks s)

-- what is asked of a segment
pub record Accepted (s : Segment) : Type 0 where
  pub unit_within : Ranged s.unit
  pub step_below : s.step < s.unit
  pub start_below : s.start < s.unit
  pub count_low : 1 ≤ s.count
  pub count_high : s.count ≤ 1048576
  pub window_low : 1 ≤ s.window
  pub window_high : s.window ≤ s.unit
