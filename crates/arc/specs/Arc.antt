-- An arc: which parabola it is, which parabolas are within the bounds, and what the calls answer. Assumes nothing: these are definitions.
use Rattle.std.specs.Prelude.{List, [], ◌∷◌, ◌++◌, ℕ, zero, suc, ℤ, nat_abs, Option, Some, None}
use Rattle.std.proofs.Math.Decide.{dec_le, dec_lt}
use Rattle.numbers.specs.Checklist.{Check, check, first_failing}
use Rattle.expansion.specs.Reached.{Search}
use Rattle.geometry.specs.Segment as geometry
use Rattle.segment.specs.Accepted as accepted
use Rattle.segment.specs.Search.{verdict}
use Rattle.segment.specs.declared.Segment.{Segment}
use Rattle.segment.specs.declared.Verdict.{Verdict}
use Rattle.segment.specs.declared.Verdict.TheVariants.{Possible}
use Rattle.parabola.specs.Parabola.{Parabola, value_at, slope_at, covering_step, covering_start, covering_window, covering}
use Rattle.arc.specs.declared.Arc.{Arc}
use Rattle.arc.specs.declared.Point.{Point}

-- the parabola of a call, from its modulus, value, slope, curve, count and window
abbrev pub asked : (M c0 c1 : ℕ) (s : ℤ) (N w : ℕ) → Parabola
asked M c0 c1 s N w = record { unit = M; value = c0; slope = c1; curve = s; count = N; window = w }

-- the parabola of an arc: its window is one more than the highest hard value
abbrev pub parabola : Arc → Parabola
parabola a = asked a.modulus a.value a.slope a.curve a.count (suc a.highest)

-- ---- bounds

-- the segment with a parabola's slope and value for step and start
abbrev pub line_of : Parabola → geometry.Segment
line_of p = geometry.segment p.unit p.slope p.value p.count p.window

abbrev pub curve_checks : Parabola → List Check
curve_checks p = check 6 (dec_le (nat_abs p.curve) 1048576) ∷ []

-- what is asked of a parabola, with the number of each refusal: as of that segment, and then its curve
abbrev pub checks : Parabola → List Check
checks p = accepted.checks (line_of p) ++ curve_checks p

-- the number of the first condition that does not hold, or 0
unfoldable pub refusal : Parabola → ℕ
refusal p = first_failing (checks p)

-- ---- points

-- V(x) and the slope there
abbrev pub point : Parabola → (x : ℕ) → Point
point p x = record { value = value_at p x; slope = slope_at p x }

-- where nothing refuses
unfoldable pub point_with : (number : ℕ) → Parabola → (x : ℕ) → Option Point
point_with zero p x = Some (point p x)
point_with (suc n) p x = None

-- x must be one of the arguments
abbrev pub argument_checks : Parabola → (x : ℕ) → List Check
argument_checks p x = checks p ++ check 7 (dec_lt x p.count) ∷ []

unfoldable pub point_answer : Arc → (x : ℕ) → Option Point
point_answer a x = point_with (first_failing (argument_checks (parabola a) x)) (parabola a) x

-- ---- verdicts

-- the verdict of a search of the covering segment, where nothing refuses
unfoldable pub verdict_with : (number : ℕ) → Search → Parabola → Verdict
verdict_with zero k p = verdict k (covering p)
verdict_with (suc n) k p = Possible

unfoldable pub arc_verdict : Search → Arc → Verdict
arc_verdict k a = verdict_with (refusal (parabola a)) k (parabola a)

-- the covering segment, as a search takes it
unfoldable pub covering_segment : Parabola → Segment
covering_segment p =
    record { modulus = p.unit; step = covering_step p; start = covering_start p; count = p.count; window = covering_window p }
