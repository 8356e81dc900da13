-- A parabola V(x) = (c0 + c1·x + s·x(x-1)/2) mod M over the arguments x below N, with a window w, in plain numbers (document 01: a domain's
-- values): which of its arguments are hard, on one side; the parabola whose hard arguments are those near a multiple of M on either side (document 02,
-- 2.1); the segment that covers it; and its parts. Assumes nothing: these are definitions.
use Rattle.std.specs.Prelude.{Bool, List, ℕ, ◌+◌, ◌-◌, ◌*◌, ◌/◌, ◌%◌, ◌≤◌, ◌<◌, min, ltb, ℤ, pos, negsuc, nat_abs, ◌+ℤ◌, ◌*ℤ◌}
use Rattle.numbers.specs.Integers.{◌modulo◌}
use Rattle.numbers.specs.Lists.{filter_range}
use Rattle.numbers.specs.Unit.{Ranged}
use Rattle.geometry.specs.Segment.{Segment, segment}

-- unit M, value c0, slope c1, curve s, count N, window w
pub record Parabola : Type 0 where
  pub unit : ℕ
  pub value : ℕ
  pub slope : ℕ
  pub curve : ℤ
  pub count : ℕ
  pub window : ℕ

-- ---- values

-- x(x-1)/2
unfoldable pub triangle : (x : ℕ) → ℕ
triangle x = x * (x - 1) / 2

-- V(x)
unfoldable pub value_at : Parabola → (x : ℕ) → ℕ
value_at p x = (pos p.value +ℤ pos p.slope *ℤ pos x +ℤ p.curve *ℤ pos (triangle x)) modulo p.unit

-- (c1 + s·x) mod M, by which V(x + 1) differs from V(x)
unfoldable pub slope_at : Parabola → (x : ℕ) → ℕ
slope_at p x = (pos p.slope +ℤ p.curve *ℤ pos x) modulo p.unit

-- s mod M, by which a slope differs from the one before
unfoldable pub second_difference : Parabola → ℕ
second_difference p = p.curve modulo p.unit

-- ---- hard arguments

-- whether an argument below the count is hard: its value is less than the window
unfoldable pub is_hard : Parabola → (x : ℕ) → Bool
is_hard p x = ltb (value_at p x) p.window

-- all hard arguments below the count, ascending
unfoldable pub hard_list : Parabola → List ℕ
hard_list p = filter_range (is_hard p) p.count 0

-- an argument is hard that is below the count and whose value is less than the window
abbrev pub Hard : Parabola → (x : ℕ) → Type 0
Hard p x = (x < p.count) × (value_at p x < p.window)

-- ---- both sides of a breakpoint

-- the parabola raised by w - 1, modulo M, with the window 2w - 1, or M where M is less: its hard arguments are those with V(x) < w or M - V(x) < w
unfoldable pub centred : Parabola → Parabola
centred p =
    record {
      unit = p.unit;
      value = (p.value + (p.window - 1)) % p.unit;
      slope = p.slope;
      curve = p.curve;
      count = p.count;
      window = min p.unit (2 * p.window - 1);
    }

-- ---- the covering segment

-- D = |s|·N(N-1)/2, which bounds how far the curve takes a value
unfoldable pub spread : Parabola → ℕ
spread p = nat_abs p.curve * triangle p.count

-- (-c1) mod M
unfoldable pub covering_step : Parabola → ℕ
covering_step p = (p.unit - p.slope) % p.unit

-- (c0 + D) mod M, or c0 where the curve is negative
unfoldable pub start_over : (curve : ℤ) → (M c0 D : ℕ) → ℕ
start_over (pos n) M c0 D = (c0 + D) % M
start_over (negsuc n) M c0 D = c0

unfoldable pub covering_start : Parabola → ℕ
covering_start p = start_over p.curve p.unit p.value (spread p)

-- the smaller of M and w + D
unfoldable pub covering_window : Parabola → ℕ
covering_window p = min p.unit (p.window + spread p)

-- the segment whose residue is less than its window wherever the value at an argument below N is less than w
abbrev pub covering : Parabola → Segment
covering p = segment p.unit (covering_step p) (covering_start p) p.count (covering_window p)

-- ---- parts

-- the parabola from the argument h on, with so many arguments: its own value and slope there, and the same curve
unfoldable pub continued : Parabola → (h count : ℕ) → Parabola
continued p h n =
    record { unit = p.unit; value = value_at p h; slope = slope_at p h; curve = p.curve; count = n; window = p.window }

-- of the eight parts 0 to 7 of N arguments, where the part i begins. Each has N/8 of them, rounded down, and the first ones take one more until the rest is used up
unfoldable pub part_start : (N i : ℕ) → ℕ
part_start N i = i * (N / 8) + min i (N % 8)

-- how many arguments it has: N/8, and one more where i is below the rest
unfoldable pub part_count : (N i : ℕ) → ℕ
part_count N i = N / 8 + min 1 (N % 8 - i)

-- the part i
abbrev pub part : Parabola → (i : ℕ) → Parabola
part p i = continued p (part_start p.count i) (part_count p.count i)

-- ---- bounds

-- within which the code can compute; they hold of every accepted domain and of each part that has an argument
pub record InRange (p : Parabola) : Type 0 where
  pub unit_within : Ranged p.unit
  pub slope_below : p.slope < p.unit
  pub value_below : p.value < p.unit
  pub count_low : 1 ≤ p.count
  pub count_high : p.count ≤ 1048576
  pub window_low : 1 ≤ p.window
  pub window_high : p.window ≤ p.unit
  pub size_small : nat_abs p.curve ≤ 1048576

-- ---- lines

-- a segment is a parabola without a curve, whose slope is the step's opposite
abbrev pub line : Segment → Parabola
line s =
    record {
      unit = s.unit;
      value = s.start;
      slope = (s.unit - s.step) % s.unit;
      curve = pos 0;
      count = s.count;
      window = s.window;
    }
