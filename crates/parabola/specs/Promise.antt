-- What is promised of a parabola, with the letters of document 01: M the unit, c0 the value, c1 the slope, s the curve, N the count, w the window.
-- `Promised`, at the end, is all of it; proofs/Promises.antt proves it. Assumes nothing: these are statements.
use Rattle.std.specs.Prelude.{◌≡◌, [], map, ◌↔◌, ◌⊎◌, ℕ, suc, ◌+◌, ◌-◌, ◌*◌, ◌/◌, ◌%◌, ◌≤◌, ◌<◌, min, ltb, ℤ, pos, negsuc, neg_ℤ, nat_abs, ◌+ℤ◌, ◌*ℤ◌}
use Rattle.numbers.specs.Integers.{◌modulo◌}
use Rattle.numbers.specs.Lists.{count_if, joined}
use Rattle.numbers.specs.Promise.{Enumerates, Starts, PiecesCorrect}
use Rattle.geometry.specs.Segment.{Segment, residue}
use Rattle.geometry.specs.Segment as segment
use Rattle.parabola.specs.Parabola.{Parabola, triangle, value_at, slope_at, second_difference, hard_list, centred, spread, covering, continued, part_start, part_count, part, InRange, line}

-- ---- values

-- V(x) is c0 + c1·x + s·x(x-1)/2 taken modulo M, and the slope at x is c1 + s·x taken modulo M; V(x + 1) is V(x) and the slope at x, modulo M, and
-- the slope changes by s, modulo M
pub record ValuesCorrect (p : Parabola) : Type 0 where
  pub value : (x : ℕ) → value_at p x ≡ (pos p.value +ℤ pos p.slope *ℤ pos x +ℤ p.curve *ℤ pos (x * (x - 1) / 2)) modulo p.unit
  pub triangle_is : (x : ℕ) → triangle x ≡ x * (x - 1) / 2
  pub halved : (x : ℕ) → x * (x - 1) / 2 + x * (x - 1) / 2 ≡ x * (x - 1)
  pub slope : (x : ℕ) → slope_at p x ≡ (pos p.slope +ℤ p.curve *ℤ pos x) modulo p.unit
  pub second : second_difference p ≡ p.curve modulo p.unit
  pub in_range : (x : ℕ) → value_at p x < p.unit
  pub slope_in_range : (x : ℕ) → slope_at p x < p.unit
  pub second_in_range : second_difference p < p.unit
  pub first : p.value < p.unit → value_at p 0 ≡ p.value
  pub slope_first : p.slope < p.unit → slope_at p 0 ≡ p.slope
  pub differences : (x : ℕ) → value_at p (suc x) ≡ (value_at p x + slope_at p x) % p.unit
  pub slope_differences : (x : ℕ) → slope_at p (suc x) ≡ (slope_at p x + second_difference p) % p.unit
  -- from an argument h on the parabola goes on
  pub continues : (h n y : ℕ) → value_at (continued p h n) y ≡ value_at p (h + y)
  pub slope_continues : (h n y : ℕ) → slope_at (continued p h n) y ≡ slope_at p (h + y)

-- ---- the covering segment

-- a segment is the covering one by six numbers: it has the step (-c1) mod M, the start (c0 + D) mod M or, for a negative curve, c0, the same count, and
-- the smaller of M and w + D for its window, where D is |s|·N(N-1)/2; that is doubled, so that nothing is halved
pub record CoversBy (M c0 c1 : ℕ) (s : ℤ) (N w : ℕ) (segment : Segment) : Type 0 where
  pub unit : segment.unit ≡ M
  pub step : segment.step ≡ neg_ℤ (pos c1) modulo M
  pub start_rising : (n D : ℕ) → s ≡ pos n → 2 * D ≡ n * (N * (N - 1)) → segment.start ≡ (c0 + D) % M
  pub start_falling : (n : ℕ) → s ≡ negsuc n → segment.start ≡ c0
  pub count : segment.count ≡ N
  pub window : (D : ℕ) → 2 * D ≡ nat_abs s * (N * (N - 1)) → segment.window ≡ min M (w + D)

-- the covering segment of a parabola. Modulo M it lies above the values exactly by what the curve may still add to them, D at 0 and nothing at N, or by
-- what it has taken from them, nothing at 0 and D at N. Where the value at an argument below N is less than the window, the residue is less than the covering
-- window
pub record CoveringCorrect (p : Parabola) : Type 0 where
  pub numbers : CoversBy p.unit p.value p.slope p.curve p.count p.window (covering p)
  pub spread_is : 2 * spread p ≡ nat_abs p.curve * (p.count * (p.count - 1))
  pub rising : (n : ℕ) → p.curve ≡ pos n → (x : ℕ) → x ≤ p.count
      → residue (covering p) x ≡ (value_at p x + (spread p - n * triangle x)) % p.unit
  pub falling : (n : ℕ) → p.curve ≡ negsuc n → (x : ℕ) → residue (covering p) x ≡ (value_at p x + suc n * triangle x) % p.unit
  pub covers : (x : ℕ) → x < p.count → value_at p x < p.window → residue (covering p) x < (covering p).window

-- ---- both sides of a breakpoint

-- a segment is the covering one of both sides by six numbers: the start gains w - 1, modulo M, and the window is the smaller of M and 2w - 1 + D
pub record CoversBothBy (M c0 c1 : ℕ) (s : ℤ) (N w : ℕ) (segment : Segment) : Type 0 where
  pub unit : segment.unit ≡ M
  pub step : segment.step ≡ neg_ℤ (pos c1) modulo M
  pub start_rising : (n D : ℕ) → s ≡ pos n → 2 * D ≡ n * (N * (N - 1)) → segment.start ≡ (c0 + D + (w - 1)) % M
  pub start_falling : (n : ℕ) → s ≡ negsuc n → segment.start ≡ (c0 + (w - 1)) % M
  pub count : segment.count ≡ N
  pub window : (D : ℕ) → 2 * D ≡ nat_abs s * (N * (N - 1)) → segment.window ≡ min M (2 * w - 1 + D)

-- a segment covers both sides of a parabola: it has those numbers; modulo M it lies above the values, raised by w - 1, by what the curve may still add, D at 0
-- and nothing at N, or by what it has taken, nothing at 0 and D at N; and where the value at an argument below N is less than w from a multiple of M, the
-- residue is less than the segment's window
pub record CoveringBothCorrect (p : Parabola) (segment : Segment) : Type 0 where
  pub numbers : CoversBothBy p.unit p.value p.slope p.curve p.count p.window segment
  pub spread_is : 2 * spread p ≡ nat_abs p.curve * (p.count * (p.count - 1))
  pub rising : (n : ℕ) → p.curve ≡ pos n → (x : ℕ) → x ≤ p.count
      → residue segment x ≡ (value_at p x + (p.window - 1) + (spread p - n * triangle x)) % p.unit
  pub falling : (n : ℕ) → p.curve ≡ negsuc n → (x : ℕ)
      → residue segment x ≡ (value_at p x + (p.window - 1) + suc n * triangle x) % p.unit
  pub covers : (x : ℕ) → x < p.count → (value_at p x < p.window) ⊎ (p.unit - value_at p x < p.window) → residue segment x < segment.window

-- the centred parabola is the same but for the window, the smaller of M and 2w - 1, and the values, which gain w - 1, modulo M. A value is then less than
-- the window exactly where V(x) < w or M - V(x) < w. Its covering segment covers both sides, and its parts are those of the parabola, each centred
pub record CentredCorrect (p : Parabola) : Type 0 where
  pub start : (centred p).value ≡ (p.value + (p.window - 1)) % p.unit
  pub window : (centred p).window ≡ min p.unit (2 * p.window - 1)
  pub same : ((centred p).unit ≡ p.unit) × ((centred p).slope ≡ p.slope) × ((centred p).curve ≡ p.curve) × ((centred p).count ≡ p.count)
  pub in_range : InRange (centred p)
  pub value : (x : ℕ) → value_at (centred p) x ≡ (value_at p x + (p.window - 1)) % p.unit
  pub slope : (x : ℕ) → slope_at (centred p) x ≡ slope_at p x
  pub hard : (x : ℕ) → (value_at (centred p) x < (centred p).window) ↔ ((value_at p x < p.window) ⊎ (p.unit - value_at p x < p.window))
  pub covering_both : CoveringBothCorrect p (covering (centred p))
  pub parts : (i : ℕ) → part (centred p) i ≡ centred (part p i)

-- ---- the parts

-- N arguments in eight parts, 0 to 7: each has N/8 of them, rounded down, and the first ones one more until the rest is used up. Each begins where the one before
-- ends, the first at 0, and the last ends at N, so that they have every argument below N once and in order. Lengths differ by at most one, the longer ones come
-- first, and their sum is N. The part i has no argument exactly where N is at most i. For a multiple of 8 all have N/8, as before document 02's 2.2
pub record EightPartsCorrect (N : ℕ) : Type 0 where
  pub begins : (i : ℕ) → part_start N i ≡ i * (N / 8) + min i (N % 8)
  pub longer : (i : ℕ) → i < N % 8 → part_count N i ≡ N / 8 + 1
  pub shorter : (i : ℕ) → N % 8 ≤ i → part_count N i ≡ N / 8
  pub next : (i : ℕ) → part_start N (suc i) ≡ part_start N i + part_count N i
  pub starts : Starts (part_start N) 8 N
  pub pieces : PiecesCorrect (part_start N) 8 N
  pub longer_first : (i j : ℕ) → i ≤ j → part_count N j ≤ part_count N i
  pub nearly_equal : (i j : ℕ) → part_count N i ≤ part_count N j + 1
  pub together : part_count N 0 + part_count N 1 + part_count N 2 + part_count N 3 + part_count N 4 + part_count N 5 + part_count N 6 + part_count N 7 ≡ N
  pub empty : (i : ℕ) → i < 8 → (part_count N i ≡ 0) ↔ (N ≤ i)
  pub of_a_multiple : N % 8 ≡ 0 → (i : ℕ) → (part_start N i ≡ i * (N / 8)) × (part_count N i ≡ N / 8)

-- a part has the value and the slope at its beginning, and goes on as the parabola does: its value at y is the parabola's at the part's beginning and y more
pub record PartsCorrect (p : Parabola) : Type 0 where
  pub length_of : (i : ℕ) → (part p i).count ≡ part_count p.count i
  pub begins : (i : ℕ)
      → ((part p i).value ≡ value_at p (part_start p.count i)) × ((part p i).slope ≡ slope_at p (part_start p.count i))
  pub same : (i : ℕ) → ((part p i).unit ≡ p.unit) × ((part p i).curve ≡ p.curve) × ((part p i).window ≡ p.window)
  pub in_range_of : (i : ℕ) → 1 ≤ part_count p.count i → InRange (part p i)
  pub continues : (i y : ℕ) → value_at (part p i) y ≡ value_at p (part_start p.count i + y)
  pub slope : (i y : ℕ) → slope_at (part p i) y ≡ slope_at p (part_start p.count i + y)
  -- what the parts list, as arguments of the parabola, one part after another, is what the parabola lists; a part without arguments lists nothing
  pub lists : joined (λ i. map (λ (y : ℕ). part_start p.count i + y) (hard_list (part p i))) 8 0 ≡ hard_list p
  pub nothing_listed : (i : ℕ) → part_count p.count i ≡ 0 → hard_list (part p i) ≡ []

-- ---- lines

-- the line of a segment has its residues for values, and so its hard arguments
pub record LineCorrect (s : Segment) : Type 0 where
  pub value : (x : ℕ) → value_at (line s) x ≡ residue s x
  pub lists : hard_list (line s) ≡ segment.hard_list s

-- ---- all of it

pub record Promised : Type 0 where
  pub values : (p : Parabola) → 0 < p.unit → ValuesCorrect p
  pub hard_lists : (p : Parabola) → p.count ≤ 1048576
      → Enumerates (λ x. (x < p.count) × (value_at p x < p.window)) (count_if (λ x. ltb (value_at p x) p.window) p.count 0) (hard_list p)
  pub coverings : (p : Parabola) → 0 < p.unit → p.slope < p.unit → CoveringCorrect p
  pub centred_correct : (p : Parabola) → InRange p → CentredCorrect p
  pub eight_parts : (N : ℕ) → EightPartsCorrect N
  pub parts : (p : Parabola) → InRange p → PartsCorrect p
  pub lines : (s : Segment) → s.step < s.unit → LineCorrect s
