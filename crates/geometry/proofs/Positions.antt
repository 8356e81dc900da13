-- Where a search stands: the point that it shows has the least residue of all, and j cuts of a row, or the way to the next one, lead to such a
-- position again. Assumes nothing.
use mathlib.Core.Path.{◌≡◌, sym}
use mathlib.Core.Bool.{Bool, true, false, not}
use mathlib.Core.Logic.{by_cases}
use Prim.Native.Nat.{ℕ, ◌+◌, ◌-◌, ◌*◌, ◌/◌, ◌≤◌, ◌<◌, min}
use native.Mathlib.Nat.{mul-le-mul_right, div-mul-le_self, div-lt_iff_lt-mul, lt-div-mul-add, min-le_left, min-le_right}
use native.Mathlib.Decide.{dec_lt}
use native.Mathlib.Omega.{arith}
use Rattle.geometry.specs.Segment.{Segment, residue}
use Rattle.geometry.specs.TwoLength.{Lengths, InGap, InGapOf, Position, Least}
use Rattle.geometry.specs.TwoLength.Lengths.{even_row, odd_row}
use Rattle.geometry.proofs.Residues.{residue_lt, residue_start}
use Rattle.geometry.proofs.Least.{unique}
use Rattle.geometry.proofs.Lengths as lengths
use Rattle.geometry.proofs.Cutting.{up, shown_up, cut_up, shown_cut_up}

-- at the first row: one gap, all of the circle
pub first_position : {s : Segment} → 0 < s.step → s.step < s.unit → s.start < s.unit → Position s false s.unit s.step 1 0 0 s.start
first_position {s} h l k =
    record {
      lengths = lengths.start h l;
      gap = omega (arith, residue_lt s 0 (omega arith));
      shows = sym (residue_start s k);
    }

module _ {s : Segment} {odd : Bool} {long short longs shorts x d : ℕ} (p : Position s odd long short longs shorts x d) where
  -- the same, seen from the next row
  pub turned : Position s (not odd) short long shorts longs x d
  turned = record { lengths = lengths.turned p.lengths; gap = by p.lengths p.gap; shows = p.shows }
    where
      by : {odd : Bool} → Lengths s.unit s.step odd long short longs shorts → InGapOf s odd long short longs shorts x
          → InGapOf s (not odd) short long shorts longs x
      by (even_row c) g = g
      by (odd_row c) g = g

  -- the distance is below the longer length
  pub distance_below : short ≤ long → d < long
  distance_below h = rw p.shows (by p.lengths p.gap)
    where
      by : {odd : Bool} → Lengths s.unit s.step odd long short longs shorts → InGapOf s odd long short longs shorts x → residue s x < long
      by (even_row c) g = by_cases (dec_lt x shorts) (λ l. omega (arith, g.left l)) (λ l. g.right (omega arith))
      by (odd_row c) g = by_cases (dec_lt x longs) g.left (λ l. omega (arith, g.right (omega arith)))

  -- the point shown has the least residue below the count
  pub least : Least s (longs + shorts) x
  least = by p.lengths p.gap
    where
      by : {odd : Bool} → Lengths s.unit s.step odd long short longs shorts → InGapOf s odd long short longs shorts x → Least s (longs + shorts) x
      by (even_row c) g = record { below = g.below; unique = unique c g }
      by (odd_row c) g = record { below = omega (arith, g.below); unique = λ y l. unique c g y (omega arith) }

-- ---- j cuts

-- j cuts of an even row: up by the short length, as often as there is room below the start
module _ {s : Segment} {long short longs shorts x d : ℕ} where
  pub cut_even : Position s false long short longs shorts x d → (j : ℕ) → j * short < long
      → Position s false (long - j * short) short longs (shorts + j * longs) (x + min j (d / short) * longs) (d - min j (d / short) * short)
  cut_even p j h = rw p.shows (by p.lengths p.gap)
    where
      steps : ℕ
      steps = min j (residue s x / short)

      fits : steps * short ≤ residue s x
      fits = omega (arith, div-mul-le_self (residue s x) short, mul-le-mul_right short (min-le_right j (residue s x / short)))

      last : 0 < short → steps < j → residue s x < steps * short + short
      last some k =
          let e : steps ≡ residue s x / short = omega arith in
          rw e (lt-div-mul-add {a = residue s x} some)

      by : Lengths s.unit s.step false long short longs shorts → InGap s longs shorts short long x
          → Position s false (long - j * short) short longs (shorts + j * longs) (x + steps * longs) (residue s x - steps * short)
      by (even_row c) g =
          record {
            lengths = lengths.cut (even_row c) j h;
            gap = shown_up c g steps j (min-le_left j (residue s x / short)) fits (last c.positive_p) h;
            shows = omega (arith, up c g steps fits);
          }

  -- j cuts of an odd row that are all above the start, or not in the gap of the point shown
  pub stay_odd : Position s true long short longs shorts x d → (j : ℕ) → j * short < long → (x < longs → d < long - j * short)
      → Position s true (long - j * short) short longs (shorts + j * longs) x d
  stay_odd p j h f =
      record {
        lengths = lengths.cut p.lengths j h;
        gap = record { below = omega (arith, p.gap.below); left = λ l. rw (← p.shows) (f l); right = p.gap.right };
        shows = p.shows;
      }

  -- j cuts of an odd row of which the lowest is not above the start: from it up by the short length, as often as there is room
  pub move_odd : Position s true long short longs shorts x d → (j : ℕ) → j * short < long → x < longs → long - j * short ≤ d
      → Position s true (long - j * short) short longs (shorts + j * longs)
      (x + (shorts + j * longs - (d - (long - j * short)) / short * longs)) (d - (long - j * short) - (d - (long - j * short)) / short * short)
  move_odd p j h k l = rw p.shows (by (rw p.shows at l) p.lengths p.gap)
    where
      over : ℕ
      over = residue s x - (long - j * short)

      steps : ℕ
      steps = over / short

      by : long - j * short ≤ residue s x → Lengths s.unit s.step true long short longs shorts → InGap s shorts longs long short x
          → Position s true (long - j * short) short longs (shorts + j * longs) (x + (shorts + j * longs - steps * longs)) (over - steps * short)
      by l (odd_row c) g =
          let few : steps < j = (div-lt_iff_lt-mul c.positive_q).1 (omega (arith, g.left k)) in
          let low = div-mul-le_self over short in
          let high = lt-div-mul-add {a = over} c.positive_q in
          record {
            lengths = lengths.cut (odd_row c) j h;
            gap = shown_cut_up c g steps j few (omega arith) h k (omega arith);
            shows = omega (arith, cut_up c g steps j few (omega arith) h);
          }
