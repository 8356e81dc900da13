-- The rows of the expansion of every step below a modulus, by index: the records `RowsCorrect`, `RowsBounded` and `RowsFew` of
-- specs/Promise.antt.
-- Assumes nothing.
use mathlib.Core.Path.{◌≡◌, refl, sym}
use Prim.Native.Nat.{ℕ, suc, ◌-◌, ◌≤◌, ◌<◌}
use native.Mathlib.Nat.{lt_of_not-le}
use native.Mathlib.Omega.{arith}
use lib.ListN.{length}
use Rattle.numbers.proofs.Remainders.{quotient_positive}
use Rattle.expansion.specs.Rows.{expansion, last, remainder_at, denominator_at, quotient_at, remainder_before, denominator_before}
use Rattle.expansion.specs.Promise.{RowsCorrect, RowsBounded, RowsFew}
use Rattle.expansion.proofs.Unrolling.{expansion_unrolled, at_each, some_row, first_row}
use Rattle.expansion.proofs.Recurrences.{Kept, kept_first, kept_next, within, below, Neighbours, neighbours, rejoined, single_row, last_row, last_drawn}
use Rattle.expansion.proofs.Length.{few_rows}

-- there is one row more than the last index
pub last_index : (M a : ℕ) → suc (last M a) ≡ length (expansion M a)
unfolding last
last_index M a = omega (arith, some_row (expansion_unrolled M a))

module _ (M a : ℕ) (small : a < M) where
  pub kept : (i : ℕ) → i ≤ last M a → Kept M (remainder_before M a i) (remainder_at M a i) (denominator_before M a i) (denominator_at M a i)
  unfolding remainder_before remainder_at denominator_before denominator_at
  kept i l = at_each (Kept M) (λ t u p q h k. kept_next k h) (expansion_unrolled M a) (kept_first small) i (omega (arith, last_index M a))

  pub beside : (i : ℕ) → i < last M a
      → Neighbours (remainder_before M a i) (remainder_at M a i) (denominator_before M a i) (denominator_at M a i) (quotient_at M a i)
      (remainder_at M a (suc i)) (denominator_at M a (suc i))
  unfolding remainder_before remainder_at denominator_before denominator_at quotient_at
  beside i l = neighbours (expansion_unrolled M a) i (omega (arith, last_index M a))

  -- a step that is not 0 has a second row
  pub second_row : 0 < a → 0 < last M a
  second_row h = lt_of_not-le (λ l. omega (arith, h, single_row (expansion_unrolled M a) (omega (arith, last_index M a))))

  pub rows_correct : RowsCorrect M a
  unfolding remainder_at denominator_at quotient_at remainder_before denominator_before
  rows_correct =
      record {
        first_remainder_before = refl;
        first_denominator_before = refl;
        next_remainder_before = λ i. refl;
        next_denominator_before = λ i. refl;
        first_remainder = (first_row (expansion_unrolled M a)).0;
        first_denominator = (first_row (expansion_unrolled M a)).1;
        quotient = λ i l. (beside i l).drawn;
        remainder = λ i l. rejoined (beside i l);
        denominator = λ i l. (beside i l).joined;
        falls = λ i l. (kept i l).falls;
        not_zero = λ i l. (beside i l).not_zero;
        last_remainder = (last_row (expansion_unrolled M a) (last M a) (last_index M a)).0;
        last_quotient = (last_row (expansion_unrolled M a) (last M a) (last_index M a)).1;
        modulus_of_row = λ i l. (kept i l).whole;
        last_drawn = λ h. (second_row h, last_drawn (expansion_unrolled M a) small (last M a - 1) (omega (arith, last_index M a, second_row h)));
      }

  pub rows_bounded : RowsBounded M a
  rows_bounded =
      record {
        quotient_positive = λ i l.
            let n = beside i l in
            rw n.drawn (quotient_positive (remainder_before M a i) (remainder_at M a i) n.not_zero (omega (arith, (kept i (omega arith)).falls)));
        denominator_positive = λ i l. (kept i l).some;
        denominators_not_falling = λ i l. (kept i l).not_falling;
        denominator_within = λ i l. within (kept i l);
        remainder_below = λ i l. below (kept i l);
      }

  pub rows_few : RowsFew M a
  rows_few =
      record {
        rows_to_last = sym (last_index M a);
        at_most_89 = few_rows M a small;
        last_at_most_88 = λ l. omega (arith, few_rows M a small l, last_index M a);
      }
