-- The eight parts: where they begin and how long they are, so that they cover the arguments of a parabola once each; and that they go on as it does, so that
-- what they list is what it lists. Assumes nothing.
use mathlib.Core.Path.{◌≡◌, refl, ◌∙◌, ap, ap₂}
use mathlib.Core.List.{List, [], map}
use Prim.Native.Nat.{ℕ, suc, ◌+◌, ◌-◌, ◌≤◌}
use native.Mathlib.Nat.{add-zero}
use native.Mathlib.Omega.{arith}
use Rattle.numbers.specs.Lists.{filter_range, joined}
use Rattle.numbers.specs.Promise.{Starts}
use Rattle.numbers.proofs.Promises as numbers
use Rattle.numbers.proofs.Selections.{filter_none, filter_shifted}
use Rattle.parabola.specs.Parabola.{Parabola, is_hard, hard_list, continued, part_start, part_count, part, InRange}
use Rattle.parabola.specs.Promise.{EightPartsCorrect, PartsCorrect}
use Rattle.parabola.proofs.Bounds.{positive}
use Rattle.parabola.proofs.Values.{value_below, slope_below, value_continues, slope_continues}

-- ---- where parts begin and how long they are

module _ (N : ℕ) where
  next : (i : ℕ) → part_start N (suc i) ≡ part_start N i + part_count N i
  unfolding part_start part_count
  next i = omega arith

  first : part_start N 0 ≡ 0
  unfolding part_start
  first = omega arith

  last : part_start N 8 ≡ N
  unfolding part_start
  last = omega arith

  starts : Starts (part_start N) 8 N
  starts = record { first = first; not_after_next = λ i h. omega (arith, next i); last = last }

  pub eight_parts_correct : EightPartsCorrect N
  eight_parts_correct =
      record {
        begins = λ i. unfold part_start in refl;
        longer = λ i h. unfold part_count in omega arith;
        shorter = λ i h. unfold part_count in omega arith;
        next = next;
        starts = starts;
        pieces = (numbers.promised).pieces (part_start N) 8 N starts;
        longer_first = λ i j h. unfold part_count in omega arith;
        nearly_equal = λ i j. unfold part_count in omega arith;
        together = omega (arith, first, next 0, next 1, next 2, next 3, next 4, next 5, next 6, next 7, last);
        empty = λ i h. unfold part_count in (λ e. omega arith, λ l. omega arith);
        of_a_multiple = λ e i. unfold part_start part_count in (omega arith, omega arith);
      }

-- ---- parts of a parabola

module _ (p : Parabola) (range : InRange p) where
  abbrev start : (i : ℕ) → ℕ
  start i = part_start p.count i

  in_range_of : (i : ℕ) → 1 ≤ part_count p.count i → InRange (part p i)
  unfolding continued part_count
  in_range_of i some = omega (arith, slope_below p (positive range) (start i), value_below p (positive range) (start i), range)

  -- ---- what the parts list

  part_lists : (i : ℕ) → map (λ (y : ℕ). start i + y) (hard_list (part p i)) ≡ filter_range (is_hard p) (start (suc i) - start i) (start i)
  unfolding hard_list continued
  part_lists i =
      filter_shifted (is_hard (part p i)) (is_hard p) (start i) (part_count p.count i) 0 (λ y l. same_test y)
      ∙ ap₂ (filter_range (is_hard p)) (omega (arith, next p.count i)) (add-zero (start i))
    where
      same_test : (y : ℕ) → is_hard (part p i) y ≡ is_hard p (start i + y)
      same_test y = unfold is_hard continued in rw (value_continues p (positive range) (start i) (part_count p.count i) y)

  lists : joined (λ i. map (λ (y : ℕ). start i + y) (hard_list (part p i))) 8 0 ≡ hard_list p
  unfolding hard_list
  lists =
      ap (λ (piece : ℕ → List ℕ). joined piece 8 0) (λ j i. part_lists i j)
      ∙ (eight_parts_correct p.count).pieces.lists (is_hard p)

  nothing_listed : (i : ℕ) → part_count p.count i ≡ 0 → hard_list (part p i) ≡ []
  unfolding hard_list continued
  nothing_listed i e = ap (λ (n : ℕ). filter_range (is_hard (part p i)) n 0) e ∙ filter_none (is_hard (part p i)) 0

  pub parts_correct : PartsCorrect p
  parts_correct =
      record {
        length_of = λ i. unfold continued in refl;
        begins = λ i. unfold continued in (refl, refl);
        same = λ i. unfold continued in (refl, refl, refl);
        in_range_of = in_range_of;
        continues = λ i. value_continues p (positive range) (start i) (part_count p.count i);
        slope = λ i. slope_continues p (positive range) (start i) (part_count p.count i);
        lists = lists;
        nothing_listed = nothing_listed;
      }
