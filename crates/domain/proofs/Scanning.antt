-- Scans go from a value of a parabola to the next: what they have counted or listed, and what is still to come, make up all hard arguments and the values beside
-- them.
-- Assumes nothing.
use mathlib.Core.Path.{◌≡◌, sym, ◌∙◌, ap, ap₂}
use mathlib.Core.Bool.{true, false}
use mathlib.Core.List.{List, map}
use Prim.Native.Nat.{ℕ, suc, ◌+◌, ◌-◌, ◌%◌, ◌≤◌, ◌<◌}
use native.Mathlib.Nat.{sub-zero, add-zero, mod-eq_of_lt, lt_of_not-le}
use native.Mathlib.Omega.{arith}
use native.Mathlib.Numerals.{add-one}
use lib.Dec.{leb, ltb, leb-suc-suc}
use lib.ListN.{length, set, length-map}
use lib.Seq.{sets}
use mir.Val.{bool_byte}
use borrow.Author.Tests.{le-leb, lt-leb}
use Rattle.numbers.specs.Integers.{◌modulo◌}
use Rattle.numbers.proofs.Lists.{no_entries}
use Rattle.numbers.proofs.Remainders.{difference_within}
use Rattle.numbers.proofs.Signed.{read, curve_read}
use Rattle.numbers.proofs.Selections.{filter_full, less, test_number, one_at_most, filter_from, from_none, from_hit, from_miss, from_length, from_full}
use Rattle.numbers.proofs.Buffers.{Writing, begin as begin_writing, restate, write_one, done}
use Rattle.parabola.specs.Parabola.{Parabola, InRange, value_at, slope_at, second_difference, is_hard, hard_list}
use Rattle.parabola.specs.Promise.{ValuesCorrect}
use Rattle.parabola.proofs.Laws.{positive}
use Rattle.parabola.proofs.Promises.{promised}
use Rattle.domain.specs.Scan.{PointBelow, next_point, lowered, lowered_at, lowered_values}
use Rattle.arc.specs.declared.Point.{Point}

-- ---- from a value to the next

-- the point of a parabola at x, and the highest value that is hard
pub record At (p : Parabola) (second highest x : ℕ) (t : Point) : Type 0 where
  pub in_range : InRange p
  pub second_is : second ≡ second_difference p
  pub highest_is : suc highest ≡ p.window
  pub value_is : t.value ≡ value_at p x
  pub slope_is : t.slope ≡ slope_at p x

values : {p : Parabola} → InRange p → ValuesCorrect p
values {p} range = promised.values p (positive range)

-- the curve is read as it is
pub at_first : {p : Parabola} {second highest : ℕ} → InRange p → second ≡ read p.curve modulo p.unit → suc highest ≡ p.window
    → At p second highest 0 (record { value = p.value; slope = p.slope })
unfolding second_difference
at_first {p} range e h =
    let v = values range in
    record {
      in_range = range;
      second_is = rw (curve_read p.curve range.size_small) at e;
      highest_is = h;
      value_is = sym (v.first range.value_below);
      slope_is = sym (v.slope_first range.slope_below);
    }

module _ {p : Parabola} {second highest x : ℕ} {t : Point} (a : At p second highest x t) where
  pub at_below : PointBelow second p.unit t
  at_below =
      let v = values a.in_range in
      record {
        value_below = rw a.value_is (v.in_range x);
        slope_below = rw a.slope_is (v.slope_in_range x);
        second_below = rw a.second_is v.second_in_range;
        modulus_high = a.in_range.unit_within.1;
      }

  pub at_next : At p second highest (suc x) (next_point second p.unit t)
  unfolding next_point
  at_next =
      let v = values a.in_range in
      record {
        in_range = a.in_range;
        second_is = a.second_is;
        highest_is = a.highest_is;
        value_is = rw (a.value_is, a.slope_is) (sym (v.differences x));
        slope_is = rw (a.slope_is, a.second_is) (sym (v.slope_differences x));
      }

  -- whether it is hard
  at_test : leb t.value highest ≡ is_hard p x
  unfolding is_hard
  at_test = sym (leb-suc-suc t.value highest) ∙ ap₂ ltb a.value_is a.highest_is

-- a line keeps its slope
pub line_next : {second modulus : ℕ} {t : Point} {v : ℕ} → PointBelow second modulus t → second ≡ 0 → v ≡ (t.value + t.slope) % modulus
    → record { value = v; slope = t.slope } ≡ next_point second modulus t
unfolding next_point
line_next {second} {modulus} {t} b z e =
    let s : t.slope ≡ (t.slope + second) % modulus
    = sym (ap (λ (n : ℕ). (t.slope + n) % modulus) z ∙ ap (λ (n : ℕ). n % modulus) (add-zero t.slope) ∙ mod-eq_of_lt b.slope_below) in
    λ i. record { value = e i; slope = s i }

-- the hard arguments from x on
abbrev pub rest : Parabola → (x : ℕ) → List ℕ
rest p x = filter_from (is_hard p) p.count x

rest_all : (p : Parabola) → rest p 0 ≡ hard_list p
unfolding hard_list
rest_all p = rw sub-zero

-- ---- counting

-- every argument is hard where no value is too high
pub count_all : {p : Parabola} {highest : ℕ} → InRange p → suc highest ≡ p.window → highest ≡ p.unit - 1 → p.count ≡ length (hard_list p)
unfolding hard_list is_hard
count_all {p} range w h =
    sym (filter_full (is_hard p) p.count 0 (λ x. (less (value_at p x) p.window).1 (omega (arith, (values range).in_range x, w, h))))

-- at x, with so many counted
pub record Counting (p : Parabola) (second highest : ℕ) (t : Point) (x number : ℕ) : Type 0 where
  pub at : At p second highest x t
  pub within : x ≤ p.count
  pub few : number ≤ x
  pub counted : number + length (rest p x) ≡ length (hard_list p)

pub count_first : {p : Parabola} {second highest : ℕ} {t : Point} → At p second highest 0 t → Counting p second highest t 0 0
count_first {p} a = record { at = a; within = omega arith; few = omega arith; counted = omega (arith, ap length (rest_all p)) }

module _ {p : Parabola} {second highest x number : ℕ} {t : Point} (c : Counting p second highest t x number) where
  pub count_next : x < p.count → Counting p second highest (next_point second p.unit t) (x + 1) (number + bool_byte (leb t.value highest))
  count_next more =
      rw (test_number, add-one x, at_test c.at)
      (record {
        at = at_next c.at;
        within = more;
        few = omega (arith, c.few, one_at_most (is_hard p x));
        counted = omega (arith, c.counted, from_length (is_hard p) p.count x more);
      })

  pub count_done : p.count ≤ x → number ≡ length (hard_list p)
  count_done h = omega (arith, c.counted, ap length (from_none (is_hard p) p.count x h))

-- ---- listing

-- a column is written into a buffer, f of each hard argument: of those from x on it is still to be written, from the place `at` on
pub record Column (f : ℕ → ℕ) (p : Parabola) (old : List ℕ) (x : ℕ) (now : List ℕ) (at : ℕ) : Type 0 where
  pub writing : Writing (map f (hard_list p)) old 0 (map f (rest p x)) now at

module _ {f : ℕ → ℕ} {p : Parabola} {old : List ℕ} where
  column_first : Column f p old 0 old 0
  column_first = record { writing = restate (ap (map f) (sym (rest_all p))) (begin_writing _ old 0) }

  module _ {x : ℕ} {now : List ℕ} {at : ℕ} (c : Column f p old x now at) where
    -- what is still to be written ends where all of it does
    column_end : at + length (rest p x) ≡ length (hard_list p)
    column_end = omega (arith, c.writing.place, length-map (rest p x) f, length-map (hard_list p) f)

    column_hit : x < p.count → is_hard p x ≡ true → Column f p old (suc x) (set now at (f x)) (at + 1)
    column_hit h e = record { writing = write_one (restate (ap (map f) (from_hit (is_hard p) p.count x h e)) c.writing) }

    column_miss : x < p.count → is_hard p x ≡ false → Column f p old (suc x) now at
    column_miss h e = record { writing = restate (ap (map f) (from_miss (is_hard p) p.count x h e)) c.writing }

    column_done : length (rest p x) ≤ 0 → now ≡ sets old 0 (map f (hard_list p))
    column_done h = (done (restate (ap (map f) (no_entries (rest p x) h)) c.writing)).1

-- at the argument of x, with all hard arguments before it and their values written, and the next ones to be written at the place `at`
pub record Listing (p : Parabola) (second highest raise begin : ℕ) (old old_values list values : List ℕ) (t : Point) (at x : ℕ) : Type 0 where
  pub argument : ℕ
  pub begun : x ≡ begin + argument
  pub point : At p second highest argument t
  pub within : argument ≤ p.count
  pub arguments_column : Column (λ (y : ℕ). begin + y) p old argument list at
  pub values_column : Column (lowered_at raise p) p old_values argument values at

module _ {p : Parabola} {second highest raise begin : ℕ} {old old_values : List ℕ} where
  pub list_first : {t : Point} → At p second highest 0 t → Listing p second highest raise begin old old_values old old_values t 0 begin
  list_first a =
      record { argument = 0; begun = omega arith; point = a; within = omega arith; arguments_column = column_first; values_column = column_first }

  module _ {list values : List ℕ} {t : Point} {at x : ℕ} (l : Listing p second highest raise begin old old_values list values t at x) where
    module _ (end : ℕ) (ends : end ≡ length (hard_list p)) (h : at < end) where
      -- as long as something is to be written, there are arguments left
      pub list_more : l.argument < p.count
      list_more =
          lt_of_not-le (λ k. omega (arith, column_end l.arguments_column, ap length (from_none (is_hard p) p.count l.argument k)))

      pub list_hit : t.value ≤ highest → {v : ℕ} → v ≡ (t.value + (p.unit - raise)) % p.unit
          → Listing p second highest raise begin old old_values (set list at x) (set values at v) (next_point second p.unit t) (at + 1) (x + 1)
      unfolding lowered
      list_hit k e =
          let hard = sym (at_test l.point) ∙ le-leb t.value highest k in
          record {
            argument = suc l.argument;
            begun = omega (arith, l.begun);
            point = at_next l.point;
            within = list_more;
            arguments_column = rw l.begun (column_hit l.arguments_column list_more hard);
            values_column = rw (e, l.point.value_is) (column_hit l.values_column list_more hard);
          }

      pub list_miss : highest < t.value
          → Listing p second highest raise begin old old_values list values (next_point second p.unit t) at (x + 1)
      list_miss k =
          let not_hard = sym (at_test l.point) ∙ lt-leb t.value highest k in
          record {
            argument = suc l.argument;
            begun = omega (arith, l.begun);
            point = at_next l.point;
            within = list_more;
            arguments_column = column_miss l.arguments_column list_more not_hard;
            values_column = column_miss l.values_column list_more not_hard;
          }

    pub list_done : (end : ℕ) → end ≡ length (hard_list p) → end ≤ at
        → (list ≡ sets old 0 (map (λ (y : ℕ). begin + y) (hard_list p))) × (values ≡ sets old_values 0 (lowered_values raise p))
    list_done end ends h =
        let none : length (rest p l.argument) ≤ 0 = omega (arith, column_end l.arguments_column) in
        (column_done l.arguments_column none, column_done l.values_column none)

-- ---- listing all

-- a column of f of every argument, each at its own place, where those from x on are all hard and still to be written
pub record FullColumn (f : ℕ → ℕ) (p : Parabola) (old : List ℕ) (now : List ℕ) (x : ℕ) : Type 0 where
  pub column : Column f p old x now x
  pub all_left : length (rest p x) ≡ p.count - x

module _ {f : ℕ → ℕ} {p : Parabola} {old : List ℕ} where
  pub full_first : length (hard_list p) ≡ p.count → FullColumn f p old old 0
  full_first e = record { column = column_first; all_left = ap length (rest_all p) ∙ e ∙ sym (sub-zero p.count) }

  module _ {now : List ℕ} {x : ℕ} (c : FullColumn f p old now x) where
    pub full_next : x < p.count → {v : ℕ} → v ≡ f x → FullColumn f p old (set now x v) (x + 1)
    full_next h e =
        let full = from_full (is_hard p) p.count x h c.all_left in
        rw (e, add-one x) (record { column = rw (add-one x) at (column_hit c.column h full.0); all_left = full.1 })

    pub full_done : p.count ≤ x → now ≡ sets old 0 (map f (hard_list p))
    full_done h = column_done c.column (omega (arith, c.all_left))

-- of the values, with the point at x
pub record FullValues (p : Parabola) (second highest : ℕ) (old now : List ℕ) (t : Point) (x : ℕ) : Type 0 where
  pub values_column : FullColumn (lowered_at 0 p) p old now x
  pub point : At p second highest x t

pub full_values_next : {p : Parabola} {second highest : ℕ} {old now : List ℕ} {t : Point} {x : ℕ} → FullValues p second highest old now t x → x < p.count
    → FullValues p second highest old (set now x t.value) (next_point second p.unit t) (x + 1)
unfolding lowered
full_values_next {p} {t = t} {x = x} l h =
    let below = (at_below l.point).value_below in
    let not_raised = sym (sub-zero t.value) ∙ difference_within p.unit t.value 0 below (omega arith) in
    record {
      values_column = full_next l.values_column h (not_raised ∙ ap (λ (v : ℕ). (v + (p.unit - 0)) % p.unit) l.point.value_is);
      point = rw (add-one x) (at_next l.point);
    }
