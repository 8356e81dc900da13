-- The eight parts, one after another: what has been found or listed of those before a part, and what is still to come, make up the whole.
-- Assumes nothing.
use mathlib.Core.Path.{◌≡◌, refl, sym, ◌∙◌, ap}
use mathlib.Core.List.{List, [], ◌++◌, map, map-map, append-nil}
use borrow.Rule.Slice.PartMut.{put_mid}
use Rattle.std.proofs.lemmas.List.{take_all}
use Rattle.std.proofs.Common.{append_assoc}
use mathlib.Core.Logic.{by_cases}
use Prim.Native.Nat.{ℕ, zero, suc, ◌+◌, ◌-◌, ◌≤◌, ◌<◌, min}
use native.Mathlib.Nat.{add_assoc, zero-add}
use native.Mathlib.Decide.{dec_le, dec_lt, ℕ_discrete}
use native.Mathlib.Omega.{arith}
use native.Mathlib.Numerals.{add-one}
use lib.Dec.{ltb}
use lib.ListN.{take, drop, length-drop, length, get_or, set, replicate, length-map, length-append, length-set}
use lib.Seq.{sets, sets-eq, drop-drop, get_or-set_same, get_or-set_other, ext_get_or}
use mir.Val.{bool_byte}
use borrow.Author.Tests.{lt-ltb, le-ltb}
use Rattle.numbers.specs.Lists.{tabulate, joined, overwrite_front}
use Rattle.numbers.proofs.Lists.{no_entries}
use Rattle.numbers.proofs.Signed.{read, curve_read}
use Rattle.numbers.proofs.Selections.{filter_empty, tabulate_next}
use Rattle.numbers.proofs.Pieces.{joined_none, joined_next, map_joined}
use Rattle.numbers.proofs.Buffers.{Writing, begin, restate, write_one, write_list, done, written_front}
use Rattle.expansion.specs.Reached.{Search}
use Rattle.expansion.specs.Reached.Search.{fine}
use Rattle.segment.specs.Search.{verdict}
use Rattle.segment.specs.declared.Verdict.{Verdict}
use Rattle.segment.specs.declared.Verdict.TheVariants.{Clear, Possible}
use Rattle.parabola.specs.Parabola.{Parabola, InRange, value_at, is_hard, hard_list, covering, continued, part, part_start, part_count}
use Rattle.parabola.proofs.Promises.{promised}
use Rattle.domain.specs.Scan.{listed_from, lowered, lowered_at, lowered_values}
use Rattle.domain.specs.Phases.{mark_of, mark_with, part_mark, part_marks, hard_count, hard_counts, part_report, report}
use Rattle.arc.specs.Arc.{parabola, point}
use Rattle.arc.specs.declared.Arc.{Arc}
use Rattle.arc.specs.declared.Point.{Point}
use Rattle.arc.proofs.Promises as arc
use Rattle.domain.specs.declared.marks.Mark.{Mark}
use Rattle.domain.specs.declared.marks.Mark.TheVariants as mark
use Rattle.domain.specs.declared.phases.PartReport.{PartReport}

-- ---- where a part begins, and how long it is

-- a test as a number: one argument more for a part before the rest is used up
pub one_more : (i rest : ℕ) → bool_byte (ltb i rest) ≡ min 1 (rest - i)
one_more i rest =
    by_cases (dec_lt i rest) (λ l. rw (lt-ltb i rest l) (omega arith)) (λ l. rw (le-ltb i rest (omega arith)) (omega arith))

module _ (a : Arc) {i : ℕ} (h : i < 8) (some : 1 ≤ part_count a.count i) where
  -- a part with arguments begins at one of the whole
  pub begins_below : part_start a.count i < a.count
  begins_below =
      let parts = promised.eight_parts a.count in
      omega (arith, parts.next i, parts.pieces.within (suc i) h, some)

  -- and ends no later than that
  pub ends_within : part_start a.count i + part_count a.count i ≤ a.count
  ends_within =
      let parts = promised.eight_parts a.count in
      omega (arith, parts.next i, parts.pieces.within (suc i) h)

  -- and is made of the value and the slope there
  pub part_made : InRange (parabola a) → {start n : ℕ} {t : Point} → start ≡ part_start a.count i → t ≡ point (parabola a) start → n ≡ part_count a.count i
      → record { unit = a.modulus; value = t.value; slope = t.slope; curve = read a.curve; count = n; window = suc a.highest } ≡ part (parabola a) i
  unfolding continued
  part_made range e f l = rw (f, e, l, curve_read a.curve range.size_small)

-- ---- one part

-- a parabola whose covering segment a search clears has no hard argument
pub none_listed : (k : Search) {p : Parabola} → InRange p → verdict k (covering p) ≡ Clear → hard_list p ≡ []
unfolding hard_list is_hard
none_listed k {p} range e =
    filter_empty (is_hard p) p.count 0
    (λ y l h. by_cases (dec_le p.window (value_at p y)) (le-ltb (value_at p y) p.window) (λ m. absurd (((arc.promised).searched p range).cleared k e y (omega arith, omega arith))))

-- a verdict that is not clear is possible
pub otherwise : (v : Verdict) → (v ≡ Clear → ⊥) → v ≡ Possible
otherwise Clear h = absurd (h refl)
otherwise Possible h = refl

-- it is marked as empty where it has no argument, and else by its verdict
pub mark_empty : {n : ℕ} (v : Verdict) → n ≡ 0 → mark_with n v ≡ mark.Empty
unfolding mark_with
mark_empty v e = rw e refl

pub mark_some : (n : ℕ) (v : Verdict) → 1 ≤ n → mark_with n v ≡ mark_of v
unfolding mark_with
mark_some zero v h = absurd (omega arith)
mark_some (suc n) v h = refl

-- what is found in a part without arguments
pub empty_part : (p : Parabola) → InRange p → (i : ℕ) → part_count p.count i ≡ 0 → record { mark = mark.Empty; hard = 0 } ≡ part_report (part p i)
unfolding part_report continued
empty_part p range i e = rw (mark_empty (verdict fine (covering (part p i))) e, (promised.parts p range).nothing_listed i e)

module _ {p : Parabola} (range : InRange p) where
  mark_is : {v : Verdict} → verdict fine (covering p) ≡ v → mark_with p.count (verdict fine (covering p)) ≡ mark_of v
  mark_is e = mark_some _ _ range.count_low ∙ ap mark_of e

  pub clear_part : verdict fine (covering p) ≡ Clear → record { mark = mark.Clear; hard = 0 } ≡ part_report p
  unfolding part_report mark_of
  clear_part e = rw (mark_is e, none_listed fine range e)

  pub possible_part : {n : ℕ} → verdict fine (covering p) ≡ Possible → n ≡ length (hard_list p) → record { mark = mark.Possible; hard = n } ≡ part_report p
  unfolding part_report mark_of
  possible_part e h = rw (mark_is e, h)

-- what the part i lists, as arguments of the whole
abbrev pub piece : Parabola → (i : ℕ) → List ℕ
piece p i = map (λ (y : ℕ). part_start p.count i + y) (hard_list (part p i))

-- the part i and those after it
abbrev pieces_from : Parabola → (i : ℕ) → List ℕ
pieces_from p i = joined (piece p) (8 - i) i

module _ (p : Parabola) (i : ℕ) where
  pub piece_length : length (piece p i) ≡ length (hard_list (part p i))
  piece_length = length-map (hard_list (part p i)) (λ (y : ℕ). part_start p.count i + y)

  -- a part with a hard argument has an argument
  pub some_argument : InRange p → {n : ℕ} → n ≡ length (hard_list (part p i)) → (n ≡ 0 → ⊥) → 1 ≤ part_count p.count i
  some_argument range e some =
      by_cases (dec_le 1 (part_count p.count i)) (λ h. h)
      (λ h. absurd (some (e ∙ ap length ((promised.parts p range).nothing_listed i (omega arith)))))

  -- a part without hard arguments writes nothing
  pub nothing_written : (f : ℕ → ℕ) (place : ℕ) (old : List ℕ) {n : ℕ} → n ≡ length (hard_list (part p i)) → n ≡ 0
      → old ≡ sets old place (map f (hard_list (part p i)))
  nothing_written f place old e z = sym (ap (λ (xs : List ℕ). sets old place (map f xs)) (no_entries (hard_list (part p i)) (omega arith)))

  pieces_length : i < 8 → length (pieces_from p i) ≡ length (hard_list (part p i)) + length (pieces_from p (suc i))
  pieces_length h = ap length (joined_next (piece p) 8 i h) ∙ length-append (piece p i) (pieces_from p (suc i)) ∙ omega (arith, piece_length)

-- ---- examining

-- before the part i: the marks of those before it and how many hard arguments each has are written, and how many they have together is known
pub record Examining (p : Parabola) (marks : List Mark) (counts : List ℕ) (total i : ℕ) : Type 0 where
  pub within : i ≤ 8
  pub eight : length marks ≡ 8
  pub marking : (k : ℕ) → k < i → get_or marks k mark.Unseen ≡ part_mark p k
  pub counting : Writing (hard_counts p) (replicate 8 0) 0 (tabulate (hard_count p) (8 - i) i) counts i
  pub to_come : total + length (pieces_from p i) ≡ length (hard_list p)

pub examine_first : {p : Parabola} → InRange p → Examining p (replicate 8 mark.Unseen) (replicate 8 0) 0 0
examine_first {p} d =
    record {
      within = omega arith;
      eight = refl;
      marking = λ k h. absurd (omega arith);
      counting = begin _ _ 0;
      to_come = omega (arith, ap length (promised.parts p d).lists);
    }

-- eight marks that are those of the parts
all_marks : (p : Parabola) {marks : List Mark} → length marks ≡ 8 → ((k : ℕ) → k < 8 → get_or marks k mark.Unseen ≡ part_mark p k) → marks ≡ part_marks p
unfolding tabulate
all_marks p {marks} long each = ext_get_or mark.Unseen marks (part_marks p) long (λ k h. each k (omega arith) ∙ by k (omega arith))
  where
    by : (k : ℕ) → k < 8 → part_mark p k ≡ get_or (part_marks p) k mark.Unseen
    by zero h = refl
    by (suc zero) h = refl
    by (suc (suc zero)) h = refl
    by (suc (suc (suc zero))) h = refl
    by (suc (suc (suc (suc zero)))) h = refl
    by (suc (suc (suc (suc (suc zero))))) h = refl
    by (suc (suc (suc (suc (suc (suc zero)))))) h = refl
    by (suc (suc (suc (suc (suc (suc (suc zero))))))) h = refl
    by (suc (suc (suc (suc (suc (suc (suc (suc k)))))))) h = absurd (omega arith)

module _ {p : Parabola} {marks : List Mark} {counts : List ℕ} {total i : ℕ} (e : Examining p marks counts total i) where
  pub examine_next : i < 8 → {r : PartReport} → r ≡ part_report (part p i)
      → Examining p (set marks i r.mark) (set counts i r.hard) (total + r.hard) (i + 1)
  unfolding part_report
  examine_next h {r} f =
      rw (f, add-one i)
      (record {
        within = h;
        eight = length-set marks i (part_mark p i) ∙ e.eight;
        marking = λ k l. by_cases (ℕ_discrete k i)
            (λ s. rw s (get_or-set_same marks i (part_mark p i) mark.Unseen (omega (arith, h, e.eight))))
            (λ n. get_or-set_other marks i k (part_mark p i) mark.Unseen n ∙ e.marking k (omega arith));
        counting = rw (add-one i) at (write_one (restate (tabulate_next (hard_count p) 8 i h) e.counting));
        to_come = omega (arith, e.to_come, pieces_length p i h);
      })

  pub examine_done : 8 ≤ i → record { marks = marks; hard = counts; total = total } ≡ report p
  unfolding report tabulate
  examine_done h =
      let f : i ≡ 8 = omega (arith, e.within) in
      let m : marks ≡ part_marks p = all_marks p e.eight (λ k l. e.marking k (omega arith)) in
      let c : counts ≡ hard_counts p = (done (rw f at e.counting)).1 in
      let t : total ≡ length (hard_list p) = omega (arith, rw (f, joined_none (piece p) 8) at e.to_come) in
      rw (m, c, t)

-- ---- listing

-- what is written over the front of what stands from a place on, is written from that place on
pub rest_written : (f : ℕ → ℕ) (xs l : List ℕ) (at : ℕ) {rest : List ℕ} → at + length xs ≤ length l
    → rest ≡ sets (take (length l - at) (drop at l)) 0 (map f xs) → put_mid at (length l - at) l rest ≡ sets l at (map f xs)
rest_written f xs l at h e =
    let whole : take (length l - at) (drop at l) ≡ drop at l = take_all (length l - at) (drop at l) (omega (arith, length-drop at l)) in
    let none : drop (length l - at) (drop at l) ≡ [] = no_entries _ (omega (arith, length-drop (length l - at) (drop at l), length-drop at l)) in
    let front : sets (drop at l) 0 (map f xs) ≡ map f xs ++ drop (0 + length (map f xs)) (drop at l)
    = sets-eq (map f xs) (drop at l) 0 (omega (arith, length-drop at l, length-map xs f)) in
    rw (e, whole, front, none, append-nil, zero-add, drop-drop, sets-eq (map f xs) l at (omega (arith, h, length-map xs f)), append_assoc)

-- f of each argument that the part i lists
abbrev column_piece : (f : ℕ → ℕ) → Parabola → (i : ℕ) → List ℕ
column_piece f p i = map f (piece p i)

-- what a part lists by itself, from the origin and its beginning on, is what it lists as arguments of the whole, from the origin on
arguments_of_part : (origin : ℕ) (p : Parabola) (i : ℕ)
    → listed_from (origin + part_start p.count i) (part p i) ≡ column_piece (λ (y : ℕ). origin + y) p i
arguments_of_part origin p i =
    ap (λ (f : ℕ → ℕ). map f (hard_list (part p i))) (λ j y. add_assoc origin (part_start p.count i) y j)
    ∙ sym (map-map (λ (y : ℕ). origin + y) (λ (y : ℕ). part_start p.count i + y) (hard_list (part p i)))

-- its values, lowered, are those of the whole at what it lists
values_of_part : (raise : ℕ) {p : Parabola} → InRange p → (i : ℕ) → lowered_values raise (part p i) ≡ column_piece (lowered_at raise p) p i
unfolding continued
values_of_part raise {p} range i =
    ap (λ (f : ℕ → ℕ). map f (hard_list (part p i))) (λ j y. lowered raise p.unit ((promised.parts p range).continues i y j))
    ∙ sym (map-map (lowered_at raise p) (λ (y : ℕ). part_start p.count i + y) (hard_list (part p i)))

-- a column is written, f of each argument that the parts list; that of the part i and of those after it is still to be written, from the place on
pub record PartsColumn (f : ℕ → ℕ) (p : Parabola) (old now : List ℕ) (place i : ℕ) : Type 0 where
  pub writing : Writing (map f (hard_list p)) old 0 (joined (column_piece f p) (8 - i) i) now place

module _ {f : ℕ → ℕ} {p : Parabola} {old : List ℕ} where
  column_first : InRange p → PartsColumn f p old old 0 0
  column_first range =
      record { writing = restate (ap (map f) (sym (promised.parts p range).lists) ∙ map_joined f (piece p) 8 0) (begin (map f (hard_list p)) old 0) }

  module _ {now : List ℕ} {place i : ℕ} (c : PartsColumn f p old now place i) where
    column_length : length (column_piece f p i) ≡ length (hard_list (part p i))
    column_length = length-map (piece p i) f ∙ piece_length p i

    -- the part ends no later than the whole
    pub column_end : i < 8 → place + length (hard_list (part p i)) ≤ length (hard_list p)
    column_end h =
        let left = joined (column_piece f p) (8 - suc i) (suc i) in
        omega (
          arith,
          c.writing.place,
          length-map (hard_list p) f,
          ap length (joined_next (column_piece f p) 8 i h) ∙ length-append (column_piece f p i) left,
          column_length,
        )

    column_next : i < 8 → {n : ℕ} {new : List ℕ} → n ≡ length (hard_list (part p i)) → new ≡ sets now place (column_piece f p i)
        → PartsColumn f p old new (place + n) (i + 1)
    column_next h e g =
        record {
          writing = rw (add-one i)
              (write_list (column_piece f p i) _ (restate (joined_next (column_piece f p) 8 i h) c.writing) (omega (arith, e, column_length), g));
        }

    column_done : i ≡ 8 → length (hard_list p) ≤ length old → now ≡ overwrite_front (map f (hard_list p)) old
    column_done e room =
        (done (restate (joined_none (column_piece f p) 8) (rw e at c.writing))).1
        ∙ written_front (map f (hard_list p)) old (omega (arith, length-map (hard_list p) f))

-- before the part i, with what those before it list and the values beside it written, and the next ones to be written at the place
pub record ListingParts (p : Parabola) (origin raise : ℕ) (old old_values list values : List ℕ) (place i : ℕ) : Type 0 where
  pub within : i ≤ 8
  pub arguments_column : PartsColumn (λ (y : ℕ). origin + y) p old list place i
  pub values_column : PartsColumn (lowered_at raise p) p old_values values place i

pub list_first : {p : Parabola} (origin raise : ℕ) (old old_values : List ℕ) → InRange p
    → ListingParts p origin raise old old_values old old_values 0 0
list_first origin raise old old_values range =
    record { within = omega arith; arguments_column = column_first range; values_column = column_first range }

module _ {p : Parabola} {origin raise : ℕ} {old old_values list values : List ℕ} {place i : ℕ} (l : ListingParts p origin raise old old_values list values place i) where
  -- there is room for the part
  pub list_room : i < 8 → length (hard_list p) ≤ length old → length (hard_list p) ≤ length old_values
      → (place + length (hard_list (part p i)) ≤ length list) × (place + length (hard_list (part p i)) ≤ length values)
  list_room h k m =
      let end = column_end l.arguments_column h in
      (omega (arith, end, l.arguments_column.writing.length_kept), omega (arith, end, l.values_column.writing.length_kept))

  pub list_next : InRange p → i < 8 → {n : ℕ} {new new_values : List ℕ} → n ≡ length (hard_list (part p i))
      → (new ≡ sets list place (listed_from (origin + part_start p.count i) (part p i)))
      × (new_values ≡ sets values place (lowered_values raise (part p i)))
      → ListingParts p origin raise old old_values new new_values (place + n) (i + 1)
  list_next range h e f =
      record {
        within = omega arith;
        arguments_column = column_next l.arguments_column h e (f.0 ∙ ap (sets list place) (arguments_of_part origin p i));
        values_column = column_next l.values_column h e (f.1 ∙ ap (sets values place) (values_of_part raise range i));
      }

  pub list_done : 8 ≤ i → length (hard_list p) ≤ length old → length (hard_list p) ≤ length old_values
      → (list ≡ overwrite_front (listed_from origin p) old) × (values ≡ overwrite_front (lowered_values raise p) old_values)
  list_done h k m =
      let last : i ≡ 8 = omega (arith, l.within) in (column_done l.arguments_column last k, column_done l.values_column last m)
