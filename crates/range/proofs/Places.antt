-- In a list that ascends strictly the entries below a bound stand before the others: so the range
-- has the entries between its bounds, and no other. Assumes nothing.
use mathlib.Core.Path.{◌≡◌, refl, sym, ◌∙◌, ap}
use mathlib.Core.List.Memᴰ
use mathlib.Core.List.{List, Memᴰ}
use mathlib.Core.Logic.{◌↔◌}
use Prim.Native.Nat.{ℕ, ◌+◌, ◌-◌, ◌≤◌, ◌<◌}
use native.Mathlib.Nat.{lt_of_not-le, le_of_suc-le-suc}
use native.Mathlib.Omega.{arith}
use lib.ListN.{length, get_or, drop, length-drop}
use lib.Seq.{get_or-take, get_or-drop, length-take-le}
use Rattle.numbers.proofs.Lists.{Ascending, member_at, member_place}
use Rattle.range.specs.Range.{below, start_of, count_of, range_of}
use Rattle.range.specs.Promise.{HandedBack, RangeCorrect}
use Rattle.range.proofs.Counting.{few_below, many_below}
use Rattle.range.proofs.Cases.{Between, within}

-- ---- the entries below a bound come first

module _ (b : ℕ) (xs : List ℕ) (a : Ascending xs) (i : ℕ) where
  before_count : i < below b xs → get_or xs i 0 < b
  before_count l = lt_of_not-le (λ h. omega (arith, few_below b xs a i (λ k. h)))

  from_count : below b xs ≤ i → i < length xs → b ≤ get_or xs i 0
  from_count h l = le_of_suc-le-suc (lt_of_not-le (λ k. omega (arith, many_below b xs a i l k)))

-- ---- what is handed back, place by place

pub handed_back : (lo hi : ℕ) (xs : List ℕ) → HandedBack lo hi xs
handed_back lo hi xs =
    let start = start_of lo hi xs in
    let count = count_of lo hi xs in
    let rest = drop start xs in
    record {
      placed = (refl, refl);
      many = length-take-le count rest (omega (arith, within lo hi xs, length-drop start xs));
      in_order = λ i h. get_or-take count rest i 0 h ∙ get_or-drop start xs i 0;
    }

-- ---- the range of a list that ascends strictly

module _ {lo hi : ℕ} {xs : List ℕ} (r : Between lo hi xs) (a : Ascending xs) where
  inside : (i : ℕ) → start_of lo hi xs ≤ i → i < start_of lo hi xs + count_of lo hi xs
      → (lo ≤ get_or xs i 0) × (get_or xs i 0 < hi)
  inside i h k =
      (from_count lo xs a i (omega arith) (omega arith), before_count hi xs a i (omega arith))

  exactly : (x : ℕ) → Memᴰ x (range_of lo hi xs) ↔ (Memᴰ x xs × (lo ≤ x) × (x < hi))
  exactly x = (of_range, in_range)
    where
      back : HandedBack lo hi xs
      back = handed_back lo hi xs

      of_range : Memᴰ x (range_of lo hi xs) → Memᴰ x xs × (lo ≤ x) × (x < hi)
      of_range m =
          let p = member_place 0 x (range_of lo hi xs) m in
          let l : p.0 < count_of lo hi xs = omega (arith, p.1, back.many) in
          let e = sym (back.in_order p.0 l) ∙ p.2 in
          let b = inside (start_of lo hi xs + p.0) (omega arith) (omega arith) in
          let there = member_at 0 xs (start_of lo hi xs + p.0) (omega (arith, r)) in
          (Memᴰ.cast (sym e) there, omega arith, omega arith)

      in_range : Memᴰ x xs × (lo ≤ x) × (x < hi) → Memᴰ x (range_of lo hi xs)
      in_range m =
          let p = member_place 0 x xs m.0 in
          let late = few_below lo xs a p.0 (λ l. omega (arith, m.1, p.2)) in
          let early = many_below hi xs a p.0 p.1 (omega (arith, m.2, p.2)) in
          let i = p.0 - start_of lo hi xs in
          let l : i < count_of lo hi xs = omega (arith, r) in
          let e : start_of lo hi xs + i ≡ p.0 = omega (arith, r) in
          let f = back.in_order i l ∙ ap (λ (j : ℕ). get_or xs j 0) e ∙ p.2 in
          Memᴰ.cast (sym f) (member_at 0 (range_of lo hi xs) i (omega (arith, back.many)))

  pub range_correct : RangeCorrect lo hi xs
  range_correct =
      record {
        starts = r.start;
        before = λ i h. before_count lo xs a i (omega arith);
        inside = inside;
        after = λ i h l. from_count hi xs a i (omega arith) l;
        exactly = exactly;
      }
