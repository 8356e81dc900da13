-- The test of each entry against the next one: it holds exactly of the lists that ascend strictly;
-- and windows of two tell it in turn. Assumes nothing.
use mathlib.Core.Path.{◌≡◌, refl, sym, ◌∙◌}
use mathlib.Core.Bool.{Bool, true, false, ◌&&◌, and-true, false≢true}
use mathlib.Core.List.{List, [], ◌∷◌}
use mathlib.Core.Logic.{◌↔◌, by_cases}
use Prim.Native.Nat.{ℕ, suc, ◌+◌, ◌-◌, ◌≤◌, ◌<◌}
use native.Mathlib.Decide.{dec_lt}
use native.Mathlib.Nat.{le_refl}
use native.Mathlib.Omega.{arith}
use lib.ListN.{length, get_or}
use lib.Dec.{ltb}
use Rattle.std.proofs.Math.Bool.{and_assoc}
use Rattle.std.specs.Borrow.{Bor}
use Rattle.std.specs.Iterator.Runs.{Run, YieldsRun, IsWindowsRun}
use Rattle.std.specs.List.{fold, slice_get, IsSubsliceAt}
use Rattle.std.specs.Slice.Iter.{windows_rest, windows_size, windows_steps}
use Rattle.std.specs.Option.{IfSome}
use Rattle.std.proofs.Common.{Option, Some, None, add-one, add-zero}
use borrow.Author.Tests.{lt-ltb, le-ltb}
use Rattle.numbers.proofs.Lists.{Ascending, AscendingFrom, ascending as ascends}
use Rattle.numbers.proofs.Lists.AscendingFrom.{ascending_nil, ascending_cons}
use Rattle.range.specs.Range.{ascending}

module _ (x y : ℕ) (xs : List ℕ) where
  up : x < y → ascending (x ∷ y ∷ xs) ≡ ascending (y ∷ xs)
  unfolding ascending
  up h = rw (lt-ltb x y h)

  not_up : y ≤ x → ascending (x ∷ y ∷ xs) ≡ false
  unfolding ascending
  not_up h = rw (le-ltb x y h)

single : (xs : List ℕ) → length xs ≤ 1 → ascending xs ≡ true
unfolding ascending
single [] l = refl
single (x ∷ []) l = refl
single (x ∷ y ∷ xs) l = absurd (omega (arith, l))

-- ---- it holds exactly of the lists that ascend strictly

climbs : (n x : ℕ) (xs : List ℕ) → n ≤ x → ascending (x ∷ xs) ≡ true → AscendingFrom n (x ∷ xs)
climbs n x [] l e = ascending_cons l ascending_nil
climbs n x (y ∷ xs) l e =
    by_cases (dec_lt x y) (λ h. ascending_cons l (climbs (suc x) y xs h (sym (up x y xs h) ∙ e)))
    (λ h. absurd (false≢true (sym (not_up x y xs (omega arith)) ∙ e)))

passes : (xs : List ℕ) → Ascending xs → ascending xs ≡ true
passes [] a = single [] (omega arith)
passes (x ∷ []) a = single (x ∷ []) (omega arith)
passes (x ∷ y ∷ xs) a =
    up x y xs (a 0 1 (omega arith) (omega arith))
    ∙ passes (y ∷ xs) (λ i j h l. a (suc i) (suc j) (omega arith) (omega arith))

pub ascending_correct : (xs : List ℕ) → (ascending xs ≡ true) ↔ Ascending xs
ascending_correct [] = (λ e. ascends {n = 0} ascending_nil, passes [])
ascending_correct (x ∷ xs) = (λ e. ascends (climbs x x xs (le_refl x) e), passes (x ∷ xs))

-- ---- window by window

-- a window holds an entry and the next one
abbrev pub IsPair : (xs : List ℕ) (k : ℕ) (w : Bor (List ℕ)) → Type 0
IsPair xs k w = (get_or w.now 0 0 ≡ get_or xs k 0) × (get_or w.now 1 0 ≡ get_or xs (suc k) 0)

-- what the windows before have told, and this one
abbrev pub and_pair : Bool → Bor (List ℕ) → Bool
and_pair so_far w = so_far && ltb (get_or w.now 0 0) (get_or w.now 1 0)

pairs_tell : (ws : List (Bor (List ℕ))) (xs : List ℕ) (so_far : Bool) → length ws ≡ length xs - 1
    → ((k : ℕ) → k < length ws → IfSome (slice_get ws k) (IsPair xs k))
    → fold and_pair so_far ws ≡ (so_far && ascending xs)
unfolding ascending
pairs_tell [] [] so_far e pair = sym (and-true so_far)
pairs_tell [] (x ∷ []) so_far e pair = sym (and-true so_far)
pairs_tell [] (x ∷ y ∷ xs) so_far e pair = absurd (omega (arith, e))
pairs_tell (w ∷ ws) [] so_far e pair = absurd (omega (arith, e))
pairs_tell (w ∷ ws) (x ∷ []) so_far e pair = absurd (omega (arith, e))
pairs_tell (w ∷ ws) (x ∷ y ∷ xs) so_far e pair =
    let p = pair 0 (omega arith) in
    rw (p.0, p.1)
    (pairs_tell ws (y ∷ xs) (so_far && ltb x y) (omega (arith, e))
    (λ k h. pair (suc k) (omega arith))
    ∙ and_assoc so_far (ltb x y) (ascending (y ∷ xs)))

-- all windows of two in turn tell whether the list ascends strictly
pub windows_tell : {xs : List ℕ} (p : Run (windows_steps {A = ℕ})) → windows_size p.from ≡ 2
    → windows_rest p.from ≡ xs → p.whole ≡ true
    → IsWindowsRun p (windows_size p.from) (windows_rest p.from)
    → fold and_pair true p.items ≡ ascending xs
unfolding YieldsRun
windows_tell {xs} p two rest whole run =
    let w : IsWindowsRun p 2 xs = rw (two, rest) at run in
    pairs_tell p.items xs true (omega (arith, p.long, w.1 whole))
    (λ k h. is_pair k (slice_get p.items k) (rw (p.gave.1 k) at (w.2 k)))
  where
    is_pair : (k : ℕ) (o : Option (Bor (List ℕ)))
        → IfSome o (λ x. (length x.now ≡ 2) × (k + 2 ≤ length xs) × IsSubsliceAt 2 xs k x.now)
        → IfSome o (IsPair xs k)
    is_pair k None f = tt
    is_pair k (Some x) f =
        let reads = f.2.2 in
        (rw add-zero at (reads 0 0 (omega arith)), rw (← add-one k) (reads 1 0 (omega arith)))
