-- Where the range lies, case by case: between two counts in a list that ascends strictly, and else
-- at the list's start. Assumes nothing.
use mathlib.Core.Path.{◌≡◌}
use mathlib.Core.Bool.{true, false, ◌&&◌, cond, and-false}
use mathlib.Core.List.{List}
use Prim.Native.Nat.{ℕ, ◌+◌, ◌-◌, ◌≤◌, ◌<◌}
use native.Mathlib.Omega.{arith}
use lib.Dec.{leb}
use lib.ListN.{length}
use borrow.Author.Tests.{le-leb, lt-leb}
use Rattle.range.specs.Range.{ascending, below, start_of, count_of, place_of}
use Rattle.range.specs.Promise.{EmptyAtStart}
use Rattle.range.proofs.Counting.{below_at_most_all, below_monotone}

-- the range lies between the entries below lo and those from hi on
pub record Between (lo hi : ℕ) (xs : List ℕ) : Type 0 where
  pub start : start_of lo hi xs ≡ below lo xs
  pub count : count_of lo hi xs ≡ below hi xs - below lo xs
  pub forward : below lo xs ≤ below hi xs
  pub enough : below hi xs ≤ length xs

pub at_start : {lo hi : ℕ} {xs : List ℕ} → EmptyAtStart lo hi xs
    → record { start = 0; end = 0 } ≡ place_of lo hi xs
at_start e = rw (e.start, e.count)

-- however a call writes the two places
pub between : {lo hi : ℕ} {xs : List ℕ} {start end : ℕ} → Between lo hi xs → start ≡ below lo xs
    → end ≡ below hi xs
    → record { start = start; end = end } ≡ place_of lo hi xs
between {lo} {hi} {xs} b s e =
    let joined : below lo xs + (below hi xs - below lo xs) ≡ below hi xs =
    omega (arith, b.forward) in
    rw (b.start, b.count, joined, s, e)

module _ (lo hi : ℕ) (xs : List ℕ) where
  pub ordered : ascending xs ≡ true → lo ≤ hi → Between lo hi xs
  unfolding start_of count_of
  ordered a l =
      let t = le-leb lo hi l in
      record {
        start = rw (a, t);
        count = rw (a, t);
        forward = below_monotone lo hi xs l;
        enough = below_at_most_all hi xs;
      }

  pub unordered : ascending xs ≡ false → EmptyAtStart lo hi xs
  unfolding start_of count_of
  unordered a = record { start = rw a; count = rw a }

  pub crossed : hi < lo → EmptyAtStart lo hi xs
  unfolding start_of count_of
  crossed h =
      let t = lt-leb lo hi h in record { start = rw (t, and-false); count = rw (t, and-false) }

  pub within : start_of lo hi xs + count_of lo hi xs ≤ length xs
  unfolding start_of count_of
  within =
      elim (ascending xs && leb lo hi)
      as (λ t. cond t (below lo xs) 0 + cond t (below hi xs - below lo xs) 0 ≤ length xs) [
        | true ↦ omega (arith, below_at_most_all lo xs, below_at_most_all hi xs)
        | false ↦ omega arith
      ]
