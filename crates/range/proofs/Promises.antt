-- All that is promised of the range. Assumes nothing.
use mathlib.Core.List.{List}
use mathlib.Core.Logic.{⊎_elim}
use mathlib.Mathlib.Data.Bool.Basic.{dichotomy}
use Prim.Native.Nat.{ℕ, ◌≤◌, ◌<◌}
use native.Mathlib.Omega.{arith}
use lib.ListN.{length, get_or}
use Rattle.range.specs.Range.{ascending}
use Rattle.range.specs.Promise.{Promised, EmptyAtStart}
use Rattle.range.proofs.Comparing.{ascending_correct}
use Rattle.range.proofs.Cases as cases
use Rattle.range.proofs.Places.{handed_back, range_correct}

unordered : (lo hi : ℕ) (xs : List ℕ) (i j : ℕ) → i < j → j < length xs
    → get_or xs j 0 ≤ get_or xs i 0 → EmptyAtStart lo hi xs
unordered lo hi xs i j h l d =
    ⊎_elim (cases.unordered lo hi xs)
    (λ e. absurd (omega (arith, d, (ascending_correct xs).0 e i j h l))) (dichotomy (ascending xs))

pub promised : Promised
promised =
    record {
      ascending_correct = ascending_correct;
      within = cases.within;
      handed_back = handed_back;
      stretches = λ lo hi whole part.
          (λ s. (s.holds, s.place), λ h. record { holds = h.0; place = h.1 });
      range = λ lo hi xs a l.
          range_correct (cases.ordered lo hi xs ((ascending_correct xs).1 a) l) a;
      unordered = unordered;
      crossed = cases.crossed;
    }
