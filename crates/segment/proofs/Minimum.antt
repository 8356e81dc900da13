-- The argument that `least_from` finds: its residue is the least, so that it is the one whose residue is less than all others. Assumes nothing.
use mathlib.Core.Path.{◌≡◌}
use mathlib.Core.Logic.{by_cases}
use Prim.Native.Nat.{ℕ, zero, suc, ◌+◌, ◌≤◌, ◌<◌}
use native.Mathlib.Decide.{ℕ_discrete, dec_lt}
use native.Mathlib.Omega.{arith}
use borrow.Author.Tests.{lt-ltb, le-ltb}
use Rattle.geometry.specs.Segment.{Segment, residue}
use Rattle.geometry.specs.TwoLength.{Least}
use Rattle.segment.specs.Search.{least_from}

module _ (s : Segment) (n : ℕ) where
  -- an argument below n whose residue is at most that of every argument below x
  pub record Best (x best : ℕ) : Type 0 where
    pub below : best < n
    pub least : (y : ℕ) → y < x → residue s best ≤ residue s y

  -- of the best so far and of x, one that is no worse than both
  next_best : {x best z : ℕ} → Best x best → z < n → residue s z ≤ residue s x → residue s z ≤ residue s best → Best (suc x) z
  next_best {x} b h i j =
      record { below = h; least = λ y l. by_cases (dec_lt y x) (λ m. omega (arith, b.least y m)) (λ m. let e : y ≡ x = omega arith in rw e i) }

  best_from : (left x best : ℕ) → x + left ≡ n → Best x best → Best n (least_from left x best s)
  unfolding least_from
  best_from zero x best e b = record { below = b.below; least = λ y l. b.least y (omega arith) }
  best_from (suc k) x best e b =
      by_cases (dec_lt (residue s x) (residue s best))
      (λ h. rw (lt-ltb (residue s x) (residue s best) h) (best_from k (suc x) x (omega arith) (next_best b (omega arith) (omega arith) (omega arith))))
      (λ h. rw (le-ltb (residue s x) (residue s best) (omega arith)) (best_from k (suc x) best (omega arith) (next_best b b.below (omega arith) (omega arith))))

  pub found_best : 0 < n → Best n (least_from n 0 0 s)
  found_best some = best_from n 0 0 (omega arith) (record { below = some; least = λ y l. absurd (omega (arith, l)) })

  pub least_is : {x : ℕ} → Least s n x → least_from n 0 0 s ≡ x
  least_is {x} b =
      let f = found_best (omega (arith, b.below)) in
      by_cases (ℕ_discrete (least_from n 0 0 s) x) (λ e. e)
      (λ e. absurd (omega (arith, f.least x b.below, b.unique (least_from n 0 0 s) f.below e)))
