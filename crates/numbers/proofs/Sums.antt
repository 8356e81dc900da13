-- Sums of a function's values, from either end. Assumes nothing.
use mathlib.Core.Path.{◌≡◌, refl, sym, ◌∙◌, ap}
use Prim.Native.Nat.{ℕ, zero, suc, ◌+◌, ◌≤◌, ◌<◌}
use native.Mathlib.Nat.{add-zero, add-suc, suc-add}
use native.Mathlib.Omega.{arith}
use Rattle.numbers.specs.Sums.{sum}

-- the last term by itself
pub sum_last : (f : ℕ → ℕ) (n i : ℕ) → sum f (suc n) i ≡ sum f n i + f (i + n)
unfolding sum
sum_last f zero i = omega (arith, ap f (add-zero i))
sum_last f (suc n) i = omega (arith, sum_last f n (suc i), ap f (suc-add i n ∙ sym (add-suc i n)))

-- equal terms have equal sums
pub sum_same : (f g : ℕ → ℕ) (n i : ℕ) → ((j : ℕ) → i ≤ j → j < i + n → f j ≡ g j) → sum f n i ≡ sum g n i
unfolding sum
sum_same f g zero i h = refl
sum_same f g (suc n) i h = omega (arith, h i (omega arith) (omega arith), sum_same f g n (suc i) (λ j k l. h j (omega arith) (omega arith)))
