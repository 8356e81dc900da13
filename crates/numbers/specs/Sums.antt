-- Sums of a function's values. Assumes nothing: these are definitions.
use Rattle.std.specs.Prelude.{ℕ, zero, suc, ◌+◌, ℤ, pos, ◌-ℤ◌}

-- f(i) + f(i + 1) + f(i + 2) and so on, so many terms
unfoldable pub sum : (f : ℕ → ℕ) → (terms i : ℕ) → ℕ
sum f zero i = 0
sum f (suc n) i = f i + sum f n (suc i)

-- f(i) - f(i + 1) + f(i + 2) and so on, so many terms
unfoldable pub alternating_sum : (f : ℕ → ℕ) → (terms i : ℕ) → ℤ
alternating_sum f zero i = pos 0
alternating_sum f (suc n) i = pos (f i) -ℤ alternating_sum f n (suc i)
