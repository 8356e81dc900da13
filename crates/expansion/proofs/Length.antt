-- An expansion is short: its remainders, read from the last row up, grow at least as the Fibonacci numbers. Assumes nothing.
use mathlib.Core.Path.{◌≡◌, refl}
use mathlib.Core.List.{List}
use mathlib.Core.Logic.{◌⊎◌, inl, inr}
use Prim.Native.Nat.{ℕ, suc, ◌%◌, ◌^◌, ◌≤◌, ◌<◌, suc-le-suc}
use native.Mathlib.Nat.{mod-lt, div-add-mod', mul-le-mul_right, lt_of_not-le, le_of_suc-le-suc}
use native.Mathlib.Omega.{arith}
use lib.Dec.{lit<}
use lib.ListN.{length}
use Rattle.numbers.proofs.Remainders.{quotient_positive, quotient_two}
use Rattle.numbers.proofs.Fibonacci.{fib, fib_zero, fib_one, fib_next, fib_up, fib_mono}
use Rattle.expansion.specs.Rows.{Row, expansion}
use Rattle.expansion.proofs.Unrolling.{Rows, expansion_unrolled}
use Rattle.expansion.proofs.Unrolling.Rows.{end, next}

-- with n rows the remainder before them is at least fib (n + 1), and the first of them at least fib n unless it is 0
grown : {t u p q : ℕ} {rs : List Row} → Rows t u p q rs → u < t → (fib (suc (length rs)) ≤ t) × ((u ≡ 0) ⊎ (fib (length rs) ≤ u))
grown end l = (omega (arith, fib_next 0, fib_zero, fib_one), inl refl)
grown (next {t} {u} {rs = rs} w r) l = let g = grown r (mod-lt t w) in (joined g.0 g.1, inr g.0)
  where
    joined : fib (suc (length rs)) ≤ u → (t % u ≡ 0) ⊎ (fib (length rs) ≤ t % u) → fib (suc (suc (length rs))) ≤ t
    joined g (inl e) = omega (arith, fib_next (length rs), fib_up (length rs), div-add-mod' t u, mul-le-mul_right u (quotient_two t u w l e))
    joined g (inr h) = omega (arith, fib_next (length rs), div-add-mod' t u, mul-le-mul_right u (quotient_positive t u w (omega (arith, l))))

-- an expansion of n rows has a modulus of at least fib (n + 1)
pub rows_bound : (M a : ℕ) → a < M → fib (suc (length (expansion M a))) ≤ M
rows_bound M a h = (grown (expansion_unrolled M a) h).0

fib_91 : 2 ^ 62 < fib 91
unfolding fib
fib_91 = lit< tt

-- at most 89 rows up to 2^62
pub few_rows : (M a : ℕ) → a < M → M ≤ 2 ^ 62 → length (expansion M a) ≤ 89
few_rows M a h l =
    le_of_suc-le-suc (lt_of_not-le (λ (k : 90 ≤ length (expansion M a)). omega (arith, rows_bound M a h, fib_91, fib_mono (suc-le-suc k))))
