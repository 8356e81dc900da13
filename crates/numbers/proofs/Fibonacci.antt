-- Fibonacci numbers, which bound how many rows an expansion has. Assumes nothing.
use mathlib.Core.Path.{◌≡◌, refl, ap}
use Prim.Native.Nat.{ℕ, zero, suc, ◌+◌, ◌-◌, ◌≤◌}
use native.Mathlib.Omega.{arith}
use lib.Dec.{lit≤}

-- 0, 1, 1, 2, 3, 5, 8, ..: each is the sum of the two before it
unfoldable pub fib : ℕ → ℕ
fib zero = 0
fib (suc zero) = 1
fib (suc (suc n)) = fib n + fib (suc n)

pub fib_zero : fib 0 ≡ 0
unfolding fib
fib_zero = refl

pub fib_one : fib 1 ≡ 1
unfolding fib
fib_one = refl

pub fib_next : (n : ℕ) → fib (suc (suc n)) ≡ fib n + fib (suc n)
unfolding fib
fib_next n = refl

pub fib_up : (n : ℕ) → fib n ≤ fib (suc n)
fib_up zero = omega (arith, fib_zero)
fib_up (suc n) = omega (arith, fib_next n)

pub fib_mono : {n k : ℕ} → n ≤ k → fib n ≤ fib k
fib_mono {n} {k} h =
    let e : n + (k - n) ≡ k = omega arith in
    omega (arith, ap fib e, far (k - n))
  where
    far : (d : ℕ) → fib n ≤ fib (n + d)
    far zero =
        let e : n + 0 ≡ n = omega arith in
        omega (arith, ap fib e)
    far (suc d) =
        let e : n + suc d ≡ suc (n + d) = omega arith in
        omega (arith, ap fib e, far d, fib_up (n + d))

-- 29 rows are enough for the largest count: 1,048,576 is at most the sum of these two
pub fib_31 : 1048576 ≤ fib 29 + fib 30
unfolding fib
fib_31 = lit≤ tt
