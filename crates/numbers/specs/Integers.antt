-- The remainder of an integer. Assumes nothing: these are definitions.
use Rattle.std.specs.Prelude.{ℕ, suc, ◌-◌, ◌%◌, ℤ, pos, negsuc}

-- the number from 0 to M - 1 that differs from the integer by a multiple of M; that of -(n + 1) is M - 1 less the remainder of n
infixl 70 ◌modulo◌
unfoldable pub ◌modulo◌ : ℤ → (M : ℕ) → ℕ
pos n modulo M = n % M
negsuc n modulo M = M - suc (n % M)
