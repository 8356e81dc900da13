-- The greatest common divisor. Assumes nothing: these are definitions.
use Rattle.std.specs.Prelude.{ℕ, zero, suc, ◌%◌}

-- Euclid's algorithm on a and b; the first number falls at each step, so that fuel of at least a is enough
unfoldable pub gcd_from : (fuel a b : ℕ) → ℕ
gcd_from zero a b = b
gcd_from (suc n) zero b = b
gcd_from (suc n) (suc a) b = gcd_from n (b % suc a) (suc a)

-- the greatest common divisor of two numbers; that of 0 and b is b
unfoldable pub gcd : (a b : ℕ) → ℕ
gcd a b = gcd_from a a b
