-- Parity. Assumes nothing: these are definitions.
use Rattle.std.specs.Prelude.{Bool, false, not, ℕ, zero, suc}

-- whether a number is odd
abbrev pub is_odd : ℕ → Bool
is_odd zero = false
is_odd (suc n) = not (is_odd n)
