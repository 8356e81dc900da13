-- Texts: bytes, decimal numbers, and lines. Assumes nothing: these are definitions.
use Rattle.std.specs.Prelude.{true, false, List, [], ◌∷◌, ◌++◌, ℕ, zero, suc, ◌+◌, ◌/◌, ◌%◌, ltb, ℤ, pos, negsuc}
use Prim.Native.Char.{code}
use Prim.Native.String.{String, [] as end-of-text, ◌∷◌ as ◌then◌}

-- the bytes of a text in ASCII
abbrev pub bytes : String → List ℕ
bytes end-of-text = []
bytes (c then s) = code c ∷ bytes s

-- the byte that ends a line
abbrev pub line_feed : ℕ
line_feed = 10

-- the byte of a digit
abbrev pub digit : (d : ℕ) → ℕ
digit d = 48 + d

-- the decimal digits of n, the first of them not 0 but for 0 itself; of more digits than there is fuel, the last ones. The two
-- branches of `elim` are not computed before the test is, so that a large number does not use up its fuel
unfoldable pub decimal_within : (fuel n : ℕ) → List ℕ
decimal_within zero n = []
decimal_within (suc f) n = elim (ltb n 10) [ true ↦ digit n ∷ [] | false ↦ decimal_within f (n / 10) ++ digit (n % 10) ∷ [] ]

-- a number in decimal: it has no more than n + 1 digits
unfoldable pub decimal : (n : ℕ) → List ℕ
decimal n = decimal_within (suc n) n

-- a signed number in decimal, with a minus sign in front where it is negative
unfoldable pub signed_decimal : ℤ → List ℕ
signed_decimal (pos n) = decimal n
signed_decimal (negsuc n) = bytes "-" ++ decimal (suc n)

-- a line and what follows it: a name, what is written after it, a line feed
abbrev pub line : (name written rest : List ℕ) → List ℕ
line name written rest = name ++ (written ++ line_feed ∷ rest)
