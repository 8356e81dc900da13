-- The Euclidean continued fraction of a step a and a modulus M (document 01: the ladder), row by row to the first remainder 0.
-- Assumes nothing: these are definitions.
use Rattle.std.specs.Prelude.{List, [], ◌∷◌, map, ℕ, zero, suc, ◌+◌, ◌-◌, ◌*◌, ◌/◌, ◌%◌, length, get_or}

-- row i: its remainder (01: theta(i)), the denominator of its convergent (01: q(i)), and the quotient drawn from it (01: k(i+1), 0 in the last row)
pub record Row : Type 0 where
  pub remainder : ℕ
  pub denominator : ℕ
  pub quotient : ℕ

abbrev pub row : (remainder denominator quotient : ℕ) → Row
row u q k = record { remainder = u; denominator = q; quotient = k }

-- the rows from one on: t and u are the remainders before it and in it, p and q the denominators. Remainders fall, so that any fuel above u is enough
unfoldable pub rows_from : (fuel : ℕ) → (before remainder : ℕ) → (denominator_before denominator : ℕ) → List Row
rows_from zero t u p q = []
rows_from (suc n) t zero p q = row 0 q 0 ∷ []
rows_from (suc n) t (suc u) p q = row (suc u) q (t / suc u) ∷ rows_from n (suc u) (t % suc u) q (p + t / suc u * q)

-- the rows from the one on that has these numbers, with fuel enough
abbrev pub rows : (before remainder denominator_before denominator : ℕ) → List Row
rows t u p q = rows_from (suc u) t u p q

-- the expansion of a/M: theta(-1) = M, theta(0) = a, q(-1) = 0, q(0) = 1
unfoldable pub expansion : (M a : ℕ) → List Row
expansion M a = rows M a 0 1

-- its columns
abbrev pub remainders : List Row → List ℕ
remainders = map (λ (r : Row). r.remainder)

abbrev pub denominators : List Row → List ℕ
denominators = map (λ (r : Row). r.denominator)

abbrev pub quotients : List Row → List ℕ
quotients = map (λ (r : Row). r.quotient)

-- the last row's index (01: m)
unfoldable pub last : (M a : ℕ) → ℕ
last M a = length (expansion M a) - 1

-- theta(i), q(i) and k(i+1)
unfoldable pub remainder_at : (M a i : ℕ) → ℕ
remainder_at M a i = get_or (remainders (expansion M a)) i 0

unfoldable pub denominator_at : (M a i : ℕ) → ℕ
denominator_at M a i = get_or (denominators (expansion M a)) i 0

unfoldable pub quotient_at : (M a i : ℕ) → ℕ
quotient_at M a i = get_or (quotients (expansion M a)) i 0

-- theta(i-1) and q(i-1): the columns with theta(-1) = M and q(-1) = 0 in front
unfoldable pub remainder_before : (M a i : ℕ) → ℕ
remainder_before M a i = get_or (M ∷ remainders (expansion M a)) i 0

unfoldable pub denominator_before : (M a i : ℕ) → ℕ
denominator_before M a i = get_or (0 ∷ denominators (expansion M a)) i 0

-- the last denominator, after which the multiples of a modulo M repeat (01: the cycle P)
unfoldable pub period : (M a : ℕ) → ℕ
period M a = denominator_at M a (last M a)
