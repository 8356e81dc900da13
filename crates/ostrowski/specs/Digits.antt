-- The Ostrowski digits of an argument x, over the denominators of the expansion of a and M; the
-- residue that they give, which is here a·x mod M and not a segment's; and the argument of a
-- residue (document 02, 2.4). Assumes nothing: these are definitions.
use Rattle.std.specs.Prelude.{List, [], ◌∷◌, ◌++◌, ℕ, zero, suc, ◌*◌, ◌/◌, ◌%◌, eqb, get_or}
use Rattle.numbers.specs.Integers.{◌modulo◌}
use Rattle.numbers.specs.Lists.{filter_range}
use Rattle.numbers.specs.Sums.{alternating_sum}
use Rattle.expansion.specs.Rows.{last, remainder_at, denominator_at, period}

-- the digits of x over the rows below n, row 0 first: x is divided by the highest denominator, and
-- what is left has the digits below
unfoldable pub digits_over : (denominator : ℕ → ℕ) → (n x : ℕ) → List ℕ
digits_over q zero x = []
digits_over q (suc n) x = digits_over q n (x % q n) ++ (x / q n ∷ [])

-- d(0) to d(m-1)
unfoldable pub digits_of : (M a x : ℕ) → List ℕ
digits_of M a x = digits_over (denominator_at M a) (last M a) x

-- the sum of d(i)·theta(i), with the terms of odd rows subtracted, modulo M
unfoldable pub residue_of : (M a : ℕ) → (digits : List ℕ) → ℕ
residue_of M a d = alternating_sum (λ i. get_or d i 0 * remainder_at M a i) (last M a) 0 modulo M

-- the arguments below P whose residue is t
unfoldable pub arguments_of : (M a t : ℕ) → List ℕ
arguments_of M a t = filter_range (λ x. eqb (a * x % M) t) (period M a) 0

-- the first of them; 0 where there is none
unfoldable pub argument_of : (M a t : ℕ) → ℕ
argument_of M a t = get_or (arguments_of M a t) 0 0
