-- What the three calls answer (document 02, 2.4). Assumes nothing: these are definitions.
use Rattle.std.specs.Prelude.{List, [], ◌∷◌, ◌++◌, ℕ, Result}
use Rattle.std.proofs.Math.Logic.Dec
use Rattle.std.proofs.Math.Decide.{dec_lt, dec_dvd}
use Rattle.numbers.specs.Checklist.{Check, check, first_failing}
use Rattle.numbers.specs.Refusals.{outcome}
use Rattle.numbers.specs.declared.refusals.Refusal.{Refusal}
use Rattle.numbers.specs.Divisors.{gcd}
use Rattle.numbers.specs.Lists.{zero_padded}
use Rattle.expansion.specs.Rows.{last, period}
use Rattle.expansion.specs.Answer.{checks}
use Rattle.ostrowski.specs.Digits.{digits_of, residue_of, argument_of}
use Rattle.ostrowski.specs.declared.Numeral.{Numeral}

-- what is asked of an argument: 1 and 2 as of an expansion, and 9 that it is below P
abbrev pub argument_checks : (M a x : ℕ) → List Check
argument_checks M a x = checks M a ++ (check 9 (dec_lt x (period M a)) ∷ [])

-- what is asked of a target: 1 and 2, and 10 that it is below M and a multiple of gcd(a, M)
abbrev pub target_checks : (M a t : ℕ) → List Check
target_checks M a t = checks M a ++ (check 10 (Dec.and (dec_lt t M) (dec_dvd (gcd a M) t)) ∷ [])

-- the number of the first condition that does not hold, or 0
unfoldable pub argument_refusal : (M a x : ℕ) → ℕ
argument_refusal M a x = first_failing (argument_checks M a x)

unfoldable pub target_refusal : (M a t : ℕ) → ℕ
target_refusal M a t = first_failing (target_checks M a t)

-- how many places for digits an answer has
abbrev pub places : ℕ
places = 88

-- digits, with zeros after them, and how many they are
abbrev pub with_digits : (digits : List ℕ) → (count : ℕ) → Numeral
with_digits d m = record { digits = zero_padded places d; count = m }

-- the digits of an argument, or a refusal alone
unfoldable pub digits_answer : (M a x : ℕ) → Result Numeral Refusal
digits_answer M a x = outcome (argument_refusal M a x) (with_digits (digits_of M a x) (last M a))

-- its residue, from the digits
unfoldable pub residue_answer : (M a x : ℕ) → Result ℕ Refusal
residue_answer M a x = outcome (argument_refusal M a x) (residue_of M a (digits_of M a x))

-- the argument of a residue
unfoldable pub divide_answer : (M a t : ℕ) → Result ℕ Refusal
divide_answer M a t = outcome (target_refusal M a t) (argument_of M a t)
