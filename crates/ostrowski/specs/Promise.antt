-- What is promised of digits, residues and modular division (02: the way back), with the letters of
-- documents 01 and 02: M the modulus, a the step, P the period; theta(i), q(i) and k(i+1) the
-- remainder, denominator and quotient of row i, m the last row; x an argument, d(i) its digits, t a
-- target. `Promised`, at the end, says for which numbers each record holds; proofs/Promises.antt
-- proves it. Assumes nothing: these are statements.
use Rattle.std.specs.Prelude.{◌≡◌, List, [], ◌∷◌, ◌↔◌, ℕ, suc, ◌*◌, ◌%◌, ◌^◌, ◌≤◌, ◌<◌, length, get_or, Result, Ok, Err, IsOkAnd}
use Rattle.std.specs.Int.{◌∣◌}
use Rattle.numbers.specs.Checklist.{Condition, condition, AllHold, RefusedBy}
use Rattle.numbers.specs.Refusals.{number_of, number_in}
use Rattle.numbers.specs.declared.refusals.Refusal.{Refusal}
use Rattle.numbers.specs.declared.refusals.Refusal.TheVariants.{Target}
use Rattle.numbers.specs.Divisors.{gcd}
use Rattle.numbers.specs.Integers.{◌modulo◌}
use Rattle.numbers.specs.Sums.{sum, alternating_sum}
use Rattle.expansion.specs.Rows.{last, remainder_at, denominator_at, quotient_at, period}
use Rattle.ostrowski.specs.Digits.{digits_of}
use Rattle.ostrowski.specs.Answer.{digits_answer, residue_answer, divide_answer}
use Rattle.ostrowski.specs.declared.Numeral.{Numeral}

-- ---- digits

-- 02's conditions on a list of digits
pub record Allowed (M a : ℕ) (d : List ℕ) : Type 0 where
  pub many : length d ≡ last M a
  -- d(0) < k(1)
  pub first : 0 < last M a → get_or d 0 0 < quotient_at M a 0
  -- d(i) ≤ k(i+1)
  pub at_most : (i : ℕ) → i < last M a → get_or d i 0 ≤ quotient_at M a i
  -- d(i-1) = 0 where d(i) = k(i+1)
  pub zero_below : (i : ℕ) → suc i < last M a
      → get_or d (suc i) 0 ≡ quotient_at M a (suc i) → get_or d i 0 ≡ 0

-- x is the sum of d(i)·q(i)
abbrev pub SumsTo : (M a : ℕ) → (d : List ℕ) → (x : ℕ) → Type 0
SumsTo M a d x = sum (λ i. get_or d i 0 * denominator_at M a i) (last M a) 0 ≡ x

-- the digits of an argument below P
pub record DigitsCorrect (M a x : ℕ) : Type 0 where
  pub allowed : Allowed M a (digits_of M a x)
  pub sums_to : SumsTo M a (digits_of M a x) x
  -- no other list has the conditions and the sum
  pub only : (d : List ℕ) → Allowed M a d → SumsTo M a d x → d ≡ digits_of M a x
  -- every term is below M
  pub terms_below : (i : ℕ) → i < last M a
      → (get_or (digits_of M a x) i 0 * denominator_at M a i < M)
      × (get_or (digits_of M a x) i 0 * remainder_at M a i < M)
  -- the sum of d(i)·theta(i), with the terms of odd rows subtracted, is a·x modulo M
  pub residue : alternating_sum (λ i. get_or (digits_of M a x) i 0 * remainder_at M a i) (last M a)
      0 modulo M ≡ a * x % M

-- a list that has the conditions is that of an argument below P
abbrev pub ListCorrect : (M a : ℕ) → (d : List ℕ) → Type 0
ListCorrect M a d = (x : ℕ) × (x < period M a) × SumsTo M a d x × (digits_of M a x ≡ d)

-- ---- modular division

-- a target t: an argument below P has it as its residue exactly where t is below M and a multiple
-- of gcd(a, M), and then exactly one has
pub record TargetCorrect (M a t : ℕ) : Type 0 where
  pub exists : ((x : ℕ) × (x < period M a) × (a * x % M ≡ t)) ↔ ((t < M) × (gcd a M ∣ t))
  pub unique : (x y : ℕ) → x < period M a → y < period M a → a * x % M ≡ t → a * y % M ≡ t → x ≡ y
  -- the residue of every argument, below P or not, is such a target
  pub anywhere : (x : ℕ) → a * x % M ≡ t → (t < M) × (gcd a M ∣ t)

-- ---- the answers

-- what is asked, in this order, with the number of each refusal
abbrev pub ArgumentAsked : (M a x : ℕ) → List Condition
ArgumentAsked M a x =
    condition 1 ((2 ≤ M) × (M ≤ 2 ^ 62)) ∷ condition 2 (a < M) ∷ condition 9 (x < period M a) ∷ []

abbrev pub TargetAsked : (M a t : ℕ) → List Condition
TargetAsked M a t =
    condition 1 ((2 ≤ M) × (M ≤ 2 ^ 62)) ∷ condition 2 (a < M)
    ∷ condition 10 ((t < M) × (gcd a M ∣ t)) ∷ []

-- what digits hands over has 88 places: m, the digits, and zeros from place m on
pub record NumeralCorrect (M a x : ℕ) (numeral : Numeral) : Type 0 where
  pub counted : numeral.count ≡ last M a
  pub places : length numeral.digits ≡ 88
  pub of_row : (i : ℕ) → i < last M a → get_or numeral.digits i 0 ≡ get_or (digits_of M a x) i 0
  pub after : (i : ℕ) → last M a ≤ i → get_or numeral.digits i 0 ≡ 0

-- an answer of digits: a refusal exactly where its condition is the first that does not hold, and
-- no digits then; the digits exactly where every condition holds
pub record DigitsAnswerCorrect (M a x : ℕ) (answered : Result Numeral Refusal) : Type 0 where
  pub refused : (n : ℕ) → (number_in answered ≡ suc n) ↔ RefusedBy (ArgumentAsked M a x) (suc n)
  pub accepted : (number_in answered ≡ 0) ↔ ((2 ≤ M) × (M ≤ 2 ^ 62) × (a < M) × (x < period M a))
  pub refused_empty : (r : Refusal)
      → (answered ≡ Err r) ↔ RefusedBy (ArgumentAsked M a x) (number_of r)
  pub shown : number_in answered ≡ 0 → IsOkAnd answered (NumeralCorrect M a x)

-- residue: refused exactly where a condition does not hold, by the first one, and else a·x mod M
pub record ResidueAnswerCorrect (M a x : ℕ) : Type 0 where
  pub refused : (r : Refusal)
      → (residue_answer M a x ≡ Err r) ↔ RefusedBy (ArgumentAsked M a x) (number_of r)
  pub found : (y : ℕ)
      → (residue_answer M a x ≡ Ok y) ↔ (AllHold (ArgumentAsked M a x) × (y ≡ a * x % M))
  pub shown : AllHold (ArgumentAsked M a x)
      → (number_in (residue_answer M a x) ≡ 0) × (residue_answer M a x ≡ Ok (a * x % M))

-- divide: refused likewise, and else the x below P with a·x mod M = t
pub record DivideAnswerCorrect (M a t : ℕ) : Type 0 where
  pub refused : (r : Refusal)
      → (divide_answer M a t ≡ Err r) ↔ RefusedBy (TargetAsked M a t) (number_of r)
  pub found : (x : ℕ)
      → (divide_answer M a t ≡ Ok x)
      ↔ (AllHold (TargetAsked M a t) × ((x < period M a) × (a * x % M ≡ t)))
  pub shown : AllHold (TargetAsked M a t)
      → (number_in (divide_answer M a t) ≡ 0)
      × IsOkAnd (divide_answer M a t) (λ x. (x < period M a) × (a * x % M ≡ t))
  -- with M and a accepted, refused exactly if there is none
  pub refused_if_none : 2 ≤ M → M ≤ 2 ^ 62 → a < M
      → (divide_answer M a t ≡ Err Target) ↔ (((x : ℕ) × (x < period M a) × (a * x % M ≡ t)) → ⊥)

-- all of it: of every step below a modulus, and the answers for every three numbers
pub record Promised : Type 0 where
  pub digits : (M a x : ℕ) → a < M → x < period M a → DigitsCorrect M a x
  pub lists : (M a : ℕ) → a < M → (d : List ℕ) → Allowed M a d → ListCorrect M a d
  pub targets : (M a t : ℕ) → a < M → TargetCorrect M a t
  pub digits_answers : (M a x : ℕ) → DigitsAnswerCorrect M a x (digits_answer M a x)
  pub residue_answers : (M a x : ℕ) → ResidueAnswerCorrect M a x
  pub divide_answers : (M a t : ℕ) → DivideAnswerCorrect M a t
  -- residue and divide are inverse to each other
  pub inverse : (M a x t : ℕ) → (residue_answer M a x ≡ Ok t) ↔ (divide_answer M a t ≡ Ok x)
  -- the numbers of the two cases of an answer
  pub numbers : (r : Refusal) (n : ℕ)
      → (number_in {A = ℕ} (Err r) ≡ number_of r) × (number_in (Ok n) ≡ 0)
