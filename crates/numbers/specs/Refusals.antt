-- The refusals by name and by number, and the answer of a call that may refuse. Assumes nothing: these are definitions.
use Rattle.std.specs.Prelude.{[], ◌∷◌, ℕ, zero, suc, ◌-◌, get_or, Result, Ok, Err}
use Rattle.numbers.specs.declared.refusals.Refusal.{Refusal}
use Rattle.numbers.specs.declared.refusals.Refusal.TheVariants.{Modulus, Step, Start, Count, Window, Curve, Room, Malformed, Argument, Target, Origin}

-- the number by which document 01 or 02 knows a refusal
abbrev pub number_of : Refusal → ℕ
number_of Modulus = 1
number_of Step = 2
number_of Start = 3
number_of Count = 4
number_of Window = 5
number_of Curve = 6
number_of Room = 7
number_of Malformed = 8
number_of Argument = 9
number_of Target = 10
number_of Origin = 11

-- the refusal that has a number, of 1 to 11; no other number is that of one
unfoldable pub named : (number : ℕ) → Refusal
named n =
    get_or
    (Modulus ∷ Step ∷ Start ∷ Count ∷ Window ∷ Curve ∷ Room ∷ Malformed ∷ Argument ∷ Target ∷ Origin ∷ [])
    (n - 1)
    Modulus

-- the answer of a call whose checklist gives this number: 0 is no refusal, and a number of the eleven is that refusal alone
unfoldable pub outcome : {A : Type 0} → (number : ℕ) → A → Result A Refusal
outcome zero a = Ok a
outcome (suc n) a = Err (named (suc n))

-- the answer of a call that tests alone
abbrev pub tested : (number : ℕ) → Result (Unit {0}) Refusal
tested n = outcome n tt

-- the number of an answer's refusal; 0 where there is none
abbrev pub number_in : {A : Type 0} → Result A Refusal → ℕ
number_in (Ok a) = 0
number_in (Err r) = number_of r
