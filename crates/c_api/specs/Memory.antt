-- What a call returns and leaves in the caller's memory. Assumes nothing: these are definitions.
use Rattle.std.specs.Prelude.{◌≡◌, List, [], ◌∷◌, ℕ, ℤ, Result, Ok, Err}
use Rattle.numbers.specs.Refusals.{number_in}
use Rattle.numbers.specs.declared.refusals.Refusal.{Refusal}
use Rattle.expansion.specs.declared.Table.{Table}
use Rattle.ostrowski.specs.declared.Numeral.{Numeral}
use Rattle.segment.specs.declared.Verdict.{Verdict}
use Rattle.segment.specs.declared.Verdict.TheVariants.{Clear, Possible}
use Rattle.segment.specs.declared.Regular.{Regular}
use Rattle.segment.specs.declared.Fine.{Fine}
use Rattle.domain.specs.declared.Domain.{Domain}
use Rattle.domain.specs.declared.Searched.{Searched}

-- what stands in the memory after a call: what its answer shows, handed over, or what was there before a refusal
abbrev pub handed : {A B : Type 0} → (over : A → B) → Result A Refusal → (old : B) → B
handed f (Err r) old = old
handed f (Ok a) old = f a

-- the caller's three columns and the number beside them, as a table
abbrev pub memory : (remainders denominators quotients : List ℕ) → (last : ℕ) → Table
memory us qs ks n = record { remainders = us; denominators = qs; quotients = ks; last = n }

-- an expansion's answer handed over: its refusal or 0 returned, and its table in the memory, which a refusal leaves as it was
pub record Delivered (answered : Result Table Refusal) (number : ℕ) (old new : Table) : Type 0 where
  pub returned : number ≡ number_in answered
  pub left : new ≡ handed (λ t. t) answered old

-- the 88 places that a call leaves, and how many of them are digits: those of the answer, or what was there
abbrev pub digits_memory : Result Numeral Refusal → (old : List ℕ) → List ℕ
digits_memory a old = handed (λ (d : Numeral). d.digits) a old

abbrev pub count_memory : Result Numeral Refusal → (old : ℕ) → ℕ
count_memory a old = handed (λ (d : Numeral). d.count) a old

-- the number that a residue, a division or a scan leaves: the one answered, or what was there
abbrev pub number_memory : Result ℕ Refusal → (old : ℕ) → ℕ
number_memory a old = handed (λ y. y) a old

-- clear is 1, possible 0
unfoldable pub verdict_number : Verdict → ℕ
verdict_number Clear = 1
verdict_number Possible = 0

-- the five numbers that a regular search leaves: those that it shows, or what was there
abbrev pub regular_memory : Result Regular Refusal → (old : List ℕ) → List ℕ
regular_memory a old = handed (λ (r : Regular). r.count ∷ r.quotients ∷ r.distance ∷ r.argument ∷ verdict_number r.verdict ∷ []) a old

-- the six numbers that a fine search leaves
abbrev pub fine_memory : Result Fine Refusal → (old : List ℕ) → List ℕ
fine_memory a old = handed (λ (f : Fine). f.count ∷ f.index ∷ f.part ∷ f.distance ∷ f.argument ∷ verdict_number f.verdict ∷ []) a old

-- the number that a scan leaves: how many it listed, or what was there
abbrev pub scan_memory : Result ℕ Refusal → (old : ℕ) → ℕ
scan_memory = number_memory

-- the domain of a call, from its origin, modulus, value, slope, curve, count and window
abbrev pub domain_of : (o M c0 c1 : ℕ) → (s : ℤ) → (N w : ℕ) → Domain
domain_of o M c0 c1 s N w = record { origin = o; modulus = M; value = c0; slope = c1; curve = s; count = N; window = w }

-- the two numbers that a domain search leaves beside its marks, its list and its values: phase 1's verdict and how many arguments are listed, or what was there
abbrev pub domain_memory : Result Searched Refusal → (old : List ℕ) → List ℕ
domain_memory a old = handed (λ (s : Searched). verdict_number s.first ∷ s.listed ∷ []) a old
