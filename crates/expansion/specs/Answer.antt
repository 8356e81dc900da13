-- What the call answers: the whole table, or a refusal (document 01: the ladder call). Assumes nothing: these are definitions.
use Rattle.std.specs.Prelude.{List, [], ◌∷◌, ℕ, ◌-◌, length, Result}
use Rattle.std.proofs.Math.Decide.{dec_lt}
use Rattle.numbers.specs.Checklist.{Check, check, first_failing}
use Rattle.numbers.specs.Refusals.{outcome}
use Rattle.numbers.specs.declared.refusals.Refusal.{Refusal}
use Rattle.numbers.specs.Lists.{zero_padded}
use Rattle.numbers.specs.Unit.{ranged}
use Rattle.expansion.specs.Rows.{Row, expansion, remainders, denominators, quotients}
use Rattle.expansion.specs.declared.Table.{Table}

-- what is asked of a modulus and a step, with the number of each refusal
abbrev pub checks : (M a : ℕ) → List Check
checks M a = check 1 (ranged M) ∷ check 2 (dec_lt a M) ∷ []

-- the number of the first condition that does not hold, or 0
unfoldable pub refusal : (M a : ℕ) → ℕ
refusal M a = first_failing (checks M a)

-- the rows for which a table has places
abbrev pub places : ℕ
places = 89

-- rows as a table: each column with zeros after the last row, and the last row's index
abbrev pub table_of : List Row → Table
table_of rs =
    record {
      remainders = zero_padded places (remainders rs);
      denominators = zero_padded places (denominators rs);
      quotients = zero_padded places (quotients rs);
      last = length rs - 1;
    }

-- the answer for a modulus and a step: the table, or a refusal alone
unfoldable pub answer : (M a : ℕ) → Result Table Refusal
answer M a = outcome (refusal M a) (table_of (expansion M a))
