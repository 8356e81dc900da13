-- What is promised of the expansion, with the letters of document 01: M the modulus, a the step, m the last row's index, P the period.
-- `Promised`, at the end, says for which numbers each record holds; proofs/Promises.antt proves it. Assumes nothing: these are statements.
use Rattle.std.specs.Prelude.{◌≡◌, ◌↔◌, ◌⊎◌, ℕ, suc, ◌+◌, ◌-◌, ◌*◌, ◌/◌, ◌%◌, ◌^◌, ◌≤◌, ◌<◌, length, get_or, Result, Err, IsOkAnd}
use mathlib.Core.List.{List, [], ◌∷◌, Memᴰ}
use Rattle.std.specs.Int.{◌∣◌}
use Rattle.numbers.specs.Checklist.{Condition, condition, RefusedBy}
use Rattle.numbers.specs.Refusals.{number_of, number_in, tested}
use Rattle.numbers.specs.declared.refusals.Refusal.{Refusal}
use Rattle.numbers.specs.Divisors.{gcd}
use Rattle.numbers.specs.Promise.{GreatestCommonDivisor}
use Rattle.expansion.specs.Rows.{expansion, last, remainder_at, denominator_at, quotient_at, remainder_before, denominator_before, period}
use Rattle.expansion.specs.Configurations.{Configuration, configuration, none, regular, fine}
use Rattle.expansion.specs.Reached.{Search, configurations_of, reached}
use Rattle.expansion.specs.Reached.Search.{regular as regular_search, fine as fine_search}
use Rattle.expansion.specs.Answer.{refusal, answer}
use Rattle.expansion.specs.declared.Table.{Table}

-- the rows are those of the Euclidean algorithm, from theta(-1) = M, theta(0) = a, q(-1) = 0 and q(0) = 1 to the first remainder 0
pub record RowsCorrect (M a : ℕ) : Type 0 where
  pub first_remainder_before : remainder_before M a 0 ≡ M
  pub first_denominator_before : denominator_before M a 0 ≡ 0
  pub next_remainder_before : (i : ℕ) → remainder_before M a (suc i) ≡ remainder_at M a i
  pub next_denominator_before : (i : ℕ) → denominator_before M a (suc i) ≡ denominator_at M a i
  pub first_remainder : remainder_at M a 0 ≡ a
  pub first_denominator : denominator_at M a 0 ≡ 1
  -- k(i+1) = theta(i-1) / theta(i), rounded down
  pub quotient : (i : ℕ) → i < last M a → quotient_at M a i ≡ remainder_before M a i / remainder_at M a i
  -- theta(i+1) = theta(i-1) - k(i+1)·theta(i), without loss in the difference
  pub remainder : (i : ℕ) → i < last M a → quotient_at M a i * remainder_at M a i + remainder_at M a (suc i) ≡ remainder_before M a i
  -- q(i+1) = q(i-1) + k(i+1)·q(i)
  pub denominator : (i : ℕ) → i < last M a → denominator_at M a (suc i) ≡ denominator_before M a i + quotient_at M a i * denominator_at M a i
  -- remainders fall strictly, from theta(-1) = M on
  pub falls : (i : ℕ) → i ≤ last M a → remainder_at M a i < remainder_before M a i
  pub not_zero : (i : ℕ) → i < last M a → 0 < remainder_at M a i
  pub last_remainder : remainder_at M a (last M a) ≡ 0
  -- the last k is written 0
  pub last_quotient : quotient_at M a (last M a) ≡ 0
  -- q(i)·theta(i-1) + q(i-1)·theta(i) = M
  pub modulus_of_row : (i : ℕ) → i ≤ last M a
      → denominator_at M a i * remainder_before M a i + denominator_before M a i * remainder_at M a i ≡ M
  -- where there is a quotient, the last one drawn, k(m), is at least 2
  pub last_drawn : 0 < a → (0 < last M a) × (2 ≤ quotient_at M a (last M a - 1))

-- how large they are: quotients that are drawn and denominators are at least 1, denominators do not fall and are at most M, remainders are below M
pub record RowsBounded (M a : ℕ) : Type 0 where
  pub quotient_positive : (i : ℕ) → i < last M a → 1 ≤ quotient_at M a i
  pub denominator_positive : (i : ℕ) → i ≤ last M a → 1 ≤ denominator_at M a i
  pub denominators_not_falling : (i : ℕ) → i ≤ last M a → denominator_before M a i ≤ denominator_at M a i
  pub denominator_within : (i : ℕ) → i ≤ last M a → denominator_at M a i ≤ M
  pub remainder_below : (i : ℕ) → i ≤ last M a → remainder_at M a i < M

-- a·q(i) is theta(i) modulo M in an even row, and its opposite in an odd one
pub record MultiplesCorrect (M a : ℕ) : Type 0 where
  pub even_row : (i : ℕ) → i ≤ last M a → i % 2 ≡ 0 → a * denominator_at M a i % M ≡ remainder_at M a i
  pub odd_row : (i : ℕ) → i ≤ last M a → i % 2 ≡ 1 → (a * denominator_at M a i + remainder_at M a i) % M ≡ 0

-- there are rows 0 to m: at least 1, and up to 2^62 at most 89
pub record RowsFew (M a : ℕ) : Type 0 where
  pub rows_to_last : length (expansion M a) ≡ suc (last M a)
  pub at_most_89 : M ≤ 2 ^ 62 → length (expansion M a) ≤ 89
  pub last_at_most_88 : M ≤ 2 ^ 62 → last M a ≤ 88

-- the period P = q(m) is M / gcd(a, M); after it the multiples of a modulo M repeat, and after no smaller number
pub record PeriodCorrect (M a : ℕ) : Type 0 where
  pub last_denominator : period M a ≡ denominator_at M a (last M a)
  pub positive : 1 ≤ period M a
  pub divisor : GreatestCommonDivisor a M (gcd a M)
  pub divisor_of_zero : gcd 0 M ≡ M
  pub by_divisor : period M a ≡ M / gcd a M
  -- the division leaves nothing
  pub exact : period M a * gcd a M ≡ M
  -- the last remainder that is not 0, or M where the step is 0
  pub last_divisor : remainder_before M a (last M a) ≡ gcd a M
  pub repeats : (x : ℕ) → a * (x + period M a) % M ≡ a * x % M
  pub not_before : (x y : ℕ) → 0 < y → y < period M a → a * (x + y) % M ≡ a * x % M → ⊥
  -- so that multiples agree exactly where the period divides their distance
  pub agree : (x y : ℕ) → (a * (x + y) % M ≡ a * x % M) ↔ (period M a ∣ y)

-- the regular configurations: q(i) + q(i-1) for each i with theta(i) not 0, then P with the index m
pub record RegularCorrect (M a : ℕ) : Type 0 where
  pub many : length (regular M a) ≡ suc (last M a)
  pub of_row : (i : ℕ) → i < last M a → get_or (regular M a) i none ≡ configuration (denominator_at M a i + denominator_before M a i) i 0
  pub last_one : get_or (regular M a) (last M a) none ≡ configuration (period M a) (last M a) 0
  pub first_one : get_or (regular M a) 0 none ≡ configuration 1 0 0
  pub ascend : (i j : ℕ) → i < j → j < length (regular M a) → (get_or (regular M a) i none).count < (get_or (regular M a) j none).count
  -- each before the last is a fine one, of the label (i, 0); the last has the count of the last fine one
  pub among_fine : (i : ℕ) → i < last M a → Memᴰ (get_or (regular M a) i none) (fine M a)
  pub last_among_fine : (get_or (regular M a) (last M a) none).count ≡ (get_or (fine M a) (length (fine M a) - 1) none).count
  -- where the step is 0, the one of a single point
  pub of_zero : a ≡ 0 → regular M a ≡ configuration 1 0 0 ∷ []

-- the fine configurations: q(i) + q(i-1) + t·q(i) for each i with theta(i) not 0 and each t below k(i+1)
pub record FineCorrect (M a : ℕ) : Type 0 where
  pub has : (i t : ℕ) → i < last M a → t < quotient_at M a i
      → Memᴰ (configuration (denominator_at M a i + denominator_before M a i + t * denominator_at M a i) i t) (fine M a)
  pub only : 0 < a → (c : Configuration) → Memᴰ c (fine M a)
      → (c.index < last M a) × (c.part < quotient_at M a c.index)
      × (c.count ≡ denominator_at M a c.index + denominator_before M a c.index + c.part * denominator_at M a c.index)
  -- the last one has P points and the label (m-1, k(m)-1)
  pub last_one : 0 < a
      → get_or (fine M a) (length (fine M a) - 1) none ≡ configuration (period M a) (last M a - 1) (quotient_at M a (last M a - 1) - 1)
  pub first_one : get_or (fine M a) 0 none ≡ configuration 1 0 0
  pub ascend : (i j : ℕ) → i < j → j < length (fine M a) → (get_or (fine M a) i none).count < (get_or (fine M a) j none).count
  -- where the step is 0, the one of a single point
  pub of_zero : a ≡ 0 → fine M a ≡ configuration 1 0 0 ∷ []

-- of a search's configurations the one reached: the first with N points or more, or that of the period where N exceeds it
pub record ReachedCorrect (configurations : List Configuration) (period N : ℕ) (c : Configuration) : Type 0 where
  pub some : 0 < c.count
  pub among : Memᴰ c configurations
  pub enough : N ≤ period → N ≤ c.count
  pub first : (d : Configuration) → Memᴰ d configurations → N ≤ d.count → c.count ≤ d.count
  pub at_period : period < N → c.count ≡ period
  pub within : c.count ≤ period

-- both searches: each reaches one of its own configurations; a regular one is labelled by its index alone, at most 29 for up to 1,048,576 points;
-- no more points are reached for a smaller count, and by the fine search no more than by either
pub record SearchesCorrect (M a : ℕ) : Type 0 where
  pub regular_ones : configurations_of regular_search M a ≡ regular M a
  pub fine_ones : configurations_of fine_search M a ≡ fine M a
  pub reaches : (k : Search) (N : ℕ) → ReachedCorrect (configurations_of k M a) (period M a) N (reached k M a N)
  pub regular_label : (N : ℕ) → reached regular_search M a N ≡ configuration (reached regular_search M a N).count (reached regular_search M a N).index 0
  pub few_quotients : (N : ℕ) → N ≤ 1048576 → (reached regular_search M a N).index ≤ 29
  pub same_sooner : (k : Search) (N N' : ℕ) → N' ≤ N → (reached k M a N').count ≤ (reached k M a N).count
  pub fine_sooner : (k : Search) (N N' : ℕ) → N' ≤ N → (reached fine_search M a N').count ≤ (reached k M a N).count

-- a column of the table: 89 places, the rows from 0 to m, and zeros after them
pub record ColumnCorrect (M a : ℕ) (column : List ℕ) (entry : ℕ → ℕ) : Type 0 where
  pub places : length column ≡ 89
  pub of_row : (i : ℕ) → i ≤ last M a → get_or column i 0 ≡ entry i
  pub after : (i : ℕ) → last M a < i → get_or column i 0 ≡ 0

-- the table of an accepted modulus and step
pub record TableCorrect (M a : ℕ) (table : Table) : Type 0 where
  pub remainders : ColumnCorrect M a table.remainders (remainder_at M a)
  pub denominators : ColumnCorrect M a table.denominators (denominator_at M a)
  pub quotients : ColumnCorrect M a table.quotients (quotient_at M a)
  pub last_index : table.last ≡ last M a

-- what is asked of a modulus and a step, in this order, with the number of each refusal
abbrev pub Asked : (M a : ℕ) → List Condition
Asked M a = condition 1 ((2 ≤ M) × (M ≤ 2 ^ 62)) ∷ condition 2 (a < M) ∷ []

-- an answer of the call: a refusal exactly where its condition is the first that does not hold, and no table then; the table exactly where every
-- condition holds
pub record AnswerCorrect (M a : ℕ) (answered : Result Table Refusal) : Type 0 where
  pub refused : (n : ℕ) → (number_in answered ≡ suc n) ↔ RefusedBy (Asked M a) (suc n)
  -- in numbers: 1 for a modulus outside 2 to 2^62, 2 for a step not below another modulus
  pub modulus_refused : (number_in answered ≡ 1) ↔ ((M < 2) ⊎ (2 ^ 62 < M))
  pub step_refused : (number_in answered ≡ 2) ↔ ((2 ≤ M) × (M ≤ 2 ^ 62) × (M ≤ a))
  pub accepted : (number_in answered ≡ 0) ↔ ((2 ≤ M) × (M ≤ 2 ^ 62) × (a < M))
  pub refused_empty : (r : Refusal) → (answered ≡ Err r) ↔ RefusedBy (Asked M a) (number_of r)
  pub accepted_table : number_in answered ≡ 0 → IsOkAnd answered (TableCorrect M a)

-- all of it: of every step below a modulus, and the answer of every two numbers
pub record Promised : Type 0 where
  pub rows : (M a : ℕ) → a < M → RowsCorrect M a
  pub bounded : (M a : ℕ) → a < M → RowsBounded M a
  pub multiples : (M a : ℕ) → a < M → MultiplesCorrect M a
  pub few : (M a : ℕ) → a < M → RowsFew M a
  pub period : (M a : ℕ) → a < M → PeriodCorrect M a
  -- a configuration has the count and the label that it is made of
  pub configuration_is : (n i t : ℕ) → ((configuration n i t).count ≡ n) × ((configuration n i t).index ≡ i) × ((configuration n i t).part ≡ t)
  pub regular : (M a : ℕ) → a < M → RegularCorrect M a
  pub fine : (M a : ℕ) → a < M → FineCorrect M a
  pub searches : (M a : ℕ) → a < M → SearchesCorrect M a
  pub answers : (M a : ℕ) → AnswerCorrect M a (answer M a)
  -- the test of a modulus and a step gives the number that the answer has
  pub refusals : (M a : ℕ) → refusal M a ≡ number_in (answer M a)
  -- and answers it by the name that has this number
  pub refused_by_name : (M a : ℕ) (r : Refusal)
      → (tested (refusal M a) ≡ Err r) ↔ RefusedBy (Asked M a) (number_of r)
