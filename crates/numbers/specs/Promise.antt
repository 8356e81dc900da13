-- What is promised of the definitions that the promises of other crates cite, and the statements on lists, pieces of a stretch, buffers and divisors that those
-- promises make. `Promised`, at the end, is all that holds here; proofs/Promises.antt proves it.
-- Assumes nothing: these are statements.
use Rattle.std.specs.Prelude.{◌≡◌, Bool, true, false, ◌↔◌, ℕ, suc, ◌+◌, ◌-◌, ◌%◌, ◌^◌, ◌≤◌, ◌<◌, ℤ, pos, negsuc, ◌+ℤ◌, ◌-ℤ◌, ◌*ℤ◌, length, get_or, map, Ok, Err}
use mathlib.Core.List.{List, [], ◌∷◌, ◌++◌, Memᴰ}
use Rattle.std.specs.Int.{◌∣◌}
use Rattle.numbers.specs.Checklist.{Condition, Check, condition, check, conditions, first_failing, AllHold, RefusedBy, Numbered, unless_refused}
use Rattle.numbers.specs.Refusals.{number_of, named, outcome, tested, number_in}
use Rattle.numbers.specs.declared.refusals.Refusal.{Refusal}
use Rattle.numbers.specs.declared.refusals.Refusal.TheVariants.{Modulus, Step, Start, Count, Window, Curve, Room, Malformed, Argument, Target, Origin}
use Rattle.numbers.specs.Integers.{◌modulo◌}
use Rattle.numbers.specs.Lists.{filter_range, count_if, tabulate, joined, overwrite_front, place_after}
use Rattle.numbers.specs.Parity.{is_odd}
use Rattle.numbers.specs.Sums.{sum, alternating_sum}

-- ---- refusals

-- a number refuses where it is that of the first condition that does not hold; no number refuses where there is none left, and then all hold
pub record ConditionsCorrect : Type 1 where
  pub none : (n : ℕ) → RefusedBy [] n → ⊥
  pub fails : (k n : ℕ) (P : Type 0) (cs : List Condition) → (P → ⊥) → RefusedBy (condition k P ∷ cs) n ↔ (n ≡ k)
  pub passes : (k n : ℕ) (P : Type 0) (cs : List Condition) → P → RefusedBy (condition k P ∷ cs) n ↔ RefusedBy cs n
  pub checks_none : conditions [] ≡ []
  pub checks_more : (k : ℕ) {P : Type 0} (d : Dec P) (cs : List Check) → conditions (check k d ∷ cs) ≡ condition k P ∷ conditions cs
  pub nothing_asked : AllHold []
  pub all_hold : (k : ℕ) (P : Type 0) (cs : List Condition) → AllHold (condition k P ∷ cs) ↔ (P × AllHold cs)
  pub nothing_numbered : Numbered []
  pub numbered : (k : ℕ) (P : Type 0) (cs : List Condition) → Numbered (condition k P ∷ cs) ↔ ((0 < k) × Numbered cs)

-- a checklist answers a number exactly where that number refuses, and 0, if no condition has that number, exactly where every condition holds
pub record ChecklistCorrect (cs : List Check) : Type 1 where
  pub refuses : (n : ℕ) → (first_failing cs ≡ suc n) ↔ RefusedBy (conditions cs) (suc n)
  pub accepts : Numbered (conditions cs) → (first_failing cs ≡ 0) ↔ AllHold (conditions cs)

-- each of the eleven refusals has its number, and no two have the same; an answer by 0 shows what is there, and by a number of the eleven it is
-- that refusal; a call that tests alone answers likewise
pub record RefusalsCorrect : Type 1 where
  pub numbers : map number_of (Modulus ∷ Step ∷ Start ∷ Count ∷ Window ∷ Curve ∷ Room ∷ Malformed ∷ Argument ∷ Target ∷ Origin ∷ [])
      ≡ 1 ∷ 2 ∷ 3 ∷ 4 ∷ 5 ∷ 6 ∷ 7 ∷ 8 ∷ 9 ∷ 10 ∷ 11 ∷ []
  pub back : (r : Refusal) → named (number_of r) ≡ r
  pub shown : {A : Type 0} (a : A) → outcome 0 a ≡ Ok a
  pub refused : {A : Type 0} (r : Refusal) (a : A) → outcome (number_of r) a ≡ Err r
  pub numbered : (A : Type 0) (r : Refusal) → number_in {A = A} (Err r) ≡ number_of r
  pub unnumbered : {A : Type 0} (a : A) → number_in (Ok a) ≡ 0
  pub tests : (n : ℕ) → tested n ≡ outcome n tt

-- ---- integers

-- the remainder of an integer is the number from 0 to M - 1 that differs from it by a multiple of M
pub record RemainderCorrect (z : ℤ) (M : ℕ) : Type 0 where
  pub in_range : 0 < M → z modulo M < M
  pub multiple : 0 < M → (k : ℤ) × (z ≡ pos (z modulo M) +ℤ k *ℤ pos M)

-- ---- divisors

-- what makes g the greatest common divisor: it divides both, and every common divisor divides it
pub record GreatestCommonDivisor (a b g : ℕ) : Type 0 where
  pub divides_first : g ∣ a
  pub divides_second : g ∣ b
  pub greatest : (d : ℕ) → d ∣ a → d ∣ b → d ∣ g

-- ---- lists

-- a list has exactly the numbers of which something holds, each once and ascending; they fit 64 bits, and there are so many
pub record Enumerates (holds : (x : ℕ) → Type 0) (number : ℕ) (xs : List ℕ) : Type 0 where
  pub exactly : (x : ℕ) → Memᴰ x xs ↔ holds x
  -- strictly: of two places the later one holds the larger number
  pub ascending : (i j : ℕ) → i < j → j < length xs → get_or xs i 0 < get_or xs j 0
  pub fits : (x : ℕ) → Memᴰ x xs → x < 2 ^ 64
  pub counted : length xs ≡ number

-- which of the numbers from x on have a property, as many as are left, and how many: where x has it, it is the first of them and counts for one
pub record SelectionCorrect (property : ℕ → Bool) : Type 0 where
  pub none_left : (x : ℕ) → filter_range property 0 x ≡ []
  pub taken : (n x : ℕ) → property x ≡ true → filter_range property (suc n) x ≡ x ∷ filter_range property n (suc x)
  pub passed : (n x : ℕ) → property x ≡ false → filter_range property (suc n) x ≡ filter_range property n (suc x)
  pub none_counted : (x : ℕ) → count_if property 0 x ≡ 0
  pub counted : (n x : ℕ) → property x ≡ true → count_if property (suc n) x ≡ suc (count_if property n (suc x))
  pub not_counted : (n x : ℕ) → property x ≡ false → count_if property (suc n) x ≡ count_if property n (suc x)

-- a function's values, and its lists, one after another
pub record SequencesCorrect : Type 0 where
  pub no_value : (f : ℕ → ℕ) (i : ℕ) → tabulate f 0 i ≡ []
  pub value_more : (f : ℕ → ℕ) (n i : ℕ) → tabulate f (suc n) i ≡ f i ∷ tabulate f n (suc i)
  pub no_list : (f : ℕ → List ℕ) (i : ℕ) → joined f 0 i ≡ []
  pub list_more : (f : ℕ → List ℕ) (n i : ℕ) → joined f (suc n) i ≡ f i ++ joined f n (suc i)

-- ---- parity

-- odd is what leaves 1 when divided by 2
pub record ParityCorrect (n : ℕ) : Type 0 where
  pub even : (is_odd n ≡ false) ↔ (n % 2 ≡ 0)
  pub odd : (is_odd n ≡ true) ↔ (n % 2 ≡ 1)

-- ---- sums

-- f(i) + f(i+1) + f(i+2) and so on, and f(i) - f(i+1) + f(i+2) and so on
pub record SumsCorrect : Type 0 where
  pub no_term : (f : ℕ → ℕ) (i : ℕ) → sum f 0 i ≡ 0
  pub term_more : (f : ℕ → ℕ) (n i : ℕ) → sum f (suc n) i ≡ f i + sum f n (suc i)
  pub alternating_none : (f : ℕ → ℕ) (i : ℕ) → alternating_sum f 0 i ≡ pos 0
  pub alternating_more : (f : ℕ → ℕ) (n i : ℕ) → alternating_sum f (suc n) i ≡ pos (f i) -ℤ alternating_sum f n (suc i)

-- ---- pieces of a stretch

-- where so many pieces begin that make up the numbers below a total: the first at 0, and each no later than the next, where it ends; the last ends at the total. A
-- piece may have no number
pub record Starts (start : ℕ → ℕ) (pieces total : ℕ) : Type 0 where
  pub first : start 0 ≡ 0
  pub not_after_next : (i : ℕ) → i < pieces → start i ≤ start (suc i)
  pub last : start pieces ≡ total

-- a number is in the piece i
abbrev pub InPiece : (start : ℕ → ℕ) → (i x : ℕ) → Type 0
InPiece start i x = (start i ≤ x) × (x < start (suc i))

-- then every number below the total is in exactly one piece, and no piece goes beyond it; the pieces are in order; and what they list, one after another, is what
-- the stretch lists
pub record PiecesCorrect (start : ℕ → ℕ) (pieces total : ℕ) : Type 0 where
  pub once : (x : ℕ) → x < total → (i : ℕ) × (i < pieces) × InPiece start i x × ((j : ℕ) → j < pieces → InPiece start j x → j ≡ i)
  pub within : (i : ℕ) → i ≤ pieces → start i ≤ total
  pub ordered : (i j : ℕ) → i < j → j < pieces → (x y : ℕ) → InPiece start i x → InPiece start j y → x < y
  pub lists : (property : ℕ → Bool)
      → joined (λ i. filter_range property (start (suc i) - start i) (start i)) pieces 0 ≡ filter_range property total 0

-- ---- buffers

-- a list stands in a buffer: from the first place on, and every place after it is as it was
pub record BufferCorrect (xs old new : List ℕ) : Type 0 where
  pub places : length new ≡ length old
  pub room : length xs ≤ length old
  pub front : (i : ℕ) → i < length xs → get_or new i 0 ≡ get_or xs i 0
  pub after : (i : ℕ) → length xs ≤ i → get_or new i 0 ≡ get_or old i 0

-- a list over the front of a buffer, with room for it; what a buffer holds after a call; the place after a list that is written from a place on
pub record BuffersCorrect : Type 1 where
  pub front : (xs old : List ℕ) → length xs ≤ length old → BufferCorrect xs old (overwrite_front xs old)
  pub accepted : {A : Type 0} (new old : A) → unless_refused 0 new old ≡ new
  pub refused : {A : Type 0} (n : ℕ) (new old : A) → unless_refused (suc n) new old ≡ old
  pub room : (at : ℕ) (xs old : List ℕ) → at + length xs ≤ length old → place_after at xs old ≡ at + length xs
  pub no_room : (at : ℕ) (xs old : List ℕ) → at ≤ length old → length old ≤ at + length xs → place_after at xs old ≡ length old
  pub beyond : (at : ℕ) (xs old : List ℕ) → length old ≤ at → place_after at xs old ≡ at

-- all of it
pub record Promised : Type 1 where
  pub conditions_are : ConditionsCorrect
  pub checklists : (cs : List Check) → ChecklistCorrect cs
  pub refusals : RefusalsCorrect
  pub remainders : (z : ℤ) (M : ℕ) → RemainderCorrect z M
  -- by 0 nothing is taken off, and a negative number leaves 0
  pub remainders_by_zero : (n : ℕ) → (pos n modulo 0 ≡ n) × (negsuc n modulo 0 ≡ 0)
  pub selections : (property : ℕ → Bool) → SelectionCorrect property
  pub sequences : SequencesCorrect
  pub sums : SumsCorrect
  pub parity : (n : ℕ) → ParityCorrect n
  pub pieces : (start : ℕ → ℕ) (pieces total : ℕ) → Starts start pieces total → PiecesCorrect start pieces total
  pub buffers : BuffersCorrect
