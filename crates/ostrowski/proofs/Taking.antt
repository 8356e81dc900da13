-- The loops over the table, from row m - 1 down: what is left of an argument is the sum of the
-- digits below, so that a division gives the next digit; the array of digits, and the residue, from
-- that row on. Assumes nothing.
use Rattle.std.proofs.Common.{◌≡◌, ℕ, suc, ◌+◌, ◌-◌, ◌*◌, ◌/◌, ◌%◌, ◌≤◌, ◌<◌, List, length, get_or, set, replicate, Ok, Err, refl, sym, ap, ◌∙◌, arith}
use Rattle.std.proofs.Math.ListN.{length-replicate}
use native.Mathlib.Nat.{zero-mod}
use Rattle.numbers.specs.Integers.{◌modulo◌}
use Rattle.numbers.specs.Lists.{zero_padded}
use Rattle.numbers.specs.Refusals.{outcome, number_in}
use Rattle.numbers.specs.Sums.{alternating_sum}
use Rattle.numbers.specs.declared.refusals.Refusal.TheVariants.{Argument}
use Rattle.numbers.proofs.Buffers.{AgreesFrom, write_before, all_written}
use Rattle.numbers.proofs.Integers.{mod_minus, mod_below}
use Rattle.numbers.proofs.Lists.{padded_places, padded_front, padded_after, zeros_at}
use Rattle.numbers.proofs.Outcomes.{outcome_refused, outcome_accepted}
use Rattle.numbers.proofs.Remainders.{quotient_of_sum, remainder_of_sum}
use Rattle.expansion.specs.Rows.{last, remainder_at, denominator_at, period}
use Rattle.expansion.specs.Promise.{ColumnCorrect, TableCorrect}
use Rattle.expansion.specs.Answer.{answer}
use Rattle.expansion.specs.declared.Table.{Table}
use Rattle.expansion.proofs.Promises as expansion
use Rattle.ostrowski.specs.Digits.{digits_of, residue_of}
use Rattle.ostrowski.specs.Answer.{places, with_digits, argument_checks, argument_refusal}
use Rattle.ostrowski.proofs.Writing.{below_next, sum_below, digits_many, digits_sum_to, digits_low}
use Rattle.ostrowski.proofs.Residues.{term, term_below}
use Rattle.ostrowski.proofs.Refusals.{Accepted, accepts_both, last_refused}

-- ---- the table

-- the denominators of an accepted modulus and step, and the last row's index
pub record Tabled (M a : ℕ) (denominators : List ℕ) (m : ℕ) : Type 0 where
  pub accepted : Accepted M a
  pub column : ColumnCorrect M a denominators (denominator_at M a)
  pub last_is : m ≡ last M a

-- as the expansion answers them
module _ {M a : ℕ} {table : Table} (f : Ok table ≡ answer M a) where
  correct : TableCorrect M a table
  correct = rw (← f) at (((expansion.promised).answers M a).accepted_table (ap number_in (sym f)))

  pub tabled : Tabled M a table.denominators table.last
  tabled =
      record {
        accepted = accepts_both ((expansion.promised).refusals M a ∙ ap number_in (sym f));
        column = correct.denominators;
        last_is = correct.last_index;
      }

  pub remainders_tabled : ColumnCorrect M a table.remainders (remainder_at M a)
  remainders_tabled = correct.remainders

module _ {M a : ℕ} {denominators : List ℕ} {m : ℕ} (t : Tabled M a denominators m) where
  few : m ≤ 88
  few =
      let r = (expansion.promised).few M a t.accepted.small in
      omega (arith, t.last_is, r.last_at_most_88 t.accepted.most)

  period_read : get_or denominators m 0 ≡ period M a
  period_read =
      let p = (expansion.promised).period M a t.accepted.small in
      t.column.of_row m (omega (arith, t.last_is))
      ∙ ap (denominator_at M a) t.last_is ∙ sym p.last_denominator

  -- an argument that is not below the period
  pub argument_refused : {A : Type 0} {x : ℕ} (b : A) → get_or denominators m 0 ≤ x
      → Err Argument ≡ outcome (argument_refusal M a x) b
  unfolding argument_refusal
  argument_refused {x = x} b l =
      outcome_refused (argument_checks M a x) Argument b
      (last_refused t.accepted (λ h. omega (arith, period_read)))

pub few_rows : (M a : ℕ) (table : Table) → Ok table ≡ answer M a → table.last ≤ 88
few_rows M a table f = few (tabled f)

-- ---- the rows from one on are taken

pub record Taking (M a x : ℕ) (denominators : List ℕ) (m rest row : ℕ) : Type 0 where
  pub table : Tabled M a denominators m
  pub within : x < period M a
  pub there : row ≤ m
  pub rest_is : rest ≡ sum_below M a (digits_of M a x) row

pub taking_first : {M a x : ℕ} {denominators : List ℕ} {m : ℕ} → Tabled M a denominators m
    → x < get_or denominators m 0 → Taking M a x denominators m x m
taking_first {M} {a} {x} t l =
    let within : x < period M a = omega (arith, period_read t) in
    record {
      table = t;
      within = within;
      there = omega arith;
      rest_is = rw t.last_is (sym (digits_sum_to M a t.accepted.small x within));
    }

module _ {M a x : ℕ} {denominators : List ℕ} {m rest row : ℕ}
    (t : Taking M a x denominators m rest row) where
  abbrev D : List ℕ
  D = digits_of M a x

  -- nothing refuses the argument
  pub argument_accepted : {A : Type 0} (b : A) → Ok b ≡ outcome (argument_refusal M a x) b
  unfolding argument_refusal
  argument_accepted b = outcome_accepted (argument_checks M a x) b (omega arith)

  module _ (some : 0 < row) where
    abbrev i : ℕ
    i = row - 1

    small : a < M
    small = t.table.accepted.small

    row_below : i < last M a
    row_below = omega (arith, t.table.last_is, t.there)

    read : get_or denominators i 0 ≡ denominator_at M a i
    read = t.table.column.of_row i (omega (arith, row_below))

    pub denominator_positive : 0 < get_or denominators i 0
    denominator_positive =
        let b = (expansion.promised).bounded M a small in
        rw read (b.denominator_positive i (omega (arith, row_below)))

    split : rest ≡ sum_below M a D i + get_or D i 0 * denominator_at M a i
    split =
        let e : row ≡ suc i = omega arith in
        t.rest_is ∙ ap (sum_below M a D) e ∙ below_next (denominator_at M a) D i

    low : sum_below M a D i < denominator_at M a i
    low = digits_low M a small x t.within i (omega (arith, row_below))

    digit_taken : rest / get_or denominators i 0 ≡ get_or D i 0
    digit_taken = rw (read, split) (quotient_of_sum (get_or D i 0) low)

    pub taking_next : Taking M a x denominators m (rest % get_or denominators i 0) i
    taking_next =
        record {
          table = t.table;
          within = t.within;
          there = omega (arith, t.there);
          rest_is = rw (read, split) (remainder_of_sum (get_or D i 0) low);
        }

-- ---- the digits

-- the array that is to be
abbrev pub goal : (M a x : ℕ) → List ℕ
goal M a x = zero_padded places (digits_of M a x)

module _ {M a x : ℕ} {denominators : List ℕ} {m rest row : ℕ}
    (t : Taking M a x denominators m rest row) where
  many : length (D t) ≡ m
  many = omega (arith, digits_many M a x, t.table.last_is)

  long : length (goal M a x) ≡ places
  long = padded_places places (D t) (omega (arith, many, few t.table))

  pub none_written : row ≡ m → AgreesFrom (goal M a x) (replicate places 0) row
  none_written e =
      record {
        length_same = length-replicate {A = ℕ} places 0 ∙ sym long;
        agrees = λ i l. zeros_at places i ∙ sym (padded_after places (D t) i (omega (arith, many)));
      }

  pub digit_written : {now : List ℕ} (some : 0 < row) → AgreesFrom (goal M a x) now row
      → AgreesFrom (goal M a x)
      (set now (row - 1) (rest / get_or denominators (row - 1) 0)) (row - 1)
  digit_written some w =
      let e : row ≡ suc (row - 1) = omega arith in
      write_before (rw e at w) (omega (arith, long, few t.table, t.there))
      (digit_taken t some
      ∙ sym (padded_front places (D t) (row - 1) (omega (arith, many, t.there))))

  pub digits_written : {now : List ℕ} → row ≡ 0 → AgreesFrom (goal M a x) now row
      → record { digits = now; count = m } ≡ with_digits (digits_of M a x) (last M a)
  digits_written z w = rw (all_written (rw z at w), t.table.last_is) refl

-- ---- the residue

-- the rows from one on are taken: what they come to
pub record Reducing (M a x : ℕ) (remainders denominators : List ℕ) (m residue rest row : ℕ)
    : Type 0 where
  pub taking : Taking M a x denominators m rest row
  pub column : ColumnCorrect M a remainders (remainder_at M a)
  pub residue_is : residue ≡ alternating_sum (term M a (digits_of M a x)) (m - row) row modulo M

pub reducing_first : {M a x : ℕ} {remainders denominators : List ℕ} {m : ℕ}
    → Taking M a x denominators m x m → ColumnCorrect M a remainders (remainder_at M a)
    → Reducing M a x remainders denominators m 0 x m
unfolding alternating_sum ◌modulo◌
reducing_first {m = m} t c =
    let z : m - m ≡ 0 = omega arith in
    record { taking = t; column = c; residue_is = rw z (sym (zero-mod _)) }

module _ {M a x : ℕ} {remainders denominators : List ℕ} {m residue rest row : ℕ}
    (r : Reducing M a x remainders denominators m residue rest row) where
  positive : 0 < M
  positive = omega (arith, r.taking.table.accepted.low)

  pub residue_below : residue < M
  residue_below = rw r.residue_is (mod_below positive _)

  module _ (some : 0 < row) where
    abbrev j : ℕ
    j = row - 1

    -- what is added for the row, and what is left of the argument
    abbrev digit : ℕ
    digit = rest / get_or denominators j 0

    abbrev left : ℕ
    left = rest % get_or denominators j 0

    below : j < last M a
    below = row_below r.taking some

    term_is : digit * get_or remainders j 0 ≡ term M a (digits_of M a x) j
    term_is = rw (digit_taken r.taking some, r.column.of_row j (omega (arith, below)))

    pub term_fits : digit * get_or remainders j 0 < M
    term_fits =
        let t = r.taking in rw term_is (term_below M a x t.table.accepted.small t.within j below)

    pub reducing_next : Reducing M a x remainders denominators m
        ((digit * get_or remainders j 0 + (M - residue)) % M) left j
    unfolding alternating_sum
    reducing_next =
        let e : m - j ≡ suc (m - row) = omega (arith, r.taking.there) in
        let f : suc j ≡ row = omega arith in
        record {
          taking = taking_next r.taking some;
          column = r.column;
          residue_is = rw (e, f, term_is, r.residue_is) (mod_minus positive _ _);
        }

  -- no row is left
  pub residue_made : row ≡ 0 → residue ≡ residue_of M a (digits_of M a x)
  unfolding residue_of
  residue_made z =
      let e : m - 0 ≡ last M a = omega (arith, r.taking.table.last_is) in
      r.residue_is ∙ rw (z, e) refl
