-- The table while it is filled: of each column what is written and what is still to come make up the whole. Assumes nothing.
use mathlib.Core.Path.{◌≡◌, ◌∙◌, ap}
use mathlib.Core.List.{List, [], ◌∷◌, map}
use Prim.Native.Nat.{ℕ, ◌+◌, ◌-◌, ◌*◌, ◌/◌, ◌%◌, ◌^◌, ◌≤◌, ◌<◌}
use native.Mathlib.Omega.{arith}
use lib.ListN.{length, set, replicate, length-map}
use Rattle.numbers.specs.Lists.{zero_padded}
use Rattle.numbers.proofs.Buffers.{Writing, begin, restate, write_one, done, written_zeros}
use Rattle.expansion.specs.Rows.{Row, row, rows, expansion, remainders, denominators, quotients}
use Rattle.expansion.specs.Answer.{places, table_of}
use Rattle.expansion.specs.declared.Table.{Table}
use Rattle.expansion.proofs.Unrolling.{unrolled, rows_next, rows_end, some_row}
use Rattle.expansion.proofs.Recurrences.{Kept, kept_first, kept_next}
use Rattle.expansion.proofs.Length.{few_rows}

-- a column of the table, with the rows from i on still to come
abbrev Column : (g : Row → ℕ) → (M a t u p q i : ℕ) → (now : List ℕ) → Type 0
Column g M a t u p q i now = Writing (map g (expansion M a)) (replicate places 0) 0 (map g (rows t u p q)) now i

-- before row i is written: t and u are the remainders, p and q the denominators
pub record Filled (M a : ℕ) (table : Table) (t u p q i : ℕ) : Type 0 where
  pub kept : Kept M t u p q
  pub room : i < places
  pub few : length (expansion M a) ≤ places
  pub remainders_written : Column (λ (r : Row). r.remainder) M a t u p q i table.remainders
  pub denominators_written : Column (λ (r : Row). r.denominator) M a t u p q i table.denominators
  pub quotients_written : Column (λ (r : Row). r.quotient) M a t u p q i table.quotients

-- columns as a table whose last row is not known yet
abbrev pub columns : (us qs ks : List ℕ) → Table
columns us qs ks = record { remainders = us; denominators = qs; quotients = ks; last = 0 }

-- a table before it is filled
abbrev pub empty : Table
empty = columns (replicate places 0) (replicate places 0) (replicate places 0)

pub start : {M a : ℕ} → a < M → M ≤ 2 ^ 62 → Filled M a empty M a 0 1 0
unfolding expansion
start {M} {a} h l =
    record {
      kept = kept_first h;
      room = omega arith;
      few = few_rows M a h l;
      remainders_written = begin _ _ 0;
      denominators_written = begin _ _ 0;
      quotients_written = begin _ _ 0;
    }

-- a table with a row written
abbrev pub with_row : Table → (i : ℕ) → Row → (last : ℕ) → Table
with_row table i r last =
    record {
      remainders = set table.remainders i r.remainder;
      denominators = set table.denominators i r.denominator;
      quotients = set table.quotients i r.quotient;
      last = last;
    }

module _ {M a : ℕ} {table : Table} {t u p q i : ℕ} (f : Filled M a table t u p q i) where
  -- as many rows are written and still to come as the expansion has
  count : i + length (rows t u p q) ≡ length (expansion M a)
  count = omega (arith, simp length-map at f.remainders_written.place)

  pub write_row : 0 < u → Filled M a (with_row table i (row u q (t / u)) table.last) u (t % u) q (p + t / u * q) (i + 1)
  write_row h =
      let e = rows_next t u p q h in
      record {
        kept = kept_next f.kept h;
        room = omega (arith, count, f.few, ap length e, some_row (unrolled u (t % u) q (p + t / u * q)));
        few = f.few;
        remainders_written = write_one (restate (ap remainders e) f.remainders_written);
        denominators_written = write_one (restate (ap denominators e) f.denominators_written);
        quotients_written = write_one (restate (ap quotients e) f.quotients_written);
      }

  -- with the last row the table is whole
  pub write_last : u ≡ 0 → with_row table i (row 0 q 0) i ≡ table_of (expansion M a)
  write_last z =
      let n : i ≡ length (expansion M a) - 1 = omega (arith, count, ap length end) in
      λ j. record {
        remainders = whole (λ (r : Row). r.remainder) f.remainders_written j;
        denominators = whole (λ (r : Row). r.denominator) f.denominators_written j;
        quotients = whole (λ (r : Row). r.quotient) f.quotients_written j;
        last = n j;
      }
    where
      end : rows t u p q ≡ row 0 q 0 ∷ []
      end = ap (λ (n : ℕ). rows t n p q) z ∙ rows_end t p q

      whole : (g : Row → ℕ) {column : List ℕ} → Column g M a t u p q i column → set column i (g (row 0 q 0)) ≡ zero_padded places (map g (expansion M a))
      whole g w = (done (write_one (restate (ap (map g) end) w))).1 ∙ written_zeros places (map g (expansion M a)) (rw length-map f.few)
