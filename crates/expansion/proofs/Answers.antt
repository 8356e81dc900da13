-- The answer of the call: when each refusal is given, and what the table holds at each place. Assumes nothing.
use mathlib.Core.Path.{◌≡◌, refl, sym, ◌∙◌}
use mathlib.Core.List.{map}
use mathlib.Core.Logic.{◌↔◌, ◌⊎◌, inl, inr, ⊎_elim, by_cases}
use Prim.Native.Nat.{ℕ, ◌^◌, ◌≤◌, ◌<◌}
use native.Mathlib.Nat.{lt_of_not-le}
use native.Mathlib.Decide.{dec_lt}
use native.Mathlib.Omega.{arith}
use lib.ListN.{get_or, length-map}
use Rattle.std.proofs.Common.{Err, IsOkAnd}
use Rattle.numbers.specs.Lists.{zero_padded}
use Rattle.numbers.specs.Checklist.{conditions, RefusedBy}
use Rattle.numbers.specs.Refusals.{number_of, named, number_in, tested}
use Rattle.numbers.specs.declared.refusals.Refusal.{Refusal}
use Rattle.numbers.proofs.Checklists.{AllNumbers, refuses, accepts}
use Rattle.numbers.proofs.Outcomes.{IsNamed, outcome_number, outcome_refuses, failing_named, shown_holds}
use Rattle.numbers.proofs.Equivalences.{through}
use Rattle.numbers.proofs.Lists.{padded_places, padded_front, padded_after}
use Rattle.expansion.specs.Rows.{Row, expansion, last, remainder_at, denominator_at, quotient_at}
use Rattle.expansion.specs.Answer.{checks, refusal, places, table_of, answer}
use Rattle.expansion.specs.Promise.{ColumnCorrect, TableCorrect, AnswerCorrect}
use Rattle.expansion.proofs.Length.{few_rows}
use Rattle.expansion.proofs.RowLaws.{last_index}

-- ---- refusals

module _ (M a : ℕ) where
  pub accepted : (refusal M a ≡ 0) ↔ ((2 ≤ M) × (M ≤ 2 ^ 62) × (a < M))
  unfolding refusal
  accepted =
      let r = accepts (checks M a) (omega arith) in (λ e. let h = r.0 e in omega arith, λ h. r.1 (omega arith))

  modulus_refused : (refusal M a ≡ 1) ↔ ((M < 2) ⊎ (2 ^ 62 < M))
  unfolding refusal
  modulus_refused = (
    λ e. ⊎_elim (λ l. outside l.1) (λ r. ⊎_elim (λ s. absurd (omega (arith, s.0))) (λ s. absurd s.1) r.1) ((refuses (checks M a) 0).0 e),
    λ h. (refuses (checks M a) 0).1 (inl (refl, λ r. ⊎_elim (λ l. omega arith) (λ l. omega arith) h)),
  )
    where
      outside : ((2 ≤ M) × (M ≤ 2 ^ 62) → ⊥) → (M < 2) ⊎ (2 ^ 62 < M)
      outside n = by_cases (dec_lt M 2) inl (λ l. inr (lt_of_not-le (λ m. n (omega arith, m))))

  not_below : (a < M → ⊥) → M ≤ a
  not_below n = by_cases (dec_lt a M) (λ l. absurd (n l)) (λ l. omega arith)

  step_refused : (refusal M a ≡ 2) ↔ ((2 ≤ M) × (M ≤ 2 ^ 62) × (M ≤ a))
  unfolding refusal
  step_refused = (
    λ e. ⊎_elim (λ l. absurd (omega (arith, l.0)))
        (λ r. ⊎_elim (λ s. (r.0.0, r.0.1, not_below s.1)) (λ s. absurd s.1) r.1) ((refuses (checks M a) 1).0 e),
    λ h. (refuses (checks M a) 1).1 (inr ((h.0, h.1), inl (refl, λ l. omega arith))),
  )

  -- each number of the checklist is that of a refusal
  pub all_named : AllNumbers IsNamed (conditions (checks M a))
  unfolding named
  all_named = (refl, (refl, tt))

  -- the answer has the number of the first condition that does not hold
  pub number : refusal M a ≡ number_in (answer M a)
  unfolding answer refusal
  number = sym (outcome_number _ (table_of (expansion M a)) (failing_named (checks M a) all_named))

-- ---- the table

module _ (M a : ℕ) (small : a < M) (most : M ≤ 2 ^ 62) where
  column_correct : (g : Row → ℕ) → ColumnCorrect M a (zero_padded places (map g (expansion M a))) (λ i. get_or (map g (expansion M a)) i 0)
  column_correct g =
      let n = length-map (expansion M a) g in
      let l = last_index M a in
      record {
        places = padded_places places (map g (expansion M a)) (omega (arith, few_rows M a small most));
        of_row = λ i h. padded_front places (map g (expansion M a)) i (omega arith);
        after = λ i h. padded_after places (map g (expansion M a)) i (omega arith);
      }

  table_correct : TableCorrect M a (table_of (expansion M a))
  unfolding remainder_at denominator_at quotient_at last
  table_correct =
      record {
        remainders = column_correct (λ (r : Row). r.remainder);
        denominators = column_correct (λ (r : Row). r.denominator);
        quotients = column_correct (λ (r : Row). r.quotient);
        last_index = refl;
      }

table_answered : (M a : ℕ) → refusal M a ≡ 0 → TableCorrect M a (table_of (expansion M a)) → IsOkAnd (answer M a) (TableCorrect M a)
unfolding answer
table_answered M a e t = shown_holds (refusal M a) (TableCorrect M a) e t

by_name : (M a : ℕ) (r : Refusal) → (answer M a ≡ Err r) ↔ RefusedBy (conditions (checks M a)) (number_of r)
unfolding answer refusal
by_name M a r = outcome_refuses (checks M a) (table_of (expansion M a)) r (all_named M a)

pub tested_by_name : (M a : ℕ) (r : Refusal)
    → (tested (refusal M a) ≡ Err r) ↔ RefusedBy (conditions (checks M a)) (number_of r)
unfolding refusal
tested_by_name M a r = outcome_refuses (checks M a) tt r (all_named M a)

pub answer_correct : (M a : ℕ) → AnswerCorrect M a (answer M a)
unfolding refusal
answer_correct M a =
    record {
      refused = λ n. through (sym (number M a)) (refuses (checks M a) n);
      modulus_refused = through (sym (number M a)) (modulus_refused M a);
      step_refused = through (sym (number M a)) (step_refused M a);
      accepted = through (sym (number M a)) (accepted M a);
      refused_empty = by_name M a;
      accepted_table = λ e. let h = (accepted M a).0 (number M a ∙ e) in table_answered M a (number M a ∙ e) (table_correct M a h.2 h.1);
    }
