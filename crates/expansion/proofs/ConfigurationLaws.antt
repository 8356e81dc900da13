-- The configurations of every step below a modulus, in closed form: the two records of specs/Promise.antt on them.
-- Assumes nothing.
use mathlib.Core.Path.{◌≡◌, refl, sym, ◌∙◌, ap}
use mathlib.Core.List.Memᴰ
use mathlib.Core.List.{List, [], ◌∷◌, Memᴰ}
use mathlib.Core.Logic.{⊎_elim}
use Prim.Native.Nat.{ℕ, suc, ◌+◌, ◌-◌, ◌*◌, ◌<◌}
use native.Mathlib.Nat.{eq-zero-or-pos, zero-add}
use native.Mathlib.Omega.{arith}
use borrow.Author.Tests.{ne_eqb}
use lib.ListN.{length, get_or, length-map, get_or-map}
use Rattle.numbers.proofs.Remainders.{quotient_positive}
use Rattle.numbers.proofs.Lists.{AscendingFrom, ascending}
use Rattle.numbers.proofs.Lists.AscendingFrom.{ascending_nil, ascending_cons}
use Rattle.expansion.specs.Rows.{expansion, rows_from, last, denominator_at, quotient_at, denominator_before, period}
use Rattle.expansion.specs.Configurations.{Configuration, configuration, none, counts, regular, regular_from, fine, fine_from}
use Rattle.expansion.specs.Promise.{RegularCorrect, FineCorrect}
use Rattle.expansion.proofs.Unrolling.{expansion_unrolled, first_row}
use Rattle.expansion.proofs.Recurrences.{kept_first, several_rows}
use Rattle.expansion.proofs.Regular.{last_of, relabelled, regular_many, regular_at, regular_final, regular_ascend}
use Rattle.expansion.proofs.Fine.{fine_ascend, fine_has, fine_only, fine_first, fine_final}
use Rattle.expansion.proofs.RowLaws.{last_index, kept, beside, second_row}

-- configurations whose counts ascend from a bound on ascend place by place
counts_ascend : {n : ℕ} (cs : List Configuration) → AscendingFrom n (counts cs)
    → (i j : ℕ) → i < j → j < length cs → (get_or cs i none).count < (get_or cs j none).count
counts_ascend cs a i j h l =
    let count : Configuration → ℕ = λ c. c.count in
    omega (arith, ascending a i j h (omega (arith, l, length-map cs count)), get_or-map count cs i none, get_or-map count cs j none)

module _ (M a : ℕ) (small : a < M) where
  regular_of_zero : a ≡ 0 → regular M a ≡ configuration 1 0 0 ∷ []
  unfolding regular regular_from expansion rows_from
  regular_of_zero e = rw e

  fine_of_zero : a ≡ 0 → fine M a ≡ configuration 1 0 0 ∷ []
  unfolding fine
  fine_of_zero e = rw e

  pub fine_of_rows : 0 < a → fine M a ≡ fine_from 0 0 (expansion M a)
  unfolding fine
  fine_of_rows h = rw (ne_eqb a 0 (λ e. omega (arith, e, h)))

  regular_length : length (regular M a) ≡ suc (last M a)
  unfolding regular
  regular_length = regular_many (expansion_unrolled M a) 0 ∙ sym (last_index M a)

  regular_of_row : (i : ℕ) → i < last M a → get_or (regular M a) i none ≡ configuration (denominator_at M a i + denominator_before M a i) i 0
  unfolding regular denominator_at denominator_before
  regular_of_row i l = rw zero-add at (regular_at (expansion_unrolled M a) 0 i (omega (arith, last_index M a)))

  regular_last : get_or (regular M a) (last M a) none ≡ configuration (period M a) (last M a) 0
  unfolding regular period denominator_at
  regular_last = rw zero-add at (regular_final (expansion_unrolled M a) 0 (last M a) (last_index M a))

  pub last_regular : last_of (regular M a) ≡ get_or (regular M a) (last M a) none
  last_regular = ap (λ (i : ℕ). get_or (regular M a) i none) (omega (arith, regular_length))

  fine_has_correct : (i t : ℕ) → i < last M a → t < quotient_at M a i
      → Memᴰ (configuration (denominator_at M a i + denominator_before M a i + t * denominator_at M a i) i t) (fine M a)
  unfolding denominator_at denominator_before quotient_at
  fine_has_correct i t l h =
      rw (fine_of_rows (several_rows (expansion_unrolled M a) (omega (arith, last_index M a))))
      (rw zero-add at (fine_has (expansion_unrolled M a) 0 i t (omega (arith, last_index M a)) h))

  fine_last : 0 < a → last_of (fine M a) ≡ configuration (period M a) (last M a - 1) (quotient_at M a (last M a - 1) - 1)
  unfolding period denominator_at quotient_at
  fine_last h =
      let p = second_row M a small h in
      let e : suc (last M a - 1) ≡ last M a = omega arith in
      rw (fine_of_rows h) (rw (e, zero-add) at (fine_final (expansion_unrolled M a) small 0 (last M a - 1) (omega (arith, last_index M a))))

  pub regular_ascends : AscendingFrom 1 (counts (regular M a))
  unfolding regular
  regular_ascends = regular_ascend (expansion_unrolled M a) (kept_first small) 0 1 (omega arith) (λ e. omega arith)

  pub fine_ascends : AscendingFrom 1 (counts (fine M a))
  fine_ascends =
      ⊎_elim (λ e. rw (fine_of_zero e) (ascending_cons {n = 1} {x = 1} (omega arith) ascending_nil))
      (λ h. rw (fine_of_rows h) (fine_ascend (expansion_unrolled M a) (kept_first small) 0 1 (omega arith)))
      (eq-zero-or-pos a)

  quotient_some : (i : ℕ) → i < last M a → 0 < quotient_at M a i
  quotient_some i l =
      let b = beside M a small i l in
      rw b.drawn (quotient_positive _ _ b.not_zero (omega (arith, (kept M a small i (omega arith)).falls)))

  pub regular_correct : RegularCorrect M a
  unfolding denominator_at denominator_before
  regular_correct =
      record {
        many = regular_length;
        of_row = regular_of_row;
        last_one = regular_last;
        first_one =
            ⊎_elim (λ e. rw (regular_of_zero e))
            (λ h. regular_of_row 0 (second_row M a small h) ∙ relabelled (omega (arith, (first_row (expansion_unrolled M a)).1)) refl refl)
            (eq-zero-or-pos a);
        ascend = counts_ascend (regular M a) regular_ascends;
        among_fine = λ i l. Memᴰ.cast (regular_of_row i l ∙ relabelled (omega arith) refl refl) (fine_has_correct i 0 l (quotient_some i l));
        last_among_fine = ⊎_elim (λ e. rw (sym last_regular, regular_of_zero e, fine_of_zero e)) (λ h. rw (regular_last, fine_last h)) (eq-zero-or-pos a);
        of_zero = regular_of_zero;
      }

  pub fine_correct : FineCorrect M a
  unfolding denominator_at denominator_before quotient_at
  fine_correct =
      record {
        has = fine_has_correct;
        only = λ h c d.
            let b = fine_only (expansion_unrolled M a) 0 c (rw (fine_of_rows h) at d) in
            rw (ap (λ (x : Configuration). x.index) b.is, zero-add)
            (omega (arith, b.within, last_index M a), b.below, ap (λ (x : Configuration). x.count) b.is);
        last_one = fine_last;
        first_one = ⊎_elim (λ e. rw (fine_of_zero e)) (λ h. rw (fine_of_rows h) (fine_first (expansion_unrolled M a) small h 0)) (eq-zero-or-pos a);
        ascend = counts_ascend (fine M a) fine_ascends;
        of_zero = fine_of_zero;
      }
