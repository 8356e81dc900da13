-- a·q(i) modulo M: theta(i), and in an odd row its opposite. A row has the sign that the row before it has not. Assumes nothing.
use mathlib.Core.Path.{◌∙◌, ap}
use mathlib.Core.Bool.{not}
use Prim.Native.Nat.{ℕ, zero, suc, ◌*◌, ◌≤◌, ◌<◌}
use native.Mathlib.Nat.{mod-eq_of_lt, zero-mod}
use native.Mathlib.Omega.{arith}
use Rattle.numbers.specs.Parity.{is_odd}
use Rattle.numbers.proofs.Congruences.{equals, none, chain, same_remainder}
use Rattle.numbers.proofs.Parity.{parity_correct, ByParity, even_congruent, odd_congruent, exchanged, added, repeated, restated}
use Rattle.numbers.proofs.Parity.ByParity.{even_row, odd_row}
use Rattle.expansion.specs.Rows.{last, remainder_at, denominator_at, quotient_at, remainder_before, denominator_before}
use Rattle.expansion.specs.Promise.{MultiplesCorrect}
use Rattle.expansion.proofs.RowLaws.{rows_correct, rows_bounded}

module _ (M a : ℕ) (small : a < M) where
  -- a row, and the one before it
  both : (i : ℕ) → i ≤ last M a
      → ByParity M (is_odd i) (a * denominator_at M a i) (remainder_at M a i) 0
      × ByParity M (not (is_odd i)) (a * denominator_before M a i) (remainder_before M a i) 0
  both zero l =
      let r = rows_correct M a small in (
        even_row (a * denominator_at M a 0) (remainder_at M a 0) 0 (equals (omega (arith, r.first_remainder, ap (λ (n : ℕ). a * n) r.first_denominator))),
        odd_row (a * denominator_before M a 0) (remainder_before M a 0) 0 (chain (equals {b = M} (omega (arith, r.first_remainder_before, ap (λ (n : ℕ). a * n) r.first_denominator_before))) (none M)),
      )
  both (suc i) l =
      let r = rows_correct M a small in
      let b = both i (omega arith) in
      rw (r.next_denominator_before i, r.next_remainder_before i) (
        restated (a * denominator_at M a (suc i)) (remainder_at M a (suc i)) 0 (added b.1 (repeated (quotient_at M a i) (exchanged b.0)))
            (omega (arith, ap (λ (n : ℕ). a * n) (r.denominator i l))) (omega (arith, r.remainder i l)),
        exchanged (exchanged b.0),
      )

  pub row_by_parity : (i : ℕ) → i ≤ last M a → ByParity M (is_odd i) (a * denominator_at M a i) (remainder_at M a i) 0
  row_by_parity i l = (both i l).0

  pub multiples_correct : MultiplesCorrect M a
  multiples_correct =
      record {
        even_row = λ i l e.
            same_remainder (chain (equals (omega arith)) (even_congruent (row_by_parity i l) ((parity_correct i).even.1 e)))
            ∙ mod-eq_of_lt ((rows_bounded M a small).remainder_below i l);
        odd_row = λ i l e. same_remainder (odd_congruent (row_by_parity i l) ((parity_correct i).odd.1 e)) ∙ zero-mod M;
      }
