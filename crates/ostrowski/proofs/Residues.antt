-- The residue from the digits: a·q(i) is theta(i), or its opposite in an odd row, so that the digits' sum with the terms of odd rows subtracted is a·x modulo M.
-- Assumes nothing.
use mathlib.Core.Path.{◌≡◌, refl, sym, ◌∙◌, ap}
use mathlib.Core.List.{List}
use Prim.Native.Nat.{ℕ, zero, suc, ◌+◌, ◌*◌, ◌%◌, ◌≤◌, ◌<◌}
use native.Mathlib.Nat.{mod-lt, mul-le-mul_right}
use native.Mathlib.Omega.{arith}
use lib.IntN.{pos, ◌-ℤ◌}
use lib.ListN.{get_or}
use Rattle.numbers.specs.Integers.{◌modulo◌}
use Rattle.numbers.specs.Sums.{sum, alternating_sum}
use Rattle.numbers.specs.Parity.{is_odd}
use Rattle.numbers.proofs.Congruences.{equals, chain, plus, remainder}
use Rattle.numbers.proofs.Integers.{gain, loss, split, number, minus, mod_is}
use Rattle.numbers.proofs.Parity.{ByParity, even_congruent, nothing, returned, added, repeated, restated}
use Rattle.expansion.specs.Rows.{last, remainder_at, denominator_at, period}
use Rattle.expansion.proofs.Promises as expansion
use Rattle.expansion.proofs.Laws.{row_by_parity}
use Rattle.ostrowski.specs.Digits.{digits_of, residue_of}
use Rattle.ostrowski.proofs.Writing.{below_next, sum_below, digits_sum_to, digits_low, digits_allowed}

-- row i's term in the residue
abbrev pub term : (M a : ℕ) → (d : List ℕ) → (i : ℕ) → ℕ
term M a d i = get_or d i 0 * remainder_at M a i

module _ (M a : ℕ) (small : a < M) (d : List ℕ) where
  -- the rows from i on
  from_row : (n i : ℕ) → i + n ≤ last M a
      → let z = alternating_sum (term M a d) n i in ByParity M (is_odd i) (a * sum (λ j. get_or d j 0 * denominator_at M a j) n i) (gain z) (loss z)
  unfolding sum alternating_sum
  from_row zero i l = restated (a * 0) 0 0 (nothing (is_odd i)) (omega arith) refl
  from_row (suc n) i l =
      let z = alternating_sum (term M a d) n (suc i) in
      restated (a * (get_or d i 0 * denominator_at M a i + sum (λ j. get_or d j 0 * denominator_at M a j) n (suc i))) (gain (pos (term M a d i) -ℤ z)) (loss (pos (term M a d i) -ℤ z))
      (added (repeated (get_or d i 0) (row_by_parity M a small i (omega arith))) (returned (is_odd i) (from_row n (suc i) (omega arith))))
      (omega arith) (omega (arith, (minus (number (term M a d i)) (split z)).balance))

  residue_is : alternating_sum (term M a d) (last M a) 0 modulo M ≡ a * sum_below M a d (last M a) % M
  residue_is =
      let x = sum_below M a d (last M a) in
      sym (mod_is (omega arith) (split (alternating_sum (term M a d) (last M a) 0)) (mod-lt (a * x) (omega arith))
      (chain (plus (remainder (a * x) M) (equals refl)) (even_congruent (from_row (last M a) 0 (omega arith)) refl)))

-- every term is below the modulus
module _ (M a x : ℕ) (small : a < M) (within : x < period M a) where
  abbrev D : List ℕ
  D = digits_of M a x

  pub term_below : (i : ℕ) → i < last M a → get_or D i 0 * remainder_at M a i < M
  term_below zero l =
      let r = (expansion.promised).rows M a small in
      omega (
        arith,
        r.remainder 0 l,
        r.not_zero 0 l,
        r.first_remainder_before,
        mul-le-mul_right (remainder_at M a 0) ((digits_allowed M a small x within).first l),
      )
  term_below (suc i) l =
      let r = (expansion.promised).rows M a small in
      omega (
        arith,
        r.remainder (suc i) l,
        r.next_remainder_before i,
        ((expansion.promised).bounded M a small).remainder_below i (omega arith),
        mul-le-mul_right (remainder_at M a (suc i)) ((digits_allowed M a small x within).at_most (suc i) l),
      )

  pub product_below : (i : ℕ) → i < last M a → get_or D i 0 * denominator_at M a i < M
  product_below i l =
      omega (
        arith,
        digits_low M a small x within (suc i) l,
        below_next (denominator_at M a) D i,
        ((expansion.promised).bounded M a small).denominator_within (suc i) l,
      )

  pub digits_residue : residue_of M a D ≡ a * x % M
  unfolding residue_of
  digits_residue = residue_is M a small D ∙ ap (λ (n : ℕ). a * n % M) (digits_sum_to M a small x within)
