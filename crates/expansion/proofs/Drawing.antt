-- The rows for a program that draws them one after another and keeps no table: where it stands, and what the next row is. Assumes nothing.
use mathlib.Core.Path.{◌≡◌, sym, ◌∙◌, ap}
use mathlib.Core.Logic.{by_cases}
use Prim.Native.Nat.{ℕ, suc, ◌+◌, ◌*◌, ◌/◌, ◌%◌, ◌≤◌, ◌<◌}
use native.Mathlib.Nat.{lt_of_not-le}
use native.Mathlib.Decide.{dec_lt}
use native.Mathlib.Omega.{arith}
use Rattle.expansion.specs.Rows.{last, remainder_at, denominator_at, remainder_before, denominator_before}
use Rattle.expansion.proofs.RowLaws.{beside, rows_correct}

-- at row i: t and u are the remainders before it and in it, p and q the denominators
pub record AtRow (M a i t u p q : ℕ) : Type 0 where
  pub there : i ≤ last M a
  pub before_is : t ≡ remainder_before M a i
  pub remainder_is : u ≡ remainder_at M a i
  pub denominator_before_is : p ≡ denominator_before M a i
  pub denominator_is : q ≡ denominator_at M a i

module _ {M a : ℕ} (small : a < M) where
  pub first_drawn : AtRow M a 0 M a 0 1
  first_drawn =
      let r = rows_correct M a small in
      record {
        there = omega arith;
        before_is = sym r.first_remainder_before;
        remainder_is = sym r.first_remainder;
        denominator_before_is = sym r.first_denominator_before;
        denominator_is = sym r.first_denominator;
      }

  module _ {i t u p q : ℕ} (d : AtRow M a i t u p q) where
    -- a row whose remainder is not 0 is not the last
    pub not_last : 0 < u → i < last M a
    not_last h =
        lt_of_not-le (λ l.
        let e : i ≡ last M a = omega (arith, d.there) in
        omega (arith, d.remainder_is, ap (remainder_at M a) e, (rows_correct M a small).last_remainder))

    pub is_last : u ≡ 0 → i ≡ last M a
    is_last z =
        by_cases (dec_lt i (last M a)) (λ l. absurd (omega (arith, d.remainder_is, (rows_correct M a small).not_zero i l))) (λ l. omega (arith, d.there))

    pub next_drawn : 0 < u → AtRow M a (suc i) u (t % u) q (p + t / u * q)
    next_drawn h =
        let n = beside M a small i (not_last h) in
        let r = rows_correct M a small in
        record {
          there = not_last h;
          before_is = d.remainder_is ∙ sym (r.next_remainder_before i);
          remainder_is = rw (d.before_is, d.remainder_is) (sym n.left_over);
          denominator_before_is = d.denominator_is ∙ sym (r.next_denominator_before i);
          denominator_is = rw (d.before_is, d.remainder_is, d.denominator_before_is, d.denominator_is) (rw n.drawn at (sym n.joined));
        }
