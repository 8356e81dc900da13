-- Modular division: row by row, as rows are drawn, a remainder is taken off the target as often as it goes, and as many of the row's denominator are added to a sum. In
-- the end the difference of the two sums, modulo the period, has what was taken off as its residue. Assumes nothing.
use mathlib.Core.Path.{◌≡◌, refl, sym, ◌∙◌, ap, subst}
use mathlib.Core.Bool.{Bool, true, false}
use Prim.Native.Nat.{ℕ, suc, ◌+◌, ◌-◌, ◌*◌, ◌/◌, ◌%◌, ◌≤◌, ◌<◌, ◌∣◌}
use native.Mathlib.Nat.{mod-lt, mod-le, mod-eq_of_lt, div-add-mod', le-div_iff_mul-le, mul-le-mul_right, dvd-mod_iff, dvd-mul_left, dvd-mul_right_of_dvd}
use native.Mathlib.Omega.{arith}
use Rattle.numbers.specs.Divisors.{gcd}
use Rattle.numbers.specs.Parity.{is_odd}
use Rattle.numbers.proofs.Congruences.{Congruent, equals, chain, plus, times, cancel, none, remainder, flip, is_remainder, by_remainders}
use Rattle.numbers.proofs.Parity.{ByParity, even_congruent, odd_congruent, nothing, exchanged, added, repeated, restated, mirrored}
use Rattle.numbers.proofs.Remainders.{same_if_divides}
use Rattle.expansion.specs.Rows.{last, denominator_at, period}
use Rattle.expansion.proofs.Promises as expansion
use Rattle.expansion.proofs.Laws.{row_by_parity, AtRow, first_drawn, is_last, next_drawn}

-- at row i, drawn as b and u, p and q: the rest of the target is less than the remainder before; the sums over the rows of this parity and of the other are together less
-- than this row's denominator and the one before; and what is taken off is a times their difference
pub record PartialDivision (M a t i b u p q rest same other : ℕ) : Type 0 where
  pub drawn : AtRow M a i b u p q
  pub rest_below : rest < b
  pub rest_within : rest ≤ t
  pub sums_below : same + other < q + p
  pub agreed : ByParity M (is_odd i) (t - rest) (a * same) (a * other)

-- the difference of two sums, modulo a period
abbrev pub difference_of_sums : (period from taken : ℕ) → ℕ
difference_of_sums P f o = (f + (2 * P - o)) % P

module _ {M a : ℕ} (small : a < M) where
  abbrev P : ℕ
  P = period M a

  pub period_positive : 0 < P
  period_positive = ((expansion.promised).period M a small).positive

  -- numbers that are congruent modulo the period have the same residue
  same_residue : {y z : ℕ} → Congruent P y z → a * y % M ≡ a * z % M
  same_residue {y} {z} c =
      sym (later y c.over) ∙ ap (λ (n : ℕ). a * n % M) c.equal ∙ later z c.under
    where
      later : (y k : ℕ) → a * (y + k * P) % M ≡ a * y % M
      later y k = (((expansion.promised).period M a small).agree y (k * P)).1 (dvd-mul_left P k)

  -- what is a times the difference of two sums modulo M is the residue of that difference modulo the period
  solves : (y f o : ℕ) → y < M → o ≤ 2 * P → Congruent M (y + a * o) (a * f) → a * difference_of_sums P f o % M ≡ y
  solves y f o l h c =
      let g : Congruent P (difference_of_sums P f o + o) f =
      chain (plus (remainder (f + (2 * P - o)) P) (equals {a = o} refl))
      (chain (equals {b = f + P * 2} (omega arith)) (chain (plus (equals {a = f} refl) (times 2 (none P))) (equals (omega arith)))) in
      let e : Congruent M (a * difference_of_sums P f o + a * o) (a * f) =
      chain (equals {b = a * (difference_of_sums P f o + o)} (omega arith)) (by_remainders M (a * (difference_of_sums P f o + o)) (a * f) (same_residue g)) in
      sym (is_remainder l (cancel (a * o) (chain c (flip e))))

  -- a residue is below M and a multiple of gcd(a, M)
  pub residue_possible : (x : ℕ) → (a * x % M < M) × (gcd a M ∣ a * x % M)
  residue_possible x =
      let g = ((expansion.promised).period M a small).divisor in (
        mod-lt (a * x) (omega arith),
        (dvd-mod_iff (gcd a M) g.divides_second).1 (dvd-mul_right_of_dvd (gcd a M) g.divides_first x),
      )

  -- before the first row
  pub start : (t : ℕ) → t < M → PartialDivision M a t 0 M a 0 1 t 0 0
  start t l =
      record {
        drawn = first_drawn small;
        rest_below = l;
        rest_within = omega arith;
        sums_below = omega arith;
        agreed = restated (t - t) (a * 0) (a * 0) (nothing false) (omega arith) (omega arith);
      }

  module _ {t i b u p q rest same other : ℕ} (w : PartialDivision M a t i b u p q rest same other) where
    -- the sums with what row i adds are less than the next two denominators
    pub next_below : 0 < u → same + other + rest / u * q < p + b / u * q + q
    next_below h =
        let k : rest / u ≤ b / u = (le-div_iff_mul-le h).1 (omega (arith, w.rest_below, div-add-mod' rest u)) in
        omega (arith, w.sums_below, mul-le-mul_right q k)

    pub next : 0 < u → PartialDivision M a t (suc i) u (b % u) q (p + b / u * q) (rest % u) other (same + rest / u * q)
    next h =
        let r = w.drawn in
        let k = rest / u in
        let s : ByParity M (is_odd i) (a * q) u 0 =
        rw (r.denominator_is, r.remainder_is) (row_by_parity M a small i r.there) in
        record {
          drawn = next_drawn small r h;
          rest_below = mod-lt rest h;
          rest_within = omega (arith, w.rest_within, mod-le rest u);
          sums_below = omega (arith, next_below h);
          agreed = restated (t - rest % u) (a * other) (a * (same + k * q)) (added (exchanged w.agreed) (repeated k (exchanged (mirrored s))))
              (omega (arith, w.rest_within, div-add-mod' rest u)) (omega arith);
        }

    -- no row is left
    module _ (z : u ≡ 0) where
      last_is : i ≡ last M a
      last_is = is_last small w.drawn z

      pub period_is : q ≡ P
      period_is = w.drawn.denominator_is ∙ ap (denominator_at M a) last_is ∙ sym ((expansion.promised).period M a small).last_denominator

      before_is : b ≡ gcd a M
      before_is = w.drawn.before_is ∙ rw last_is ((expansion.promised).period M a small).last_divisor

      pub end_below : same + other < 2 * P
      end_below =
          omega (
            arith,
            w.sums_below,
            period_is,
            w.drawn.denominator_is,
            w.drawn.denominator_before_is,
            ((expansion.promised).bounded M a small).denominators_not_falling i w.drawn.there,
          )

      -- by the parity of the last row
      pub even_solves : t < M → is_odd i ≡ false → a * difference_of_sums P same other % M ≡ t - rest
      even_solves l e = solves (t - rest) same other (omega arith) (omega (arith, end_below)) (even_congruent w.agreed e)

      pub odd_solves : t < M → is_odd i ≡ true → a * difference_of_sums P other same % M ≡ t - rest
      odd_solves l e = solves (t - rest) other same (omega arith) (omega (arith, end_below)) (odd_congruent w.agreed e)

      -- the argument that is found
      pub record Solution : Type 0 where
        pub argument : ℕ
        pub within : argument < P
        pub solves_it : a * argument % M ≡ t - rest

      pub solution : t < M → Solution
      solution l = by (is_odd i) refl
        where
          by : (o : Bool) → is_odd i ≡ o → Solution
          by false e = record { argument = difference_of_sums P same other; within = mod-lt (same + (2 * P - other)) period_positive; solves_it = even_solves l e }
          by true e = record { argument = difference_of_sums P other same; within = mod-lt (other + (2 * P - same)) period_positive; solves_it = odd_solves l e }

      -- what is left is the remainder of the target by gcd(a, M)
      pub rest_is : t < M → rest ≡ t % gcd a M
      rest_is l =
          let f = solution l in
          let d : gcd a M ∣ t - rest = subst (λ (n : ℕ). gcd a M ∣ n) f.solves_it (residue_possible f.argument).1 in
          let e : rest + (t - rest) ≡ t = omega (arith, w.rest_within) in
          let r : rest < gcd a M = omega (arith, w.rest_below, before_is) in
          sym (mod-eq_of_lt r) ∙ sym (same_if_divides (gcd a M) rest (t - rest) d) ∙ ap (λ (n : ℕ). n % gcd a M) e
