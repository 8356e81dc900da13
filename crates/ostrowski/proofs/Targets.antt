-- Which targets have an argument, and which argument below the period it is. Assumes nothing.
use mathlib.Core.Path.{◌≡◌, sym, ◌∙◌, subst}
use mathlib.Core.Logic.{by_cases}
use Prim.Native.Nat.{ℕ, zero, suc, ◌+◌, ◌-◌, ◌*◌, ◌%◌, ◌≤◌, ◌<◌, ◌∣◌}
use native.Mathlib.Nat.{mod-eq-zero_of_dvd}
use native.Mathlib.Decide.{dec_lt}
use native.Mathlib.Omega.{arith}
use borrow.Author.Tests.{eq-eqb, eqb-true}
use lib.Dec.{eqb}
use Rattle.numbers.specs.Divisors.{gcd}
use Rattle.numbers.proofs.Lists.{member_at, member_place}
use Rattle.numbers.proofs.Selections.{filter_has, filter_only}
use Rattle.expansion.specs.Rows.{last, period}
use Rattle.expansion.proofs.Promises as expansion
use Rattle.ostrowski.specs.Digits.{arguments_of, argument_of}
use Rattle.ostrowski.specs.Promise.{TargetCorrect}
use Rattle.ostrowski.proofs.Division.{PartialDivision, start, next, solution, rest_is, residue_possible}

module _ (M a : ℕ) (small : a < M) where
  -- two arguments below the period that have the same residue are one
  unique : (x y : ℕ) → x < period M a → y < period M a → a * x % M ≡ a * y % M → x ≡ y
  unique x y l k e =
      by_cases (dec_lt x y) (λ h. absurd (differ x y h k e))
      (λ h. by_cases (dec_lt y x) (λ g. absurd (differ y x g l (sym e))) (λ g. omega arith))
    where
      differ : (x y : ℕ) → x < y → y < period M a → a * x % M ≡ a * y % M → ⊥
      differ x y h k e =
          let f : x + (y - x) ≡ y = omega arith in
          ((expansion.promised).period M a small).not_before x (y - x) (omega arith) (omega arith) (rw f (sym e))

  module _ (t : ℕ) where
    pub argument_only : (x : ℕ) → x < period M a → a * x % M ≡ t → x ≡ argument_of M a t
    unfolding argument_of arguments_of
    argument_only x l e =
        let p = member_place 0 x (arguments_of M a t) (filter_has (λ y. eqb (a * y % M) t) (period M a) 0 x (omega arith) (omega arith) (eq-eqb (a * x % M) t e)) in
        let o = filter_only (λ y. eqb (a * y % M) t) (period M a) 0 (argument_of M a t) (member_at 0 (arguments_of M a t) 0 (omega (arith, p.1))) in
        unique x (argument_of M a t) l (omega (arith, o.1)) (e ∙ sym (eqb-true (a * argument_of M a t % M) t o.2))

    -- the target divided over the rows below i
    record DividedTo (i : ℕ) : Type 0 where
      pub before : ℕ
      pub remainder : ℕ
      pub denominator_before : ℕ
      pub denominator : ℕ
      pub rest : ℕ
      pub same : ℕ
      pub other : ℕ
      pub taken : PartialDivision M a t i before remainder denominator_before denominator rest same other

    divided_at : {i b u p q rest same other : ℕ} → PartialDivision M a t i b u p q rest same other → DividedTo i
    divided_at {b = b} {u} {p} {q} {rest} {same} {other} w =
        record { before = b; remainder = u; denominator_before = p; denominator = q; rest = rest; same = same; other = other; taken = w }

    module _ (below : t < M) where
      divided_to : (i : ℕ) → i ≤ last M a → DividedTo i
      divided_to zero l = divided_at (start small t below)
      divided_to (suc i) l =
          let w = (divided_to i (omega arith)).taken in
          divided_at (next small w (omega (arith, w.drawn.remainder_is, ((expansion.promised).rows M a small).not_zero i l)))

      argument_found : gcd a M ∣ t → (x : ℕ) × (x < period M a) × (a * x % M ≡ t)
      argument_found d =
          let w = (divided_to (last M a) (omega arith)).taken in
          let z = w.drawn.remainder_is ∙ ((expansion.promised).rows M a small).last_remainder in
          let f = solution small w z below in
          let r = rest_is small w z below ∙ mod-eq-zero_of_dvd (gcd a M) d in
          (f.argument, f.within, f.solves_it ∙ omega (arith, r))

    possible : (x : ℕ) → a * x % M ≡ t → (t < M) × (gcd a M ∣ t)
    possible x e = subst (λ (n : ℕ). (n < M) × (gcd a M ∣ n)) e (residue_possible small x)

    pub target_correct : TargetCorrect M a t
    target_correct =
        record {
          exists = (λ s. possible s.0 s.2, λ h. argument_found h.0 h.1);
          unique = λ x y l k e f. unique x y l k (e ∙ sym f);
          anywhere = possible;
        }

    -- the argument that is defined is the one
    pub argument_correct : (t < M) × (gcd a M ∣ t) → (argument_of M a t < period M a) × (a * argument_of M a t % M ≡ t)
    argument_correct h =
        let f = argument_found h.0 h.1 in
        subst (λ (n : ℕ). (n < period M a) × (a * n % M ≡ t)) (argument_only f.0 f.1 f.2) (f.1, f.2)
