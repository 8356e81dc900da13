-- A search row by row, whichever it is. Assumes nothing.
use mathlib.Core.Path.{◌≡◌, refl, sym, ◌∙◌, ap, subst}
use mathlib.Core.Bool.{Bool, true, false, not, cond}
use mathlib.Core.Logic.{⊎_elim}
use mathlib.Mathlib.Data.Bool.Basic.{dichotomy}
use Prim.Native.Nat.{ℕ, zero, suc, ◌+◌, ◌-◌}
use native.Mathlib.Nat.{add-zero, add-suc, suc-add}
use native.Mathlib.Omega.{arith}
use Rattle.std.proofs.lemmas.Bool.{cases_lt}
use Rattle.numbers.specs.Parity.{is_odd}
use Rattle.geometry.specs.Segment.{Segment}
use Rattle.segment.specs.Walk.{Walking, after, GoesOn}

module _ {T : Type 0} (w : Walking T) (s : Segment) where
  -- the next state, where it is told whether the search is done
  chosen : (n : ℕ) {b : Bool} → w.done (after w s n) ≡ b
      → after w s (suc n) ≡ cond b (after w s n) (w.next (is_odd n) s.count (after w s n))
  unfolding after
  chosen n e = ap (λ (b : Bool). cond b (after w s n) (w.next (is_odd n) s.count (after w s n))) e

  pub step_is : (n : ℕ) → w.done (after w s n) ≡ false
      → after w s (suc n) ≡ w.next (is_odd n) s.count (after w s n)
  step_is n = chosen n

  pub stays : (n : ℕ) → w.done (after w s n) ≡ true → after w s (suc n) ≡ after w s n
  stays n = chosen n

  stays_on : (n m : ℕ) → w.done (after w s n) ≡ true → after w s (n + m) ≡ after w s n
  stays_on n zero e = rw add-zero
  stays_on n (suc m) e =
      rw (add-suc n m) (let h = stays_on n m e in stays (n + m) (ap w.done h ∙ e) ∙ h)

-- ---- for the loop

-- where a search stands after n rows, and that it goes on
pub record At {T : Type 0} (w : Walking T) (s : Segment) (n : ℕ) (t : T) : Type 0 where
  pub is : t ≡ after w s n
  pub on : w.done t ≡ false

-- 29 rows are enough, and each is allowed
module _ {T : Type 0} {w : Walking T} {Able : ℕ → T → Type 0} {s : Segment}
    (on : GoesOn w Able s) where
  pub done_29 : w.done (after w s 29) ≡ true
  done_29 =
      ⊎_elim (λ e. absurd (omega (arith, on.few 29 e))) (λ e. e)
      (dichotomy (w.done (after w s 29)))

  -- a search that is done stays where it is
  pub ends : (n : ℕ) {t : T} → t ≡ after w s n → w.done t ≡ true → t ≡ after w s 29
  ends n e d =
      ⊎_elim
      (λ h. let left : n + (29 - n) ≡ 29 = omega arith in
      e ∙ sym (rw left at (stays_on w s n (29 - n) (ap w.done (sym e) ∙ d))))
      (λ h. let left : 29 + (n - 29) ≡ n = omega arith in
      e ∙ (rw left at (stays_on w s 29 (n - 29) done_29)))
      (cases_lt n 29)

  pub row_able : {n : ℕ} {t : T} → At w s n t → Able s.count t
  row_able {n} p =
      let able : Able s.count (after w s n) = on.able n (ap w.done (sym p.is) ∙ p.on) in
      subst (Able s.count) (sym p.is) able

-- two rows a turn, the first of them even
begins_even : (i : ℕ) → is_odd (i + i) ≡ false
begins_even zero = refl
begins_even (suc i) = rw (suc-add, add-suc) (rw (begins_even i) refl)

row_taken : {T : Type 0} {w : Walking T} {s : Segment} (n : ℕ) {odd : Bool} {t u : T}
    → At w s n t → is_odd n ≡ odd → u ≡ w.next odd s.count t → u ≡ after w s (suc n)
row_taken {w = w} {s} n p d f =
    f ∙ (rw (d, sym p.is) at (sym (step_is w s n (ap w.done (sym p.is) ∙ p.on))))

module _ {T : Type 0} {w : Walking T} {s : Segment} (i : ℕ) {t u : T} where
  pub even_taken : At w s (i + i) t → u ≡ w.next false s.count t → u ≡ after w s (suc (i + i))
  even_taken p = row_taken (i + i) p (begins_even i)

  pub even_goes_on : {done : Bool} → At w s (i + i) t → u ≡ w.next false s.count t
      → done ≡ w.done u → done ≡ false → At w s (suc (i + i)) u
  even_goes_on p f d e = record { is = even_taken p f; on = sym d ∙ e }

  pub odd_taken : At w s (suc (i + i)) t → u ≡ w.next true s.count t
      → u ≡ after w s ((i + 1) + (i + 1))
  odd_taken p f =
      let turn : suc (suc (i + i)) ≡ (i + 1) + (i + 1) = omega arith in
      rw turn at (row_taken (suc (i + i)) p (ap not (begins_even i)) f)
