-- The two laws of a checklist: 0 is answered exactly where every condition holds, and a number exactly where its condition does not hold and
-- every condition before it does. Assumes nothing.
use mathlib.Core.Path.{◌≡◌, refl, sym, subst, ◌∙◌}
use mathlib.Core.List.{List, [], ◌∷◌, ◌++◌}
use mathlib.Core.Logic.{◌↔◌, inl, inr, by_cases}
use Prim.Native.Nat.{ℕ, zero, suc, ◌<◌}
use native.Mathlib.Omega.{arith}
use Rattle.numbers.specs.Checklist.{Condition, Check, conditions, first_failing, AllHold, RefusedBy, Numbered, unless_refused}

module _ (c : Check) (cs : List Check) where
  passed : c.condition.Holds → first_failing (c ∷ cs) ≡ first_failing cs
  unfolding first_failing
  passed p =
      elim c.decided as (λ d. elim d [ yes h ↦ first_failing cs | no h ↦ c.condition.number ] ≡ first_failing cs) [ yes h ↦ refl | no h ↦ absurd (h p) ]

  failed : (c.condition.Holds → ⊥) → first_failing (c ∷ cs) ≡ c.condition.number
  unfolding first_failing
  failed n =
      elim c.decided as (λ d. elim d [ yes h ↦ first_failing cs | no h ↦ c.condition.number ] ≡ c.condition.number)
      [ yes h ↦ absurd (n h) | no h ↦ refl ]

-- where every condition holds, 0
pub accepted : (cs : List Check) → AllHold (conditions cs) → first_failing cs ≡ 0
unfolding first_failing
accepted [] h = refl
accepted (c ∷ cs) h = passed c cs h.0 ∙ accepted cs h.1

-- the number of the first condition that does not hold
pub refused : (cs : List Check) {n : ℕ} → RefusedBy (conditions cs) n → first_failing cs ≡ n
refused [] h = absurd h
refused (c ∷ cs) (inl h) = failed c cs h.1 ∙ sym h.0
refused (c ∷ cs) (inr h) = passed c cs h.0 ∙ refused cs h.1

-- a number is answered exactly where its condition is the first that does not hold
pub refuses : (cs : List Check) (n : ℕ) → (first_failing cs ≡ suc n) ↔ RefusedBy (conditions cs) (suc n)
refuses cs n = (to cs, refused cs)
  where
    to : (cs : List Check) → first_failing cs ≡ suc n → RefusedBy (conditions cs) (suc n)
    to [] e = unfold first_failing in absurd (omega (arith, e))
    to (c ∷ cs) e = by_cases c.decided (λ h. inr (h, to cs (sym (passed c cs h) ∙ e))) (λ h. inl (sym e ∙ failed c cs h, h))

-- 0 is answered exactly where every condition holds
pub accepts : (cs : List Check) → Numbered (conditions cs) → (first_failing cs ≡ 0) ↔ AllHold (conditions cs)
accepts cs some = (to cs some, accepted cs)
  where
    to : (cs : List Check) → Numbered (conditions cs) → first_failing cs ≡ 0 → AllHold (conditions cs)
    to [] some e = tt
    to (c ∷ cs) some e =
        by_cases c.decided (λ h. (h, to cs some.1 (sym (passed c cs h) ∙ e))) (λ h. absurd (omega (arith, some.0, sym (failed c cs h) ∙ e)))

-- ---- one checklist after another

pub first_of_two : (cs ds : List Check) {n : ℕ} → first_failing cs ≡ n → (n ≡ 0 → ⊥) → first_failing (cs ++ ds) ≡ n
unfolding first_failing
first_of_two [] ds e z = absurd (z (sym e))
first_of_two (c ∷ cs) ds e z =
    by_cases c.decided
    (λ h. passed c (cs ++ ds) h ∙ first_of_two cs ds (sym (passed c cs h) ∙ e) z)
    (λ h. failed c (cs ++ ds) h ∙ sym (failed c cs h) ∙ e)

pub second_of_two : (cs ds : List Check) → AllHold (conditions cs) → first_failing (cs ++ ds) ≡ first_failing ds
second_of_two [] ds h = refl
second_of_two (c ∷ cs) ds h = passed c (cs ++ ds) h.0 ∙ second_of_two cs ds h.1

-- where a condition does not hold, nothing after it matters, nor how it is put
pub same_failing : (cs : List Check) (c d : Check) (es fs : List Check) → c.condition.number ≡ d.condition.number → (c.condition.Holds → ⊥)
    → (d.condition.Holds → ⊥) → first_failing (cs ++ c ∷ es) ≡ first_failing (cs ++ d ∷ fs)
same_failing [] c d es fs e m n = failed c es m ∙ e ∙ sym (failed d fs n)
same_failing (b ∷ cs) c d es fs e m n =
    by_cases b.decided
    (λ h. passed b (cs ++ c ∷ es) h ∙ same_failing cs c d es fs e m n ∙ sym (passed b (cs ++ d ∷ fs) h))
    (λ h. failed b (cs ++ c ∷ es) h ∙ sym (failed b (cs ++ d ∷ fs) h))

-- a condition that holds may be left out
pub without_holding : (cs : List Check) (c : Check) (ds : List Check) → c.condition.Holds → first_failing ((cs ++ (c ∷ [])) ++ ds) ≡ first_failing (cs ++ ds)
without_holding [] c ds h = passed c ds h
without_holding (k ∷ cs) c ds h =
    by_cases k.decided
    (λ l. passed k ((cs ++ (c ∷ [])) ++ ds) l ∙ without_holding cs c ds h ∙ sym (passed k (cs ++ ds) l))
    (λ l. failed k ((cs ++ (c ∷ [])) ++ ds) l ∙ sym (failed k (cs ++ ds) l))

-- nothing refuses in both exactly where nothing does in either
pub neither_refuses : (cs ds : List Check) → Numbered (conditions cs) → (first_failing (cs ++ ds) ≡ 0) ↔ ((first_failing cs ≡ 0) × (first_failing ds ≡ 0))
neither_refuses cs ds some = (λ e. to (first_failing cs) refl e, λ h. second_of_two cs ds ((accepts cs some).0 h.0) ∙ h.1)
  where
    to : (n : ℕ) → first_failing cs ≡ n → first_failing (cs ++ ds) ≡ 0 → (first_failing cs ≡ 0) × (first_failing ds ≡ 0)
    to zero f e = (f, sym (second_of_two cs ds ((accepts cs some).0 f)) ∙ e)
    to (suc n) f e = absurd (omega (arith, e, first_of_two cs ds f (λ z. omega (arith, z))))

-- a number that refuses does so whatever else is asked after it
pub refused_before : (cs ds : List Condition) (n : ℕ) → RefusedBy cs n → RefusedBy (cs ++ ds) n
refused_before [] ds n h = absurd h
refused_before (c ∷ cs) ds n (inl h) = inl h
refused_before (c ∷ cs) ds n (inr h) = inr (h.0, refused_before cs ds n h.1)

-- no number that refuses is 0
pub refused_positive : (cs : List Condition) {n : ℕ} → Numbered cs → RefusedBy cs n → 0 < n
refused_positive [] some h = absurd h
refused_positive (c ∷ cs) some (inl h) = omega (arith, some.0, h.0)
refused_positive (c ∷ cs) some (inr h) = refused_positive cs some.1 h.1

-- and what holds of every number of the list holds of it
abbrev pub AllNumbers : (P : ℕ → Type 0) → List Condition → Type 0
AllNumbers P [] = Unit
AllNumbers P (c ∷ cs) = P c.number × AllNumbers P cs

pub refused_number : (P : ℕ → Type 0) (cs : List Condition) {n : ℕ} → AllNumbers P cs → RefusedBy cs n → P n
refused_number P [] all h = absurd h
refused_number P (c ∷ cs) all (inl h) = subst P (sym h.0) all.0
refused_number P (c ∷ cs) all (inr h) = refused_number P cs all.1 h.1

-- a checklist gives a number that is not 0 exactly where that number refuses
pub gives : (cs : List Check) → Numbered (conditions cs) → (n : ℕ) → ((first_failing cs ≡ n) × (n ≡ 0 → ⊥)) ↔ RefusedBy (conditions cs) n
gives cs some n = (to n, λ f. (refused cs f, λ z. omega (arith, z, refused_positive (conditions cs) some f)))
  where
    to : (n : ℕ) → (first_failing cs ≡ n) × (n ≡ 0 → ⊥) → RefusedBy (conditions cs) n
    to zero h = absurd (h.1 refl)
    to (suc n) h = (refuses cs n).0 h.0

-- ---- buffers

pub unrefused_new : {n : ℕ} {A : Type 0} (new old : A) → n ≡ 0 → unless_refused n new old ≡ new
unfolding unless_refused
unrefused_new new old e = rw e

pub refused_old : (n : ℕ) {A : Type 0} (new old : A) → (n ≡ 0 → ⊥) → unless_refused n new old ≡ old
unfolding unless_refused
refused_old zero new old h = absurd (h refl)
refused_old (suc n) new old h = refl
