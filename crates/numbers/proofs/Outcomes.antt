-- The answer of a call that may refuse, by the number of its checklist. Assumes nothing.
use Rattle.std.proofs.Common.{◌≡◌, ℕ, zero, suc, ◌<◌, List, [], ◌∷◌, ◌++◌, Result, Ok, Err, IsOkAnd, ◌↔◌, refl, sym, ap, subst, ◌∙◌, arith}
use Rattle.numbers.specs.Checklist.{Condition, Check, conditions, first_failing, AllHold, RefusedBy, Numbered}
use Rattle.numbers.specs.Refusals.{number_of, named, outcome, tested, number_in}
use Rattle.numbers.specs.Promise.{RefusalsCorrect}
use Rattle.numbers.specs.declared.refusals.Refusal.{Refusal}
use Rattle.numbers.specs.declared.refusals.Refusal.TheVariants.{Modulus, Step, Start, Count, Window, Curve, Room, Malformed, Argument, Target, Origin}
use Rattle.numbers.proofs.Checklists.{AllNumbers, refused_number, refuses, accepts, refused, accepted, first_of_two}

-- a number of the eleven
abbrev pub IsNamed : (number : ℕ) → Type 0
IsNamed n = number_of (named n) ≡ n

pub refusals_correct : RefusalsCorrect
unfolding named outcome
refusals_correct =
    record {
      numbers = refl;
      back = back;
      shown = λ a. refl;
      refused = refused;
      numbered = λ A r. refl;
      unnumbered = λ a. refl;
      tests = λ n. refl;
    }
  where
    back : (r : Refusal) → named (number_of r) ≡ r
    back = elim [ Modulus ↦ refl | Step ↦ refl | Start ↦ refl | Count ↦ refl | Window ↦ refl | Curve ↦ refl | Room ↦ refl | Malformed ↦ refl | Argument ↦ refl | Target ↦ refl | Origin ↦ refl ]

    refused : {A : Type 0} (r : Refusal) (a : A) → outcome (number_of r) a ≡ Err r
    refused r a = elim r as (λ r. outcome (number_of r) a ≡ Err r) [ Modulus ↦ refl | Step ↦ refl | Start ↦ refl | Count ↦ refl | Window ↦ refl | Curve ↦ refl | Room ↦ refl | Malformed ↦ refl | Argument ↦ refl | Target ↦ refl | Origin ↦ refl ]

module _ {A : Type 0} where
  -- nothing refuses, and the answer is there
  pub outcome_shown : {n : ℕ} (a : A) → n ≡ 0 → outcome n a ≡ Ok a
  unfolding outcome
  outcome_shown a e = rw e refl

  -- an answer is there only where nothing refuses
  pub shown_accepted : (n : ℕ) (a : A) {x : A} → outcome n a ≡ Ok x → n ≡ 0
  unfolding outcome
  shown_accepted zero a e = refl
  shown_accepted (suc n) a e = absurd (grind (arith, e))

  -- where nothing refuses, there is no refusal
  pub not_refused : (a : A) {e : Refusal} → outcome 0 a ≡ Err e → ⊥
  unfolding outcome
  not_refused a h = grind (arith, h)

  -- what is refused is so whatever the answer would be
  pub refused_alike : {B : Type 0} (n : ℕ) (a : A) (b : B) {e : Refusal} → outcome n a ≡ Err e → outcome n b ≡ Err e
  unfolding outcome
  refused_alike zero a b h = absurd (grind (arith, h))
  refused_alike (suc n) a b h = grind (arith, h)

  -- the number of a refusal is the checklist's, where that is one of the eleven
  pub outcome_number : (n : ℕ) (a : A) → (0 < n → IsNamed n) → number_in (outcome n a) ≡ n
  unfolding outcome
  outcome_number zero a h = refl
  outcome_number (suc n) a h = h (omega arith)

  -- what holds of the answer that is there holds where nothing refuses
  pub shown_holds : (n : ℕ) {a : A} (P : A → Type 0) → n ≡ 0 → P a → IsOkAnd (outcome n a) P
  unfolding outcome
  shown_holds n P e p = rw e p

  -- the answer by a checklist: a refusal whose condition is the first that does not hold
  pub outcome_refused : (cs : List Check) (r : Refusal) (a : A) → RefusedBy (conditions cs) (number_of r) → Err r ≡ outcome (first_failing cs) a
  outcome_refused cs r a h = sym (refusals_correct.refused r a) ∙ ap (λ n. outcome n a) (sym (refused cs h))

  -- and what is there where every condition holds
  pub outcome_accepted : (cs : List Check) (a : A) → AllHold (conditions cs) → Ok a ≡ outcome (first_failing cs) a
  outcome_accepted cs a h = sym (outcome_shown a (accepted cs h))

-- a refusal stands, whatever else is asked after it
pub refused_first : {A : Type 0} (cs ds : List Check) (a : A) {e : Refusal} → outcome (first_failing cs) a ≡ Err e
    → outcome (first_failing (cs ++ ds)) a ≡ Err e
refused_first cs ds a {e} h = by (first_failing cs) refl h
  where
    by : (n : ℕ) → first_failing cs ≡ n → outcome n a ≡ Err e → outcome (first_failing (cs ++ ds)) a ≡ Err e
    by zero f h = absurd (not_refused a h)
    by (suc n) f h = ap (λ n. outcome n a) (first_of_two cs ds f (λ z. omega (arith, z))) ∙ h

-- what a checklist refuses by is one of the eleven, where all its numbers are
pub failing_named : (cs : List Check) → AllNumbers IsNamed (conditions cs) → 0 < first_failing cs → IsNamed (first_failing cs)
failing_named cs all h = go (first_failing cs) refl h
  where
    go : (n : ℕ) → first_failing cs ≡ n → 0 < n → IsNamed n
    go zero e h = absurd (omega (arith, h))
    go (suc n) e h = refused_number IsNamed (conditions cs) all ((refuses cs n).0 e)

-- no refusal has the number 0
pub number_positive : (r : Refusal) → 0 < number_of r
number_positive = elim [
  | Modulus ↦ omega arith
  | Step ↦ omega arith
  | Start ↦ omega arith
  | Count ↦ omega arith
  | Window ↦ omega arith
  | Curve ↦ omega arith
  | Room ↦ omega arith
  | Malformed ↦ omega arith
  | Argument ↦ omega arith
  | Target ↦ omega arith
  | Origin ↦ omega arith
]

-- the answer by a checklist: its number
pub failing_number : {A : Type 0} (cs : List Check) (a : A) → AllNumbers IsNamed (conditions cs) → number_in (outcome (first_failing cs) a) ≡ first_failing cs
failing_number cs a all = outcome_number (first_failing cs) a (failing_named cs all)

-- and a refusal is answered exactly where its condition is the first that does not hold
pub outcome_refuses : {A : Type 0} (cs : List Check) (a : A) (r : Refusal) → AllNumbers IsNamed (conditions cs)
    → (outcome (first_failing cs) a ≡ Err r) ↔ RefusedBy (conditions cs) (number_of r)
outcome_refuses cs a r all =
    (λ e. by (number_of r) (number_positive r) (sym (failing_number cs a all) ∙ ap number_in e), λ h. sym (outcome_refused cs r a h))
  where
    by : (n : ℕ) → 0 < n → first_failing cs ≡ n → RefusedBy (conditions cs) n
    by zero h e = absurd (omega (arith, h))
    by (suc n) h e = (refuses cs n).0 e

-- a test that does not refuse has found that nothing does
pub tested_accepted : (n : ℕ) → tested n ≡ Ok tt → n ≡ 0
tested_accepted n e = shown_accepted n tt e

-- numbers of refusals are not 0
pub all_numbered : (cs : List Condition) → AllNumbers IsNamed cs → Numbered cs
all_numbered [] all = tt
all_numbered (c ∷ cs) all = (omega (arith, all.0, number_positive (named c.number)), all_numbered cs all.1)

-- what holds of the answer that is there where every condition holds, and of each refusal whose condition is the first that does not, holds of the answer
pub outcome_by_cases : {A : Type 0} (cs : List Check) (a : A) (P : Result A Refusal → Type 0) → AllNumbers IsNamed (conditions cs)
    → (AllHold (conditions cs) → P (Ok a)) → ((r : Refusal) → RefusedBy (conditions cs) (number_of r) → P (Err r)) → P (outcome (first_failing cs) a)
unfolding outcome
outcome_by_cases cs a P all shown refuse = by (first_failing cs) refl
  where
    by : (n : ℕ) → first_failing cs ≡ n → P (outcome n a)
    by zero e = shown ((accepts cs (all_numbered (conditions cs) all)).0 e)
    by (suc n) e = refuse (named (suc n)) (subst (RefusedBy (conditions cs)) (sym (rw e at (failing_named cs all (omega (arith, e))))) ((refuses cs n).0 e))
