-- When each refusal is given: 1 and 2 as in the expansion, then 9 or 10. Assumes nothing.
use Rattle.std.proofs.Common.{◌≡◌, ℕ, zero, suc, ◌^◌, ◌≤◌, ◌<◌, List, [], ◌∷◌, Ok, Err, ◌↔◌, inl, inr, refl, sym, ap, ◌∙◌}
use Rattle.numbers.specs.Checklist.{Check, check, condition, conditions, first_failing, AllHold, RefusedBy, unless_refused}
use Rattle.numbers.specs.Refusals.{named, outcome}
use Rattle.numbers.specs.declared.refusals.Refusal.{Refusal}
use Rattle.numbers.proofs.Checklists.{AllNumbers, accepts}
use Rattle.numbers.proofs.Outcomes.{IsNamed, outcome_shown, shown_accepted, refused_alike, refused_first, all_numbered}
use Rattle.expansion.specs.Rows.{last}
use Rattle.expansion.specs.Answer.{checks, refusal}
use Rattle.expansion.proofs.Promises as expansion
use Rattle.ostrowski.specs.Digits.{digits_of}
use Rattle.ostrowski.specs.Answer.{argument_checks, target_checks, argument_refusal, target_refusal, with_digits, digits_answer}

-- an answer by a checklist is there exactly where every condition holds
pub outcome_shows : {A : Type 0} (cs : List Check) (a x : A) → AllNumbers IsNamed (conditions cs)
    → (outcome (first_failing cs) a ≡ Ok x) ↔ (AllHold (conditions cs) × (x ≡ a))
outcome_shows cs a x all =
    let some = all_numbered (conditions cs) all in (
      λ e.
          let z = shown_accepted (first_failing cs) a e in
          let f = outcome_shown a z in ((accepts cs some).0 z, cc),
      λ h. outcome_shown a ((accepts cs some).1 h.0) ∙ ap Ok (sym h.1),
    )

-- ---- the two checklists

-- each number of theirs is that of a refusal
pub argument_named : (M a x : ℕ) → AllNumbers IsNamed (conditions (argument_checks M a x))
unfolding named
argument_named M a x = (refl, (refl, (refl, tt)))

pub target_named : (M a t : ℕ) → AllNumbers IsNamed (conditions (target_checks M a t))
unfolding named
target_named M a t = (refl, (refl, (refl, tt)))

-- a refused argument is answered by its refusal alone, and any other by its digits
pub digits_or_refusal : (M a x : ℕ)
    → digits_answer M a x
    ≡ outcome (argument_refusal M a x) (with_digits (digits_of M a x) (last M a))
unfolding digits_answer outcome unless_refused
digits_or_refusal M a x = by (argument_refusal M a x) refl
  where
    by : (n : ℕ) → argument_refusal M a x ≡ n
        → digits_answer M a x ≡ outcome n (with_digits (digits_of M a x) (last M a))
    by zero e = rw e refl
    by (suc n) e = rw e refl

-- the modulus or the step is refused, whatever else is asked
module _ {A B : Type 0} (M a : ℕ) (t : A) (b : B) {e : Refusal}
    (h : outcome (refusal M a) t ≡ Err e) where
  pub argument_first : (x : ℕ) → outcome (argument_refusal M a x) b ≡ Err e
  unfolding refusal argument_refusal
  argument_first x =
      refused_first (checks M a) (check 9 _ ∷ []) b (refused_alike (refusal M a) t b h)

  pub target_first : (x : ℕ) → outcome (target_refusal M a x) b ≡ Err e
  unfolding refusal target_refusal
  target_first x =
      refused_first (checks M a) (check 10 _ ∷ []) b (refused_alike (refusal M a) t b h)

-- both are accepted
pub record Accepted (M a : ℕ) : Type 0 where
  pub low : 2 ≤ M
  pub most : M ≤ 2 ^ 62
  pub small : a < M

pub accepts_both : {M a : ℕ} → refusal M a ≡ 0 → Accepted M a
accepts_both {M} {a} e =
    let p = expansion.promised in
    let h = (p.answers M a).accepted.0 (sym (p.refusals M a) ∙ e) in
    record { low = h.0; most = h.1; small = h.2 }

-- and what is asked after them is refused
pub last_refused : {M a k : ℕ} {H : Type 0} → Accepted M a → (H → ⊥)
    → RefusedBy (condition 1 ((2 ≤ M) × (M ≤ 2 ^ 62)) ∷ condition 2 (a < M) ∷ condition k H ∷ []) k
last_refused h n = inr ((h.low, h.most), inr (h.small, inl (refl, n)))
