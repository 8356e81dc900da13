-- All that is promised of both searches. Assumes nothing.
use mathlib.Core.Path.{◌≡◌, refl, sym}
use mathlib.Core.Logic.{◌↔◌, ◌⊎◌, inl, inr, ⊎_elim}
use Prim.Native.Nat.{ℕ, zero, suc, ◌≤◌}
use native.Mathlib.Omega.{arith}
use Rattle.expansion.specs.Reached.{Search}
use Rattle.expansion.specs.Reached.Search.{regular, fine}
use Rattle.expansion.specs.Promise.{SearchesCorrect}
use Rattle.expansion.proofs.Promises as expansion
use Rattle.geometry.specs.Segment.{Segment, residue}
use Rattle.geometry.proofs.Promises as geometry
use Rattle.segment.specs.Accepted.{asked, checks, refusal, Accepted}
use Rattle.segment.specs.Search.{reached_in, argument, distance, verdict}
use Rattle.segment.specs.Answer.{regular_shown, fine_shown, regular_answer, fine_answer, regular_verdict_with, regular_verdict}
use Rattle.segment.specs.Promise.{RefusedFor, RegularAnswerCorrect, FineAnswerCorrect, RegularClears, FineClears, Cleared, SmallerCleared, FineReachesNoMore, VerdictsCorrect, WithoutWindow, Promised}
use Rattle.segment.specs.declared.Verdict.{Verdict}
use Rattle.segment.specs.declared.Verdict.TheVariants.{Clear, Possible}
use Rattle.numbers.specs.Refusals.{outcome}
use Rattle.numbers.specs.declared.refusals.Refusal.TheVariants.{Window}
use Rattle.segment.proofs.Answers.{accepted, refused_for, refused_by_name, all_named, regular_refuses, fine_refuses}
use Rattle.numbers.proofs.Outcomes.{outcome_by_cases}
use Rattle.segment.proofs.Stepping.{steps_correct}
use Rattle.segment.proofs.Showing.{apart, argument_below, distance_least, cleared_none, verdict_iff, shown_correct}

-- what the expansion promises of the searches of an accepted segment
searches : {s : Segment} → Accepted s → SearchesCorrect s.unit s.step
searches {s} c = (expansion.promised).searches s.unit s.step c.step_below

-- every segment is accepted, or refused by a number that its condition gives
decide : (s : Segment) → ((refusal s ≡ 0) × Accepted s) ⊎ ((n : ℕ) × (refusal s ≡ suc n) × RefusedFor s (suc n))
decide s = by (refusal s) refl
  where
    by : (n : ℕ) → refusal s ≡ n → ((refusal s ≡ 0) × Accepted s) ⊎ ((n : ℕ) × (refusal s ≡ suc n) × RefusedFor s (suc n))
    by zero e = inl (e, (accepted s).0 e)
    by (suc n) e = inr (n, e, (refused_for s n).0 e)

-- ---- the answers

regular_answers : (M a b N w : ℕ) → RegularAnswerCorrect (asked M a b N w) (regular_answer M a b N w)
unfolding regular_answer regular_shown refusal RegularAnswerCorrect
regular_answers M a b N w =
    outcome_by_cases (checks (asked M a b N w)) (regular_shown (asked M a b N w)) (RegularAnswerCorrect (asked M a b N w)) (all_named (asked M a b N w))
    (λ h. let c : Accepted (asked M a b N w) = omega arith in (
      c,
      rw ((searches c).regular_ones, (searches c).regular_label N) at (shown_correct regular c),
      (searches c).few_quotients N c.count_high,
    ))
    (λ r h. h)

fine_answers : (M a b N w : ℕ) → FineAnswerCorrect (asked M a b N w) (fine_answer M a b N w)
unfolding fine_answer fine_shown refusal FineAnswerCorrect
fine_answers M a b N w =
    outcome_by_cases (checks (asked M a b N w)) (fine_shown (asked M a b N w)) (FineAnswerCorrect (asked M a b N w)) (all_named (asked M a b N w))
    (λ h. let c : Accepted (asked M a b N w) = omega arith in (c, rw (searches c).fine_ones at (shown_correct fine c)))
    (λ r h. h)

-- ---- one search beside another

-- an accepted segment is cleared exactly where its verdict is clear
cleared_iff : (k : Search) (M a b N w : ℕ) → Accepted (asked M a b N w) → (verdict k (asked M a b N w) ≡ Clear) ↔ Cleared k M a b N w
unfolding Cleared outcome regular_answer fine_answer regular_shown fine_shown RegularClears FineClears
cleared_iff regular M a b N w c = rw ((accepted (asked M a b N w)).1 c) (λ e. e, λ e. e)
cleared_iff fine M a b N w c = rw ((accepted (asked M a b N w)).1 c) (λ e. e, λ e. e)

-- and one that is cleared is accepted
cleared_accepted : (k : Search) (M a b N w : ℕ) → Cleared k M a b N w → Accepted (asked M a b N w)
unfolding Cleared outcome regular_answer fine_answer RegularClears FineClears
cleared_accepted regular M a b N w h = ⊎_elim (λ c. c.1) (λ r. absurd (rw r.1 at h)) (decide (asked M a b N w))
cleared_accepted fine M a b N w h = ⊎_elim (λ c. c.1) (λ r. absurd (rw r.1 at h)) (decide (asked M a b N w))

-- a smaller segment that is accepted is cleared by a search that reaches no more points: its distance is a residue that the other has compared
still_cleared : (j k : Search) (M a b N w N' w' : ℕ) → w' ≤ w → Accepted (asked M a b N w) → w ≤ distance k (asked M a b N w)
    → Accepted (asked M a b N' w') → (reached_in j (asked M a b N' w')).count ≤ (reached_in k (asked M a b N w)).count → Cleared j M a b N' w'
unfolding residue distance
still_cleared j k M a b N w N' w' v c h c' l =
    let x = argument j (asked M a b N' w') in
    let d = distance_least k c x (omega (arith, l, argument_below j c')) in
    (cleared_iff j M a b N' w' c').0 ((verdict_iff (distance j (asked M a b N' w')) w').0.1 (omega arith))

smaller : SmallerCleared
smaller k M a b N w N' w' some n low v h =
    let c = cleared_accepted k M a b N w h in
    let c' : Accepted (asked M a b N' w') = omega arith in
    let d = (verdict_iff (distance k (asked M a b N w)) w).0.0 ((cleared_iff k M a b N w c).1 h) in (
      still_cleared k k M a b N w N' w' v c d c' ((searches c).same_sooner k N N' n),
      still_cleared fine k M a b N w N' w' v c d c' ((searches c).fine_sooner k N N' n),
    )

-- the counts of two answers
no_more : FineReachesNoMore
unfolding outcome regular_answer fine_answer regular_shown fine_shown
no_more M a b N w r f er ef =
    ⊎_elim
    (λ c. let x = rw c.0 at er in
    let y = rw c.0 at ef in
    let n : r.count ≡ (reached_in regular (asked M a b N w)).count = cc in
    let m : f.count ≡ (reached_in fine (asked M a b N w)).count = cc in
    omega (arith, (searches c.1).fine_sooner regular N N (omega arith)))
    (λ c. let x = rw c.1 at er in
    let z : ◌≡◌ {A = ℕ} 0 1 = cc in
    absurd (omega arith))
    (decide (asked M a b N w))

verdict_alone : (M a b N w : ℕ) → (regular_verdict M a b N w ≡ Clear) ↔ Cleared regular M a b N w
unfolding regular_verdict regular_verdict_with
verdict_alone M a b N w =
    ⊎_elim (λ c. rw c.0 (cleared_iff regular M a b N w c.1))
    (λ r. (λ e. absurd (apart (sym (rw r.1 at e))), λ h. let c = (accepted (asked M a b N w)).1 (cleared_accepted regular M a b N w h) in absurd (omega (arith, c, r.1))))
    (decide (asked M a b N w))

verdicts : (k : Search) (M a b N w : ℕ) → Accepted (asked M a b N w) → VerdictsCorrect k M a b N w
verdicts k M a b N w c =
    record {
      answered = cleared_iff k M a b N w c;
      by_distance = (verdict_iff (distance k (asked M a b N w)) w).0;
      possible = (verdict_iff (distance k (asked M a b N w)) w).1;
      distance_of = unfold distance in (argument k (asked M a b N w), argument_below k c, refl);
      distance_least = distance_least k c;
      none_hard = λ e. cleared_none k c ((verdict_iff (distance k (asked M a b N w)) w).0.0 e);
    }

without_window : (M a b N : ℕ) → WithoutWindow M a b N
without_window M a b N =
    record {
      none_hard = λ x h. omega (arith, h.1);
      not_cleared = λ k h. omega (arith, (cleared_accepted k M a b N 0 h).window_low);
      refused = λ l m a< b< n k.
          let r : RefusedFor (asked M a b N 0) 5 = inr ((l, m), inr (a<, inr (b<, inr ((n, k), inl (refl, λ w. omega (arith, w.0)))))) in
          ((refused_for (asked M a b N 0) 4).1 r, (regular_refuses M a b N 0 Window).1 r, (fine_refuses M a b N 0 Window).1 r);
    }

two_verdicts : (v : Verdict) → (v ≡ Clear) ⊎ (v ≡ Possible)
two_verdicts Clear = inl refl
two_verdicts Possible = inr refl

pub promised : Promised
promised =
    record {
      residues = λ s c. (geometry.promised).residues s c.step_below c.start_below;
      asked_is = λ M a b N w. refl;
      accepted = λ M a b N w. accepted (asked M a b N w);
      accepted_is = λ M a b N w. (λ c. omega arith, λ h. omega arith);
      refused = λ M a b N w. refused_for (asked M a b N w);
      refused_by_name = λ M a b N w. refused_by_name (asked M a b N w);
      regular_answers = regular_answers;
      fine_answers = fine_answers;
      regular_refused = regular_refuses;
      fine_refused = fine_refuses;
      steps = λ k s c. steps_correct k c;
      step_of = λ odd N t. (refl, refl);
      smaller = smaller;
      no_more = no_more;
      verdicts = verdicts;
      cleared_accepted = cleared_accepted;
      verdict_alone = verdict_alone;
      without_window = without_window;
      two_verdicts = two_verdicts;
    }
