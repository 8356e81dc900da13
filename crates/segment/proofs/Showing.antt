-- What either search shows of an accepted segment, from the definitions alone: the argument of least residue below the count reached, and that
-- nothing hard hides in a cleared segment. Assumes nothing.
use mathlib.Core.Path.{◌≡◌, refl, sym}
use mathlib.Core.Logic.{◌↔◌, by_cases}
use Prim.Native.Nat.{ℕ, ◌%◌, ◌≤◌, ◌<◌}
use native.Mathlib.Nat.{mod-lt}
use native.Mathlib.Decide.{dec_lt, dec_le, ℕ_discrete}
use native.Mathlib.Omega.{arith}
use borrow.Author.Tests.{le-leb, lt-leb}
use Rattle.expansion.specs.Rows.{period}
use Rattle.expansion.specs.Reached.{Search, configurations_of}
use Rattle.expansion.specs.Promise.{ReachedCorrect}
use Rattle.expansion.proofs.Promises as expansion
use Rattle.geometry.specs.Segment.{Segment, residue}
use Rattle.geometry.proofs.Laws.{distinct, residue_of_remainder}
use Rattle.segment.specs.Accepted.{Accepted}
use Rattle.segment.specs.Search.{reached_in, argument, distance, verdict_at, verdict}
use Rattle.segment.specs.Promise.{ShownCorrect}
use Rattle.segment.specs.declared.Verdict.TheVariants.{Clear, Possible}
use Rattle.segment.proofs.Minimum.{found_best}

module _ (k : Search) {s : Segment} (a : Accepted s) where
  reached_correct : ReachedCorrect (configurations_of k s.unit s.step) (period s.unit s.step) s.count (reached_in k s)
  reached_correct = ((expansion.promised).searches s.unit s.step a.step_below).reaches k s.count

  pub argument_below : argument k s < (reached_in k s).count
  unfolding argument
  argument_below = (found_best s (reached_in k s).count reached_correct.some).below

  pub distance_least : (x : ℕ) → x < (reached_in k s).count → distance k s ≤ residue s x
  unfolding distance argument
  distance_least = (found_best s (reached_in k s).count reached_correct.some).least

  unique : (x : ℕ) → x < (reached_in k s).count → (x ≡ argument k s → ⊥) → distance k s < residue s x
  unfolding distance
  unique x l n =
      let b = argument_below in
      let d = distance_least x l in
      let w = reached_correct.within in
      by_cases (ℕ_discrete (residue s x) (residue s (argument k s)))
      (λ e. absurd
      (by_cases (dec_lt x (argument k s)) (λ h. distinct s a.step_below x (argument k s) h (omega arith) (sym e))
      (λ h. distinct s a.step_below (argument k s) x (omega arith) (omega arith) e)))
      (λ e. omega arith)

  -- where the distance is no less than the window, no residue of an argument below the count is
  pub cleared_none : s.window ≤ distance k s → (x : ℕ) → x < s.count → s.window ≤ residue s x
  cleared_none c x h =
      by_cases (dec_lt x (reached_in k s).count) (λ l. omega (arith, c, distance_least x l))
      (λ l. let p : 0 < period s.unit s.step = omega (arith, reached_correct.some, reached_correct.within) in
      by_cases (dec_le s.count (period s.unit s.step)) (λ e. absurd (omega (arith, h, reached_correct.enough e)))
      (λ e. omega (
        arith,
        c,
        residue_of_remainder s a.step_below x,
        distance_least (x % period s.unit s.step) (omega (arith, mod-lt x p, reached_correct.at_period (omega arith))),
      )))

-- ---- verdicts

pub apart : Clear ≡ Possible → ⊥
apart e = let z : ◌≡◌ {A = ℕ} 0 1 = cc in omega arith

pub verdict_iff : (d w : ℕ) → ((verdict_at d w ≡ Clear) ↔ (w ≤ d)) × ((verdict_at d w ≡ Possible) ↔ (d < w))
unfolding verdict_at
verdict_iff d w =
    by_cases (dec_le w d)
    (λ h. rw (le-leb w d h) ((λ _. h, λ _. refl), (λ e. absurd (apart e), λ l. absurd (omega arith))))
    (λ h. rw (lt-leb w d (omega arith)) ((λ e. absurd (apart (sym e)), λ l. absurd (h l)), (λ _. omega arith, λ _. refl)))

-- ---- all that is shown

pub shown_correct : (k : Search) {s : Segment} → Accepted s
    → ShownCorrect (configurations_of k s.unit s.step) s (reached_in k s) (distance k s) (argument k s) (verdict k s)
unfolding distance
shown_correct k {s} a =
    let v = verdict_iff (distance k s) s.window in
    record {
      reached = reached_correct k a;
      below_count = argument_below k a;
      residue_is = refl;
      unique = unique k a;
      clear = v.0;
      possible = v.1;
      none_hard = λ e. cleared_none k a (v.0.0 e);
      shown_hard = λ e l. (l, v.1.0 e);
    }
