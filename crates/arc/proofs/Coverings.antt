-- The covering segment of a parabola within its bounds is accepted by both searches; a verdict that clears it leaves no hard argument.
-- Assumes nothing.
use mathlib.Core.Path.{◌≡◌, refl, sym, ◌∙◌, ap}
use mathlib.Core.Logic.{by_cases}
use Prim.Native.Nat.{ℕ, zero, suc, ◌+◌, ◌-◌, ◌≤◌, ◌<◌}
use native.Mathlib.Nat.{mod-lt}
use native.Mathlib.Decide.{dec_le}
use native.Mathlib.Omega.{arith}
use lib.IntN.{ℤ, pos, negsuc}
use Rattle.std.proofs.Common.{Result, Ok, Err}
use Rattle.numbers.specs.declared.refusals.Refusal.{Refusal}
use Rattle.expansion.specs.Reached.{Search}
use Rattle.expansion.specs.Reached.Search.{regular, fine}
use Rattle.segment.specs.Accepted.{Accepted}
use Rattle.segment.specs.Search.{verdict}
use Rattle.segment.specs.Answer.{fine_answer, fine_shown}
use Rattle.segment.specs.Answer.{regular_verdict as segment_verdict}
use Rattle.segment.specs.declared.Verdict.{Verdict}
use Rattle.segment.specs.declared.Verdict.TheVariants.{Clear, Possible}
use Rattle.segment.specs.declared.Fine.{Fine}
use Rattle.segment.specs.declared.Segment.{Segment}
use Rattle.segment.proofs.Laws.{fine_shows, verdict_shows}
use Rattle.segment.proofs.Promises as segment
use Rattle.parabola.specs.Parabola.{Parabola, InRange, value_at, spread, covering_step, start_over, covering_start, covering_window, covering}
use Rattle.parabola.proofs.Laws.{positive}
use Rattle.parabola.proofs.Promises as parabola_promises
use Rattle.arc.specs.Arc.{parabola, refusal, verdict_with, arc_verdict, covering_segment}
use Rattle.arc.specs.declared.Arc.{Arc}
use Rattle.arc.specs.declared.within.Within.{Within}
use Rattle.arc.proofs.Refusals.{accepted}

module _ {p : Parabola} (range : InRange p) where
  pub covering_accepted : Accepted (covering p)
  unfolding covering_step covering_start covering_window
  covering_accepted = omega (arith, mod-lt (p.unit - p.slope) (positive range), by p.curve, range)
    where
      by : (z : ℤ) → start_over z p.unit p.value (spread p) < p.unit
      by (pos n) = unfold start_over in mod-lt (p.value + spread p) (positive range)
      by (negsuc n) = unfold start_over in range.value_below

  -- a search that clears the covering segment leaves no value below the window
  pub cleared : (k : Search) → verdict k (covering p) ≡ Clear → (x : ℕ) → x < p.count → p.window ≤ value_at p x
  cleared k e x h =
      let c = (parabola_promises.promised).coverings p (positive range) range.slope_below in
      let r = ((segment.promised).verdicts k _ _ _ _ _ covering_accepted).none_hard e x h in
      by_cases (dec_le p.window (value_at p x)) (λ l. l) (λ l. absurd (omega (arith, r, c.covers x h (omega arith))))

-- ---- what the searches answer

module _ {p : Parabola} (range : InRange p) {c : Segment} (e : c ≡ covering_segment p) where
  pub regular_verdict : segment_verdict c.modulus c.step c.start c.count c.window ≡ verdict regular (covering p)
  unfolding covering_segment
  regular_verdict = rw e (verdict_shows _ _ _ _ _ (covering_accepted range))

  fine_answered : fine_answer c.modulus c.step c.start c.count c.window ≡ Ok (fine_shown (covering p))
  unfolding covering_segment
  fine_answered = rw e (fine_shows _ _ _ _ _ (covering_accepted range))

  module _ {r : Result Fine Refusal} (f : r ≡ fine_answer c.modulus c.step c.start c.count c.window) where
    pub fine_unrefused : {n : Refusal} → r ≡ Err n → ⊥
    fine_unrefused g = let h = sym g ∙ f ∙ fine_answered in cc

    pub fine_verdict : {s : Fine} → r ≡ Ok s → s.verdict ≡ verdict fine (covering p)
    unfolding fine_shown
    fine_verdict g = let h = sym g ∙ f ∙ fine_answered in cc

-- ---- the verdict of an arc

-- outside the bounds it is possible
pub never_cleared : (k : Search) (a : Arc) → (InRange (parabola a) → ⊥) → Possible ≡ arc_verdict k a
unfolding arc_verdict
never_cleared k a h = by (refusal (parabola a)) (λ e. h ((accepted (parabola a)).0 e))
  where
    by : (n : ℕ) → (n ≡ 0 → ⊥) → Possible ≡ verdict_with n k (parabola a)
    by zero h = absurd (h refl)
    by (suc n) h = unfold verdict_with in refl

pub verdict_within : (k : Search) (a : Arc) → InRange (parabola a) → arc_verdict k a ≡ verdict k (covering (parabola a))
unfolding arc_verdict verdict_with
verdict_within k a range = rw ((accepted (parabola a)).1 range)

-- within them it is the search's
pub verdict_is : (k : Search) {a : Arc} {v : Verdict} (w : Within) → w.arc ≡ a → v ≡ verdict k (covering (parabola w.arc)) → v ≡ arc_verdict k a
verdict_is k w e f = f ∙ sym (verdict_within k w.arc w.in_range) ∙ ap (arc_verdict k) e
