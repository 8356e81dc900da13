-- All that is promised of arcs. Assumes nothing.
use mathlib.Core.Path.{◌≡◌, refl, sym, ◌∙◌}
use Prim.Native.Nat.{ℕ, zero, suc}
use native.Mathlib.Omega.{arith}
use Rattle.expansion.specs.Reached.{Search}
use Rattle.segment.specs.declared.Verdict.TheVariants.{Clear}
use Rattle.parabola.specs.Parabola.{triangle, value_at, slope_at}
use Rattle.arc.specs.Arc.{parabola, refusal, verdict_with, arc_verdict}
use Rattle.arc.specs.Promise.{ArcCorrect, Promised}
use Rattle.arc.specs.declared.Arc.{Arc}
use Rattle.arc.proofs.Refusals.{accepted, refused, by_name}
use Rattle.arc.proofs.Coverings.{covering_accepted, cleared, verdict_within}
use Rattle.arc.proofs.Points.{inside, outside}

-- what is cleared is within the bounds
clear_within : (k : Search) (a : Arc) → arc_verdict k a ≡ Clear → refusal (parabola a) ≡ 0
unfolding arc_verdict
clear_within k a e = by (refusal (parabola a)) e
  where
    by : (n : ℕ) → verdict_with n k (parabola a) ≡ Clear → n ≡ 0
    by zero e = omega arith
    by (suc n) e = unfold verdict_with in absurd (let z : ◌≡◌ {A = ℕ} 0 1 = cc in omega arith)

arc_correct : (a : Arc) → ArcCorrect a
unfolding value_at slope_at triangle
arc_correct a =
    record {
      numbers = (refl, refl, refl, refl, refl);
      highest = λ v. (λ h. omega arith, λ h. omega arith);
      point_is = λ x range. refl;
      inside = λ x range h. inside a x ((accepted (parabola a)).1 range) h;
      outside = λ x. (
        λ e range h. (outside a x).0 e ((accepted (parabola a)).1 range) h,
        λ n. (outside a x).1 (λ e h. n ((accepted (parabola a)).0 e) h),
      );
      verdict_is = λ k. verdict_within k a;
      clear = λ k e. let range = (accepted (parabola a)).0 (clear_within k a e) in
          (range, λ x h. omega (arith, h.1, cleared range k (sym (verdict_within k a range) ∙ e) x h.0));
    }

pub promised : Promised
promised =
    record {
      asked_is = λ M c0 c1 s N w. refl;
      refusals = λ p. record { refused = refused p; accepted = accepted p; by_name = by_name p };
      searched = λ p range. record {
        covering_accepted = covering_accepted range;
        cleared = λ k e x h. omega (arith, h.1, cleared range k e x h.0);
      };
      arcs = arc_correct;
    }
