-- What is answered for a point: within the bounds the value and the slope there, elsewhere none. Assumes nothing.
use mathlib.Core.Path.{◌≡◌, refl, sym, ◌∙◌, ap}
use mathlib.Core.List.{[], ◌∷◌}
use mathlib.Core.Logic.{◌↔◌}
use Prim.Native.Nat.{ℕ, zero, suc, ◌<◌}
use native.Mathlib.Decide.{dec_lt}
use native.Mathlib.Omega.{arith}
use Rattle.numbers.specs.Checklist.{check, first_failing}
use Rattle.numbers.proofs.Checklists.{accepts, neither_refuses}
use Rattle.std.specs.Prelude.{Some, None}
use Rattle.arc.specs.Arc.{parabola, checks, refusal, argument_checks, point, point_with, point_answer}
use Rattle.parabola.specs.Parabola.{InRange}
use Rattle.arc.specs.declared.Arc.{Arc}
use Rattle.arc.specs.declared.Point.{Point}
use Rattle.arc.specs.declared.within.Within.{Within}
use Rattle.arc.proofs.Refusals.{accepted}

module _ (a : Arc) (x : ℕ) where
  -- nothing refuses exactly where x is an argument of an arc within the bounds
  unrefused : (first_failing (argument_checks (parabola a) x) ≡ 0) ↔ ((refusal (parabola a) ≡ 0) × (x < a.count))
  unfolding refusal
  unrefused =
      let r = neither_refuses (checks (parabola a)) (check 7 (dec_lt x a.count) ∷ []) (omega arith) in
      let m = accepts (check 7 (dec_lt x a.count) ∷ []) (omega arith) in
      (λ e. let h = r.0 e in (h.0, (m.0 h.1).0), λ h. r.1 (h.0, m.1 (h.1, tt)))

  pub inside : refusal (parabola a) ≡ 0 → x < a.count → point_answer a x ≡ Some (point (parabola a) x)
  unfolding point_answer point_with
  inside e h = rw (unrefused.1 (e, h))

  pub outside : (point_answer a x ≡ None) ↔ (refusal (parabola a) ≡ 0 → x < a.count → ⊥)
  unfolding point_answer
  outside = (λ e f h. to (first_failing (argument_checks (parabola a) x)) (unrefused.1 (f, h)) e, λ n. from (first_failing (argument_checks (parabola a) x)) refl n)
    where
      to : (k : ℕ) → k ≡ 0 → point_with k (parabola a) x ≡ None → ⊥
      to zero z e = unfold point_with in cc
      to (suc k) z e = omega (arith, z)

      from : (k : ℕ) → first_failing (argument_checks (parabola a) x) ≡ k → (refusal (parabola a) ≡ 0 → x < a.count → ⊥) → point_with k (parabola a) x ≡ None
      from zero e n = let h = unrefused.0 e in absurd (n h.0 h.1)
      from (suc k) e n = unfold point_with in refl

-- as the code finds them
pub point_within : {a : Arc} (w : Within) → w.arc ≡ a → (x : ℕ) → x < a.count → {p : Point} → p ≡ point (parabola w.arc) x → Some p ≡ point_answer a x
point_within w e x h f = ap Some f ∙ sym (inside w.arc x ((accepted (parabola w.arc)).1 w.in_range) (rw e h)) ∙ ap (λ (a : Arc). point_answer a x) e

pub none_outside : (a : Arc) (x : ℕ) → (InRange (parabola a) → x < a.count → ⊥) → None ≡ point_answer a x
none_outside a x n = sym ((outside a x).1 (λ e. n ((accepted (parabola a)).0 e)))
