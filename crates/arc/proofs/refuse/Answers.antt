-- `arc::refuse` meets its contract: each return is the first condition that does not hold, or none. Assumes nothing.
use Rattle.std.proofs.Common.{◌≡◌, ◌≤◌, ◌<◌, refl, sym, ◌∙◌, ap, arith, inl, inr, Ok, Err}
use Rattle.std.proofs.lemmas.Result.{err_from_is_err_and}
use lib.IntN.{nat_abs}
use mir.Facts.{to_z-of_z}
use Rattle.numbers.specs.Refusals.{tested}
use Rattle.numbers.specs.declared.refusals.Refusal.TheVariants.{Curve}
use Rattle.numbers.proofs.Outcomes.{refused_first, tested_accepted, outcome_refused, outcome_accepted}
use Rattle.segment.specs.Accepted as segment
use Rattle.segment.proofs.Promises.{promised}
use Rattle.arc.specs.Arc.{asked, line_of, checks, refusal}
use Rattle.parabola.specs.Parabola.{Parabola}
use Rattle.arc.proofs.refuse.Goals as goal
use Rattle.arc.proofs.refuse.Goals.{In_ok-refuse}

module _ (c : In_ok-refuse) where
  abbrev p : Parabola
  p = asked c.args.modulus c.args.value c.args.slope c.args.curve c.args.count c.args.window

  -- the numbers of the segment hold
  held : segment.Accepted (line_of p)
  held = (promised.accepted _ _ _ _ _).0 (tested_accepted _ (sym c.refuse.ensures ∙ c.in_ok-refuse.was))

  curve_refused : 1048576 < nat_abs c.args.curve → Err Curve ≡ tested (refusal p)
  unfolding refusal
  curve_refused h =
      let a = held in
      outcome_refused (checks p) Curve tt
      (inr (omega arith, inr (omega arith, inr (omega arith, inr (omega arith, inr (omega arith, inl (refl, λ l. omega (arith, h, l))))))))

  within : nat_abs c.args.curve ≤ 1048576 → Ok tt ≡ tested (refusal p)
  unfolding refusal
  within h = let a = held in outcome_accepted (checks p) tt (omega (arith, h))

pub returns-in_err-refuse : goal.returns-in_err-refuse
unfolding refusal segment.refusal
returns-in_err-refuse c =
    let e = err_from_is_err_and c.from_residual.result c.from_residual.ensures.1 in
    rw (e.1, e.2) (sym (refused_first (segment.checks _) _ tt (sym c.refuse.ensures ∙ c.in_err-refuse.was)))

pub returns-then-magnitude-gt-LARGEST_CURVE : goal.returns-then-magnitude-gt-LARGEST_CURVE
returns-then-magnitude-gt-LARGEST_CURVE c =
    let size = c.magnitude.ensures ∙ ap nat_abs (to_z-of_z c.ranges.curve) in
    curve_refused (goal.at.returns-then-magnitude-gt-LARGEST_CURVE c).In_ok-refuse (omega (arith, c.if-magnitude-gt-LARGEST_CURVE.true, size))

pub returns : goal.returns
returns c =
    let size = c.magnitude.ensures ∙ ap nat_abs (to_z-of_z c.ranges.curve) in
    within (goal.at.returns c).In_ok-refuse (omega (arith, c.if-magnitude-gt-LARGEST_CURVE.false, size))
