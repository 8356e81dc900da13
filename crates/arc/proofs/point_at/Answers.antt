-- `arc::point_at` meets its contract. Assumes nothing.
use Rattle.std.proofs.Common.{◌∙◌, arith}
use Rattle.arc.proofs.Points.{point_within, none_outside}
use Rattle.arc.proofs.point_at.Goals as goal

pub returns-in_err-within : goal.returns-in_err-within
returns-in_err-within c = c.from_residual.ensures ∙ none_outside _ _ (λ range h. c.in_err-within.ensures range)

pub returns-then-arc-x : goal.returns-then-arc-x
returns-then-arc-x c = none_outside _ _ (λ range h. omega (arith, c.if-arc-x.true, h))

pub returns : goal.returns
returns c =
    let within = c.in_ok-within in
    point_within within.within within.ensures _ (omega (arith, c.if-arc-x.false)) c.point.ensures
