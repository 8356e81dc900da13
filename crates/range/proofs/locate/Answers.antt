-- `range::locate` meets its contract: each return is a case of the definition. Assumes nothing.
use Rattle.std.proofs.Common.{sym, ◌∙◌, arith}
use Rattle.range.proofs.Cases.{at_start, between, ordered, unordered, crossed}
use Rattle.range.proofs.locate.Goals as goal
use Rattle.range.proofs.locate.Goals.{then-hi-lo-via-then-hi-lo, then-hi-lo-via-else-hi-lo+then-not-is_ascending}

pub returns-then-hi-lo : goal.returns-then-hi-lo
returns-then-hi-lo c =
    elim c.then-hi-lo.branch [
      | then-hi-lo-via-then-hi-lo w ↦ at_start (crossed _ _ _ (omega (arith, w.if-hi-lo.true)))
      | then-hi-lo-via-else-hi-lo+then-not-is_ascending w ↦
          at_start (unordered _ _ _ (sym w.is_ascending.ensures ∙ w.if-not-is_ascending.true))
    ]

pub returns : goal.returns
returns c =
    let a = c.args in
    let up = sym c.is_ascending.ensures ∙ c.if-not-is_ascending.false in
    let b = ordered a.lo a.hi a.list.now up (omega (arith, c.if-hi-lo.false)) in
    let starts = c.count_below-start.ensures in
    between b (omega (arith, starts)) (omega (arith, b.forward, starts, c.count_below-end.ensures))
