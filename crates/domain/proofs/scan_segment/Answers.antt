-- `domain::scan_segment` meets its contract: the segment is scanned as a parabola without a curve. Assumes nothing.
use Rattle.std.proofs.Common.{List, sym, ◌∙◌, ap, arith, ◌≤◌, ◌≡◌, ℕ, length, min, Ok}
use Rattle.std.proofs.lemmas.Result.{err_from_is_err_and}
use Rattle.numbers.specs.Refusals.{tested}
use Rattle.numbers.proofs.Outcomes.{tested_accepted}
use Rattle.geometry.specs.Segment.{hard_list}
use Rattle.segment.specs.Accepted.{asked, Accepted, refusal}
use Rattle.segment.proofs.Promises as segment
use Rattle.parabola.specs.Parabola.{Parabola}
use Rattle.parabola.proofs.Promises as parabola
use Rattle.domain.specs.Answer.{scan_answer, scan_list_after, scan_values_after}
use Rattle.domain.proofs.Answers.{Room, scan_refused, scan_too_few, scan_listed}
use Rattle.domain.proofs.scan_segment.Goals as goal
use Rattle.domain.proofs.scan_segment.Goals.{After-count_hard-listed}

-- a segment that is not refused
taken_on : {M a b N w : ℕ} → tested (refusal (asked M a b N w)) ≡ Ok tt → Accepted (asked M a b N w)
taken_on e = ((segment.promised).accepted _ _ _ _ _).0 (tested_accepted _ e)

-- there is room
room : (xs : List ℕ) {places number m n : ℕ} → places ≡ min m n → number ≤ places → number ≡ length xs → Room xs m n
room xs p h f = (omega (arith, p, h, f), omega (arith, p, h, f))

module _ (c : After-count_hard-listed) where
  accepted : Accepted (asked c.args.segment.modulus c.args.segment.step c.args.segment.start c.args.segment.count c.args.segment.window)
  accepted = taken_on (sym c.refuse.ensures ∙ c.in_ok-refuse.was)

  -- as many hard arguments are counted as it has
  counted : c.count_hard-listed.result ≡ length (hard_list (asked c.args.segment.modulus c.args.segment.step c.args.segment.start c.args.segment.count c.args.segment.window))
  counted = (rw c.line-line.ensures.made at c.count_hard-listed.ensures) ∙ ap length ((parabola.promised).lines _ accepted.step_below).lists

pub line-line-requires : goal.line-line-requires
line-line-requires c = taken_on (sym c.refuse.ensures ∙ c.in_ok-refuse.was)

pub returns-in_err-refuse : goal.returns-in_err-refuse
unfolding scan_answer scan_list_after scan_values_after
returns-in_err-refuse c =
    let e = err_from_is_err_and c.from_residual.result c.from_residual.ensures.1 in
    let l = scan_refused _ c.args.list.now c.args.values.now (sym c.refuse.ensures ∙ c.in_err-refuse.was) in
    record { value = rw (e.1, e.2) l.value; list_after = l.list_after; values_after = l.values_after }

pub returns-then-places-listed : goal.returns-then-places-listed
unfolding scan_answer scan_list_after scan_values_after
returns-then-places-listed c =
    let at = (goal.at.returns-then-places-listed c).After-count_hard-listed in
    scan_too_few _ _ _ (accepted at) (omega (arith, counted at, c.min-places.ensures, c.if-places-listed.true))

pub list_all-requires : goal.list_all-requires
list_all-requires c =
    let at = (goal.at.list_all-requires c).After-count_hard-listed in
    let enough = room _ c.min-places.ensures c.if-places-listed.false (counted at) in
    let count : c.line-line.result.within.arc.count ≡ c.args.segment.count = ap (λ (p : Parabola). p.count) c.line-line.ensures.made in
    record {
      all_hard = sym c.count_hard-listed.ensures ∙ c.if-listed-segment.true ∙ sym count;
      list_room = omega (arith, enough.0, counted at, c.if-listed-segment.true, count);
      values_room = omega (arith, enough.1, counted at, c.if-listed-segment.true, count);
    }

pub list_hard-requires : goal.list_hard-requires
list_hard-requires c =
    let at = (goal.at.list_hard-requires c).After-count_hard-listed in
    let enough = room _ c.min-places.ensures c.if-places-listed.false (counted at) in
    record {
      number_counted = c.count_hard-listed.ensures;
      list_room = omega (arith, enough.0, counted at);
      values_room = omega (arith, enough.1, counted at);
    }

pub returns-then-listed-segment : goal.returns-then-listed-segment
unfolding scan_answer scan_list_after scan_values_after
returns-then-listed-segment c =
    let at = (goal.at.returns-then-listed-segment c).After-count_hard-listed in
    scan_listed _ _ _ (accepted at) (room _ c.min-places.ensures c.if-places-listed.false (counted at)) (counted at)
    (rw c.line-line.ensures.made at c.list_all.ensures.list_after, rw c.line-line.ensures.made at c.list_all.ensures.values_after)

pub returns : goal.returns
unfolding scan_answer scan_list_after scan_values_after
returns c =
    let at = (goal.at.returns c).After-count_hard-listed in
    scan_listed _ _ _ (accepted at) (room _ c.min-places.ensures c.if-places-listed.false (counted at)) (counted at) (
      rw (c.line-line.ensures.made, c.line-line.ensures.begin) at c.list_hard.ensures.list_after,
      rw (c.line-line.ensures.made, c.line-line.ensures.raise) at c.list_hard.ensures.values_after,
    )
