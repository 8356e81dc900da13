-- What either search answers: a refusal, or what its state shows at the end. Assumes nothing.
use mathlib.Core.Path.{◌≡◌, refl, sym, ◌∙◌, ap}
use mathlib.Core.Logic.{◌↔◌}
use Prim.Native.Nat.{ℕ, zero, suc, ◌^◌, ◌≤◌}
use native.Mathlib.Omega.{arith}
use Rattle.std.proofs.Common.{Ok, Err}
use Rattle.numbers.specs.Checklist.{conditions}
use Rattle.numbers.specs.Refusals.{number_of, named, tested}
use Rattle.numbers.specs.declared.refusals.Refusal.{Refusal}
use Rattle.numbers.proofs.Checklists.{AllNumbers, accepts, refuses}
use Rattle.numbers.proofs.Outcomes.{IsNamed, outcome_shown, outcome_refuses, tested_accepted, not_refused}
use Rattle.expansion.specs.Reached.{Search}
use Rattle.expansion.specs.Reached.Search.{regular, fine}
use Rattle.geometry.specs.Segment.{Segment, residue}
use Rattle.segment.specs.Accepted.{asked, checks, refusal, Accepted}
use Rattle.segment.specs.Search.{argument, distance, verdict_at, verdict}
use Rattle.segment.specs.Answer.{regular_shown, fine_shown, regular_answer, fine_answer, regular_verdict_with, regular_verdict}
use Rattle.segment.specs.State.{points, state_after}
use Rattle.segment.specs.Promise.{RefusedFor}
use Rattle.segment.specs.declared.state.State.{State}
use Rattle.segment.specs.declared.Verdict.TheVariants.{Possible}
use Rattle.segment.proofs.Minimum.{least_is}
use Rattle.segment.proofs.Invariant.{Ended}
use Rattle.segment.specs.Walk.{after}
use Rattle.segment.specs.Sketch.{sketch_walk}
use Rattle.segment.specs.declared.sketch.Sketch.{Sketch}
use Rattle.segment.proofs.Stepping.{ended}
use Rattle.segment.proofs.Sketches.{sketch_distance}

-- ---- refusals

-- a segment is accepted exactly where no number refuses it
pub accepted : (s : Segment) → (refusal s ≡ 0) ↔ Accepted s
unfolding refusal
accepted s = let r = accepts (checks s) (omega arith) in (λ e. let h = r.0 e in omega arith, λ a. r.1 (omega arith))

pub refused_for : (s : Segment) (n : ℕ) → (refusal s ≡ suc n) ↔ RefusedFor s (suc n)
unfolding refusal
refused_for s = refuses (checks s)

-- each number of the checklist is that of a refusal
pub all_named : (s : Segment) → AllNumbers IsNamed (conditions (checks s))
unfolding named
all_named s = (refl, (refl, (refl, (refl, (refl, tt)))))

-- the test answers a refusal exactly where its condition is the first that does not hold
pub refused_by_name : (s : Segment) (r : Refusal)
    → (tested (refusal s) ≡ Err r) ↔ RefusedFor s (number_of r)
unfolding refusal
refused_by_name s r = outcome_refuses (checks s) tt r (all_named s)

-- and so do the searches
module _ (M a b N w : ℕ) (r : Refusal) where
  pub regular_refuses : (regular_answer M a b N w ≡ Err r) ↔ RefusedFor (asked M a b N w) (number_of r)
  unfolding regular_answer refusal
  regular_refuses = outcome_refuses (checks (asked M a b N w)) (regular_shown (asked M a b N w)) r (all_named (asked M a b N w))

  pub fine_refuses : (fine_answer M a b N w ≡ Err r) ↔ RefusedFor (asked M a b N w) (number_of r)
  unfolding fine_answer refusal
  fine_refuses = outcome_refuses (checks (asked M a b N w)) (fine_shown (asked M a b N w)) r (all_named (asked M a b N w))

-- the verdict alone is possible then
pub verdict_refused : (M a b N w : ℕ) {r : Refusal} → tested (refusal (asked M a b N w)) ≡ Err r → Possible ≡ regular_verdict M a b N w
unfolding regular_verdict regular_verdict_with
verdict_refused M a b N w e = by (refusal (asked M a b N w)) e
  where
    by : (n : ℕ) {r : Refusal} → tested n ≡ Err r → Possible ≡ regular_verdict_with n (asked M a b N w)
    by zero e = absurd (not_refused tt e)
    by (suc n) e = refl

-- what is not refused is accepted
pub unrefused : (s : Segment) → tested (refusal s) ≡ Ok tt → Accepted s
unrefused s e = (accepted s).0 (tested_accepted (refusal s) e)

-- and an accepted segment is answered with what its search shows
module _ (M a b N w : ℕ) (c : Accepted (asked M a b N w)) where
  pub regular_shows : regular_answer M a b N w ≡ Ok (regular_shown (asked M a b N w))
  unfolding regular_answer
  regular_shows = outcome_shown _ ((accepted (asked M a b N w)).1 c)

  pub verdict_shows : regular_verdict M a b N w ≡ verdict regular (asked M a b N w)
  unfolding regular_verdict regular_verdict_with
  verdict_shows = rw ((accepted (asked M a b N w)).1 c)

  pub fine_shows : fine_answer M a b N w ≡ Ok (fine_shown (asked M a b N w))
  unfolding fine_answer
  fine_shows = outcome_shown _ ((accepted (asked M a b N w)).1 c)

-- ---- the end of a search

-- of an accepted segment, after 29 steps; the window plays no part in them
ended_with : (k : Search) (M a b N w : ℕ) {t : State} → Accepted (asked M a b N w) → t ≡ state_after k (asked M a b N 1) 29 → Ended k (asked M a b N w) t
unfolding residue
ended_with k M a b N w {t} c e =
    let with_1 : Accepted (asked M a b N 1) = omega arith in
    let end : Ended k (asked M a b N 1) t = rw e (ended k with_1) in
    search

-- its points fit a word
pub points_few : (k : Search) (M a b N w : ℕ) {t : State} → Accepted (asked M a b N w) → t ≡ state_after k (asked M a b N 1) 29 → points t ≤ 2 ^ 62
points_few k M a b N w c e = omega (arith, c.unit_within, (ended_with k M a b N w c e).fits)

module _ {k : Search} {s : Segment} {t : State} (e : Ended k s t) where
  argument_is : argument k s ≡ t.argument
  unfolding argument
  argument_is = rw e.label (least_is s (points t) e.least)

  distance_is : distance k s ≡ t.distance
  unfolding distance
  distance_is = ap (residue s) argument_is ∙ sym e.shows

module _ (M a b N w : ℕ) {t : State} (c : Accepted (asked M a b N w)) where
  pub regular_answered : t ≡ state_after regular (asked M a b N 1) 29
      → Ok (record {
        count = points t;
        quotients = t.index;
        distance = t.distance;
        argument = t.argument;
        verdict = verdict_at t.distance w;
      }) ≡ regular_answer M a b N w
  unfolding regular_shown
  regular_answered e = let end = ended_with regular M a b N w c e in rw (regular_shows M a b N w c, end.label, argument_is end, distance_is end)

  pub fine_answered : t ≡ state_after fine (asked M a b N 1) 29
      → Ok (record {
        count = points t;
        index = t.index;
        part = t.part;
        distance = t.distance;
        argument = t.argument;
        verdict = verdict_at t.distance w;
      }) ≡ fine_answer M a b N w
  unfolding fine_shown
  fine_answered e = let end = ended_with fine M a b N w c e in rw (fine_shows M a b N w c, end.label, argument_is end, distance_is end)

-- the verdict by the distance alone
pub verdict_answered : (M a b N w : ℕ) {k : Sketch} → Accepted (asked M a b N w) → k ≡ after sketch_walk (asked M a b N 1) 29
    → verdict_at k.distance w ≡ regular_verdict M a b N w
verdict_answered M a b N w c e =
    let with_1 : Accepted (asked M a b N 1) = omega arith in
    rw (verdict_shows M a b N w c, e, sketch_distance with_1, distance_is (ended_with regular M a b N w c refl))
