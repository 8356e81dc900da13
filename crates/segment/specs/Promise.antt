-- What is promised of both searches (the third demand), with the letters of document 01: M the modulus, a the step, b the start, N the count,
-- w the window, P the period. `Promised`, at the end, is all of it; proofs/Promises.antt proves it. Assumes nothing: these are statements.
use Rattle.std.specs.Prelude.{◌≡◌, Bool, true, false, ◌↔◌, ◌⊎◌, ℕ, suc, ◌+◌, ◌^◌, ◌≤◌, ◌<◌, Result, Ok, Err}
use mathlib.Core.List.{List, [], ◌∷◌, Memᴰ}
use Rattle.numbers.specs.Parity.{is_odd}
use Rattle.numbers.specs.Checklist.{Condition, condition, RefusedBy}
use Rattle.numbers.specs.Refusals.{number_of, tested}
use Rattle.numbers.specs.declared.refusals.Refusal.{Refusal}
use Rattle.numbers.specs.declared.refusals.Refusal.TheVariants.{Window}
use Rattle.expansion.specs.Rows.{period}
use Rattle.expansion.specs.Configurations.{Configuration, configuration}
use Rattle.expansion.specs.Configurations as expansion
use Rattle.expansion.specs.Reached.{Search, configurations_of, reached}
use Rattle.expansion.specs.Reached.Search.{regular, fine}
use Rattle.expansion.specs.Promise.{ReachedCorrect}
use Rattle.geometry.specs.Segment.{Segment, residue, Hard}
use Rattle.geometry.specs.Promise.{ResiduesCorrect}
use Rattle.segment.specs.Accepted.{asked, refusal, Accepted}
use Rattle.segment.specs.Search.{verdict, distance}
use Rattle.segment.specs.Answer.{regular_answer, fine_answer, regular_verdict}
use Rattle.segment.specs.State.{regular_next, fine_next, next, state_after}
use Rattle.segment.specs.declared.state.State.{State}
use Rattle.segment.specs.declared.Verdict.{Verdict}
use Rattle.segment.specs.declared.Verdict.TheVariants.{Clear, Possible}
use Rattle.segment.specs.declared.Regular.{Regular}
use Rattle.segment.specs.declared.Fine.{Fine}

-- ---- refusals

-- what is asked of a segment, in this order, with the number of each refusal
abbrev pub Asked : Segment → List Condition
Asked s =
    condition 1 ((2 ≤ s.unit) × (s.unit ≤ 2 ^ 62))
    ∷ condition 2 (s.step < s.unit)
    ∷ condition 3 (s.start < s.unit)
    ∷ condition 4 ((1 ≤ s.count) × (s.count ≤ 1048576))
    ∷ condition 5 ((1 ≤ s.window) × (s.window ≤ s.unit))
    ∷ []

-- a number refuses a segment: its condition is the first that does not hold
abbrev pub RefusedFor : Segment → (number : ℕ) → Type 0
RefusedFor s n = RefusedBy (Asked s) n

-- ---- what is shown

-- a search shows the one argument of least residue below the count reached, that residue, and clear exactly where it is at least the window.
-- Where it is clear, no argument below N is hard; where it is possible, the argument shown is hard if it is below N, and it need not be
pub record ShownCorrect (configurations : List Configuration) (s : Segment) (c : Configuration) (distance argument : ℕ) (verdict : Verdict) : Type 0 where
  pub reached : ReachedCorrect configurations (period s.unit s.step) s.count c
  pub below_count : argument < c.count
  pub residue_is : residue s argument ≡ distance
  pub unique : (x : ℕ) → x < c.count → (x ≡ argument → ⊥) → distance < residue s x
  pub clear : (verdict ≡ Clear) ↔ (s.window ≤ distance)
  pub possible : (verdict ≡ Possible) ↔ (distance < s.window)
  pub none_hard : verdict ≡ Clear → (x : ℕ) → x < s.count → s.window ≤ residue s x
  pub shown_hard : verdict ≡ Possible → argument < s.count → Hard s argument

-- what an answer says, case by case: a refusal has its number alone; what is shown is of an accepted segment. The quotients that a regular
-- search drew are the index of its configuration, and at most 29
unfoldable pub RegularAnswerCorrect : Segment → Result Regular Refusal → Type 0
RegularAnswerCorrect s (Err r) = RefusedFor s (number_of r)
RegularAnswerCorrect s (Ok r) =
    Accepted s
    × ShownCorrect (expansion.regular s.unit s.step) s (configuration r.count r.quotients 0) r.distance r.argument r.verdict
    × (r.quotients ≤ 29)

unfoldable pub FineAnswerCorrect : Segment → Result Fine Refusal → Type 0
FineAnswerCorrect s (Err r) = RefusedFor s (number_of r)
FineAnswerCorrect s (Ok f) =
    Accepted s
    × ShownCorrect (expansion.fine s.unit s.step) s (configuration f.count f.index f.part) f.distance f.argument f.verdict

-- ---- the steps

-- where a search stands: at one of its configurations, with the one argument of least residue below that count, and with that residue
pub record AtConfiguration (k : Search) (s : Segment) (t : State) : Type 0 where
  pub among : Memᴰ (configuration (t.longs + t.shorts) t.index t.part) (configurations_of k s.unit s.step)
  pub below_count : t.argument < t.longs + t.shorts
  pub residue_is : residue s t.argument ≡ t.distance
  pub unique : (x : ℕ) → x < t.longs + t.shorts → (x ≡ t.argument → ⊥) → t.distance < residue s x

-- the steps of a search: from one of its configurations to a later one, to the one that it reaches, within 29. While it is not done, the count of that
-- one is not enough; a step that does not end the search draws one quotient, and so does every step of the regular one
pub record StepsCorrect (k : Search) (s : Segment) : Type 0 where
  pub at_configuration : (n : ℕ) → AtConfiguration k s (state_after k s n)
  pub begins_at_one : (state_after k s 0).longs + (state_after k s 0).shorts ≡ 1
  pub step_is : (n : ℕ) → (state_after k s n).done ≡ false → state_after k s (suc n) ≡ next k (is_odd n) s.count (state_after k s n)
  pub later : (n : ℕ) → (state_after k s n).done ≡ false
      → (state_after k s n).longs + (state_after k s n).shorts < (state_after k s (suc n)).longs + (state_after k s (suc n)).shorts
  pub not_enough : (n : ℕ) → (state_after k s n).done ≡ false → (state_after k s n).longs + (state_after k s n).shorts < s.count
  pub drawn : (n : ℕ) → (state_after k s n).done ≡ false → (state_after k s n).index ≡ n
  pub one_quotient : (n : ℕ) → k ≡ regular → (state_after k s n).done ≡ false → (state_after k s (suc n)).index ≡ suc n
  pub reaches : (n : ℕ) → (state_after k s n).done ≡ true
      → configuration ((state_after k s n).longs + (state_after k s n).shorts) (state_after k s n).index (state_after k s n).part ≡ reached k s.unit s.step s.count
  pub within_29 : (state_after k s 29).done ≡ true

-- ---- one search beside another

-- a segment is cleared by a search that answers clear for it
unfoldable pub RegularClears : Result Regular Refusal → Type 0
RegularClears (Err e) = ⊥
RegularClears (Ok r) = r.verdict ≡ Clear

unfoldable pub FineClears : Result Fine Refusal → Type 0
FineClears (Err e) = ⊥
FineClears (Ok f) = f.verdict ≡ Clear

unfoldable pub Cleared : Search → (M a b N w : ℕ) → Type 0
Cleared regular M a b N w = RegularClears (regular_answer M a b N w)
Cleared fine M a b N w = FineClears (fine_answer M a b N w)

-- where a segment is cleared, so is every one of the same line with a count up to its count and a window up to its window: by the same search,
-- and by the fine one. A count of 0 is refused, and so is a window of 0
abbrev pub SmallerCleared : Type 0
SmallerCleared =
    (k : Search) (M a b N w N' w' : ℕ) → 1 ≤ N' → N' ≤ N → 1 ≤ w' → w' ≤ w → Cleared k M a b N w → Cleared k M a b N' w' × Cleared fine M a b N' w'

-- the fine search reaches no more points than the regular one
abbrev pub FineReachesNoMore : Type 0
FineReachesNoMore =
    (M a b N w : ℕ) (r : Regular) (f : Fine) → regular_answer M a b N w ≡ Ok r → fine_answer M a b N w ≡ Ok f
    → f.count ≤ r.count

-- the verdict of a search of an accepted segment is clear exactly where the search clears it, which is where the distance is at least the window, and
-- else possible; the distance is the least residue below the count reached
pub record VerdictsCorrect (k : Search) (M a b N w : ℕ) : Type 0 where
  pub answered : (verdict k (asked M a b N w) ≡ Clear) ↔ Cleared k M a b N w
  pub by_distance : (verdict k (asked M a b N w) ≡ Clear) ↔ (w ≤ distance k (asked M a b N w))
  pub possible : (verdict k (asked M a b N w) ≡ Possible) ↔ (distance k (asked M a b N w) < w)
  pub distance_of : (x : ℕ) × (x < (reached k M a N).count) × (residue (asked M a b N w) x ≡ distance k (asked M a b N w))
  pub distance_least : (x : ℕ) → x < (reached k M a N).count → distance k (asked M a b N w) ≤ residue (asked M a b N w) x
  pub none_hard : verdict k (asked M a b N w) ≡ Clear → (x : ℕ) → x < N → w ≤ residue (asked M a b N w) x

-- a statement of the segment of five numbers, written out
abbrev pub for_segment : (Segment → Type 0) → (M a b N w : ℕ) → Type 0
for_segment P M a b N w = P (record { unit = M; step = a; start = b; count = N; window = w })

-- a segment with a window of 0 has no hard argument: where one was cleared before document 02's 2.3, that was right. Now neither search clears it, and both refuse it by 5
-- where nothing that is asked before the window does
pub record WithoutWindow (M a b N : ℕ) : Type 0 where
  pub none_hard : (x : ℕ) → for_segment (λ s. Hard s x → ⊥) M a b N 0
  pub not_cleared : (k : Search) → Cleared k M a b N 0 → ⊥
  pub refused : 2 ≤ M → M ≤ 2 ^ 62 → a < M → b < M → 1 ≤ N → N ≤ 1048576
      → (refusal (asked M a b N 0) ≡ 5) × (regular_answer M a b N 0 ≡ Err Window) × (fine_answer M a b N 0 ≡ Err Window)

-- all of it: a number refuses exactly where its condition is the first that does not hold
pub record Promised : Type 0 where
  pub residues : (s : Segment) → Accepted s → ResiduesCorrect s
  -- the segment of a call has the call's numbers
  pub asked_is : (M a b N w : ℕ) → for_segment (λ s. asked M a b N w ≡ s) M a b N w
  pub accepted : (M a b N w : ℕ) → for_segment (λ s. (refusal s ≡ 0) ↔ Accepted s) M a b N w
  -- a segment is accepted exactly where its five numbers are within 01's bounds, as 02 changes them
  pub accepted_is : (M a b N w : ℕ)
      → for_segment Accepted M a b N w
      ↔ ((2 ≤ M) × (M ≤ 2 ^ 62) × (a < M) × (b < M) × (1 ≤ N) × (N ≤ 1048576) × (1 ≤ w) × (w ≤ M))
  pub refused : (M a b N w n : ℕ) → for_segment (λ s. (refusal s ≡ suc n) ↔ RefusedFor s (suc n)) M a b N w
  -- and the test answers it by the name that has this number
  pub refused_by_name : (M a b N w : ℕ) (r : Refusal)
      → for_segment (λ s. (tested (refusal s) ≡ Err r) ↔ RefusedFor s (number_of r)) M a b N w
  pub regular_answers : (M a b N w : ℕ) → for_segment (λ s. RegularAnswerCorrect s (regular_answer M a b N w)) M a b N w
  pub fine_answers : (M a b N w : ℕ) → for_segment (λ s. FineAnswerCorrect s (fine_answer M a b N w)) M a b N w
  pub regular_refused : (M a b N w : ℕ) (r : Refusal) → for_segment (λ s. (regular_answer M a b N w ≡ Err r) ↔ RefusedFor s (number_of r)) M a b N w
  pub fine_refused : (M a b N w : ℕ) (r : Refusal) → for_segment (λ s. (fine_answer M a b N w ≡ Err r) ↔ RefusedFor s (number_of r)) M a b N w
  pub steps : (k : Search) (s : Segment) → Accepted s → StepsCorrect k s
  -- the step of each search is `regular_next` or `fine_next`, which the contracts of the steps in state.rt cite
  pub step_of : (odd : Bool) (N : ℕ) (t : State) → (next regular odd N t ≡ regular_next odd N t) × (next fine odd N t ≡ fine_next odd N t)
  pub smaller : SmallerCleared
  pub no_more : FineReachesNoMore
  pub verdicts : (k : Search) (M a b N w : ℕ) → for_segment Accepted M a b N w → VerdictsCorrect k M a b N w
  -- no search clears what is refused
  pub cleared_accepted : (k : Search) (M a b N w : ℕ) → Cleared k M a b N w → for_segment Accepted M a b N w
  -- the verdict alone clears exactly what the regular search clears
  pub verdict_alone : (M a b N w : ℕ) → (regular_verdict M a b N w ≡ Clear) ↔ Cleared regular M a b N w
  pub without_window : (M a b N : ℕ) → WithoutWindow M a b N
  -- there is no third verdict
  pub two_verdicts : (v : Verdict) → (v ≡ Clear) ⊎ (v ≡ Possible)
