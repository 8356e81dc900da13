-- The invariant of both searches. While a search runs it stands at the first configuration of a row: what is still to be reached from that row on,
-- that its count is not enough, and that the counts have grown as the Fibonacci numbers. When it is done it has what is answered.
-- Assumes nothing.
use mathlib.Core.Path.{◌≡◌, refl, sym, ◌∙◌}
use mathlib.Core.Bool.{Bool, true, false, false≢true}
use mathlib.Core.Logic.{by_cases}
use Prim.Native.Nat.{ℕ, suc, ◌-◌, ◌*◌, ◌≤◌, ◌<◌}
use native.Mathlib.Nat.{mul-le-mul_left}
use native.Mathlib.Decide.{dec_lt, ℕ_discrete}
use native.Mathlib.Omega.{arith}
use borrow.Author.Tests.{le-leb, lt-leb, eq-eqb, ne_eqb}
use Rattle.numbers.proofs.Fibonacci.{fib, fib_zero, fib_one, fib_mono, fib_31}
use Rattle.expansion.specs.Configurations.{configuration}
use Rattle.expansion.specs.Reached.{Search, reached, reached_from}
use Rattle.expansion.proofs.Laws.{one_reached, rows_reached, row_reached}
use Rattle.geometry.specs.Segment.{Segment, residue}
use Rattle.geometry.specs.TwoLength.{Position, Least}
use Rattle.geometry.proofs.Laws.{whole, short_positive, long_positive, first_position, least, cut_even, stay_odd, move_odd, residue_start}
use Rattle.segment.specs.Accepted.{Accepted}
use Rattle.segment.specs.Search.{reached_in}
use Rattle.segment.specs.State.{points, first_state, advanced_left, highest_cut, cut_state}
use Rattle.segment.specs.declared.state.State.{State}
use Rattle.segment.proofs.Advancing.{short_gap, left_alone, moved}

-- ---- a state stands in a configuration

abbrev pub StateHolds : Segment → (odd : Bool) → State → Type 0
StateHolds s odd t = Position s odd t.long t.short t.longs t.shorts t.argument t.distance

-- there are no more points than the unit
pub points_fit : {s : Segment} {odd : Bool} (t : State) → StateHolds s odd t → points t ≤ s.unit
points_fit t p =
    omega (
      arith,
      whole p.lengths,
      mul-le-mul_left t.longs (long_positive p.lengths),
      mul-le-mul_left t.shorts (short_positive p.lengths),
    )

-- j cuts keep a state standing
pub cut_holds : (s : Segment) (odd : Bool) (t : State) → StateHolds s odd t → (j : ℕ) → j * t.short < t.long → StateHolds s odd (cut_state odd j t)
unfolding cut_state
cut_holds s false t p j fits = unfold advanced_left in cut_even p j fits
cut_holds s true t p j fits =
    by_cases (dec_lt t.argument t.longs)
    (λ l. by_cases (dec_lt t.distance (t.long - j * t.short)) (λ h. rw (← left_alone j t refl h) (stay_odd p j fits (λ _. h)))
    (λ h. rw (← moved j t l refl (omega arith)) (unfold highest_cut in move_odd p j fits l (omega arith))))
    (λ l. rw (← short_gap j t (omega arith)) (stay_odd p j fits (λ h. absurd (l h))))

-- a state at the configuration that a search reaches, with the argument of least residue below its count
pub record Ended (k : Search) (s : Segment) (t : State) : Type 0 where
  pub least : Least s (points t) t.argument
  pub shows : t.distance ≡ residue s t.argument
  pub label : reached_in k s ≡ configuration (points t) t.index t.part
  pub fits : points t ≤ s.unit

pub ended_at : {k : Search} {s : Segment} {odd : Bool} (t : State) → StateHolds s odd t → reached_in k s ≡ configuration (points t) t.index t.part
    → Ended k s t
ended_at t p e = record { least = least p; shows = p.shows; label = e; fits = points_fit t p }

-- ---- the invariant

-- at the first configuration of a row that is not the last
pub record Running (k : Search) (s : Segment) (odd : Bool) (t : State) : Type 0 where
  pub accepted : Accepted s
  pub holds : StateHolds s odd t
  pub falls : t.short < t.long
  pub below : points t < s.count
  pub part_is : t.part ≡ 0
  -- whatever the count, as long as it is not below the points: so that this is one of the search's configurations
  pub to_go : (n : ℕ) → points t ≤ n → reached k s.unit s.step n ≡ reached_from k n t.index t.long t.short t.shorts t.longs
  pub grown : fib (suc t.index) ≤ t.longs
  pub grown_before : fib t.index ≤ t.shorts

pub record SearchInvariant (k : Search) (s : Segment) (odd : Bool) (t : State) : Type 0 where
  pub ended : t.done ≡ true → Ended k s t
  pub running : t.done ≡ false → Running k s odd t

module _ {k : Search} {s : Segment} {odd : Bool} {t : State} where
  pub ends_here : Ended k s t → t.done ≡ true → SearchInvariant k s odd t
  ends_here f d = record { ended = λ _. f; running = λ e. absurd (false≢true (sym e ∙ d)) }

  pub runs : Running k s odd t → t.done ≡ false → SearchInvariant k s odd t
  runs r d = record { ended = λ e. absurd (false≢true (sym d ∙ e)); running = λ _. r }

-- ---- 29 rows are enough

-- a row whose count is below an accepted one is one of the first 29
pub row_few : {k : Search} {s : Segment} {odd : Bool} {t : State} → Running k s odd t → t.index < 29
row_few {t = t} r =
    by_cases (dec_lt t.index 29) (λ l. l)
    (λ l. absurd (omega (arith, fib_31, fib_mono {n = 29} {k = t.index} (omega arith), fib_mono {n = 30} {k = suc t.index} (omega arith))))

-- ---- the start

module _ (k : Search) (s : Segment) (a : Accepted s) where
  abbrev start : State
  start = first_state s.unit s.step s.start s.count

  begins_ended : reached_in k s ≡ configuration 1 0 0 → Ended k s start
  begins_ended e =
      record {
        least = record { below = omega arith; unique = λ y l n. absurd (n (omega arith)) };
        shows = sym (residue_start s a.start_below);
        label = e;
        fits = omega (arith, a.unit_within);
      }

  begins_running : 0 < s.step → 1 < s.count → Running k s false start
  begins_running h l =
      record {
        accepted = a;
        holds = first_position h a.step_below a.start_below;
        falls = a.step_below;
        below = omega arith;
        part_is = refl;
        to_go = λ n _. rows_reached k s.unit s.step n a.step_below h;
        grown = omega (arith, fib_one);
        grown_before = omega (arith, fib_zero);
      }

  pub begins : {t : State} → t ≡ start → SearchInvariant k s false t
  begins e =
      rw e
      (by_cases (ℕ_discrete s.step 0)
      (λ z. ends_here (begins_ended (one_reached k s.unit s.step s.count a.step_below z)) (rw (eq-eqb s.step 0 z)))
      (λ n. let h : 0 < s.step = omega arith in
      let first = rows_reached k s.unit s.step s.count a.step_below h in
      by_cases (dec_lt 1 s.count) (λ l. runs (begins_running h l) (rw (ne_eqb s.step 0 n, lt-leb s.count 1 l)))
      (λ l. ends_here (begins_ended (first ∙ row_reached k s.count 0 s.unit s.step 0 1 a.step_below h (omega arith)))
      (rw (ne_eqb s.step 0 n, le-leb s.count 1 (omega arith))))))
