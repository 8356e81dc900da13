-- The regular search for its distance alone goes through the states of the search. It leaves out
-- the argument, by which an odd row of the search knows whether the start lies in a long gap: the
-- even row before it tells that. Assumes nothing.
use mathlib.Core.Path.{◌≡◌, refl, sym, ◌∙◌, ap}
use mathlib.Core.Bool.{Bool, true, false, not, cond, false≢true}
use mathlib.Core.Logic.{⊎_elim, by_cases}
use mathlib.Mathlib.Data.Bool.Basic.{dichotomy}
use Prim.Native.Nat.{ℕ, zero, suc, ◌+◌, ◌-◌, ◌*◌, ◌/◌, ◌%◌, ◌≤◌, ◌<◌}
use native.Mathlib.Nat.{eq-zero-or-pos, mul-le-mul_right, div-mul-le_self, mod-lt, mod-eq_of_lt, mod-eq-sub-mod}
use native.Mathlib.Decide.{dec_lt, ℕ_discrete}
use native.Mathlib.Omega.{arith}
use borrow.Author.Tests.{le-ltb, lt-ltb, eq-eqb, ne_eqb}
use lib.Dec.{eqb, ltb}
use Rattle.numbers.proofs.Remainders.{quotient_positive}
use Rattle.numbers.specs.Parity.{is_odd}
use Rattle.expansion.specs.Reached.Search.{regular}
use Rattle.segment.specs.Walk.{after, GoesOn}
use Rattle.geometry.specs.Segment.{Segment}
use Rattle.segment.specs.Accepted.{Accepted}
use Rattle.segment.specs.State.{quotient, all_cuts, cut_state, ends, regular_next, walk_of, state_after}
use Rattle.segment.specs.Sketch.{sketch_of, Divisible, next_row, from_lowest_cut, sketch_next, sketch_walk}
use Rattle.segment.specs.declared.state.State.{State}
use Rattle.segment.specs.declared.sketch.Sketch.{Sketch}
use Rattle.segment.proofs.Advancing.{moved_left, moves_few, short_gap, left_alone, moved, by_division}
use Rattle.segment.proofs.Rows.{cuts_exact, cuts_inexact, rest_exact, rest_inexact, leaves_some, divided_ends}
use Rattle.segment.proofs.Invariant.{Running}
use Rattle.segment.proofs.Steps.{positive, falls, steppable}
use Rattle.segment.proofs.Walks.{step_is, stays}
use Rattle.segment.proofs.Stepping.{running_after, goes_on}

-- ---- a row that is the last, and any other

module _ {s : Segment} {odd : Bool} {t : State} (r : Running regular s odd t) where
  -- the same test
  same_end : (d : ℕ) (l m : Bool) → (next_row s.count (sketch_of t l) d m).done ≡ ends s.count t
  same_end d l m = divided_ends (steppable r) refl

  -- where the search goes on, the same row
  same_row : ends s.count t ≡ false → (d : ℕ) (l m : Bool) → d ≡ (regular_next odd s.count t).distance
      → next_row s.count (sketch_of t l) d m ≡ sketch_of (regular_next odd s.count t) m
  unfolding regular_next cut_state
  same_row e d l m f =
      let h = leaves_some t (positive r) (falls r) s.count e in
      let row : next_row s.count (sketch_of t l) d m
      ≡ record {
        long = t.short;
        short = t.long - all_cuts t * t.short;
        longs = t.shorts + all_cuts t * t.longs;
        shorts = t.longs;
        distance = d;
        wide = m;
        done = ends s.count t;
      } = rw (rest_inexact t (positive r) h, cuts_inexact t (positive r) h, divided_ends (steppable r) refl) in
      rw (← f) row

-- ---- the distance after a row

-- all moves from the left leave the remainder
even_distance : {s : Segment} {t : State} → Running regular s false t → t.distance % t.short ≡ (regular_next false s.count t).distance
unfolding regular_next cut_state
even_distance {t = t} r = rw (← moved_left (all_cuts t) t (moves_few refl (steppable r).all))

-- below the lowest cut the distance stays, else it is less by what the cuts leave
pub below_lowest_cut : {d r : ℕ} → d < r → from_lowest_cut d r ≡ d
below_lowest_cut {d} {r} h = rw (lt-ltb d r h) refl

pub above_lowest_cut : {d r : ℕ} → r ≤ d → from_lowest_cut d r ≡ d - r
above_lowest_cut {d} {r} h = rw (le-ltb d r h) refl

-- with nothing left, it stays as well
nothing_cut : {d r : ℕ} → r ≡ 0 → from_lowest_cut d r ≡ d
nothing_cut {d} {r} z = above_lowest_cut {d = d} {r = r} (omega arith) ∙ omega arith

module _ {s : Segment} {t : State} (r : Running regular s true t) where
  -- what all cuts leave of a long gap
  abbrev left : ℕ
  left = t.long - all_cuts t * t.short

  -- where the division leaves nothing of a long gap, the search cuts it once less, and the short
  -- length is left. A distance below what is left stays
  kept_distance : t.distance < left → from_lowest_cut t.distance (t.long % t.short) % t.short ≡ t.distance
  kept_distance h =
      ⊎_elim
      (λ z. rw (nothing_cut {d = t.distance} z) (mod-eq_of_lt (omega (arith, rest_exact t (positive r) (falls r) z))))
      (λ p. rw (below_lowest_cut {d = t.distance} {r = t.long % t.short} (omega (arith, rest_inexact t (positive r) p)))
      (mod-eq_of_lt (omega (arith, rest_inexact t (positive r) p, mod-lt t.long (positive r)))))
      (eq-zero-or-pos (t.long % t.short))

  -- any other is less by what is left; and where that is the short length, the remainder is the
  -- same without it
  less_distance : left ≤ t.distance → from_lowest_cut t.distance (t.long % t.short) % t.short ≡ (t.distance - left) % t.short
  less_distance h =
      ⊎_elim
      (λ z. rw (nothing_cut {d = t.distance} z, rest_exact t (positive r) (falls r) z)
      (mod-eq-sub-mod (omega (arith, rest_exact t (positive r) (falls r) z))))
      (λ p. rw (rest_inexact t (positive r) p) (ap (λ (n : ℕ). n % t.short) (above_lowest_cut (omega (arith, rest_inexact t (positive r) p)))))
      (eq-zero-or-pos (t.long % t.short))

  -- in a short gap it stays
  odd_distance : cond (ltb t.argument t.longs) (from_lowest_cut t.distance (t.long % t.short) % t.short) t.distance
      ≡ (regular_next true s.count t).distance
  unfolding regular_next cut_state
  odd_distance =
      by_cases (dec_lt t.argument t.longs)
      (λ g. rw (lt-ltb t.argument t.longs g)
      (by_cases (dec_lt t.distance left)
      (λ h. rw (← left_alone (all_cuts t) t refl h) (kept_distance h))
      (λ h. let l : left ≤ t.distance = omega arith in
      rw (← moved (all_cuts t) t g refl l, ← by_division (all_cuts t) t refl) (less_distance l))))
      (λ g. let l : t.longs ≤ t.argument = omega arith in rw (le-ltb t.argument t.longs l, ← short_gap (all_cuts t) t l))

-- ---- after an even row

-- the start lies in a long gap of the next row exactly where the point below it has not moved past
-- all cuts
wide_after_even : {s : Segment} {t : State} → Running regular s false t → ends s.count t ≡ false
    → not (eqb (t.distance / t.short) (quotient t)) ≡ ltb (regular_next false s.count t).argument (regular_next false s.count t).longs
unfolding regular_next cut_state
wide_after_even {s} {t} r e =
    let h = leaves_some t (positive r) (falls r) s.count e in
    let same = cuts_inexact t (positive r) h in
    let moves = moves_few refl (steppable r).all in
    rw (← moved_left (all_cuts t) t moves, same)
    (by_cases (ℕ_discrete (t.distance / t.short) (quotient t))
    (λ m. rw (eq-eqb (t.distance / t.short) (quotient t) m) (sym (le-ltb _ _ (past m))))
    (λ n. rw (ne_eqb (t.distance / t.short) (quotient t) n) (sym (lt-ltb _ _ (short_of (omega (arith, same, moves)))))))
  where
    past : t.distance / t.short ≡ quotient t → t.shorts + quotient t * t.longs ≤ t.argument + t.distance / t.short * t.longs
    past m =
        let q = quotient_positive t.long t.short (positive r) (falls r) in
        by_cases (dec_lt t.argument t.shorts)
        (λ l. absurd (omega (
          arith,
          r.holds.shows,
          r.holds.gap.left l,
          div-mul-le_self t.distance t.short,
          mul-le-mul_right t.short (rw (sym m) at q),
        )))
        (λ l. omega (arith, ap (λ (n : ℕ). n * t.longs) m))

    short_of : t.distance / t.short < quotient t → t.argument + t.distance / t.short * t.longs < t.shorts + quotient t * t.longs
    short_of l = omega (arith, r.holds.gap.below, mul-le-mul_right t.longs l)

-- ---- row by row

-- a state, after n rows, and its sketch, while the search goes on. At an odd row the sketch tells
-- whether the start lies in a long gap
record Sketched (s : Segment) (n : ℕ) (k : Sketch) : Type 0 where
  runs : Running regular s (is_odd n) (state_after regular s n)
  wide : Bool
  is : k ≡ sketch_of (state_after regular s n) wide
  wide_is : is_odd n ≡ true
      → wide ≡ ltb (state_after regular s n).argument (state_after regular s n).longs

-- it is done where the search is, and has its distance then
record Follows (s : Segment) (n : ℕ) (k : Sketch) : Type 0 where
  done_is : k.done ≡ (state_after regular s n).done
  distance_is : k.distance ≡ (state_after regular s n).distance
  sketched : k.done ≡ false → Sketched s n k

-- so that its row can be divided
divisible : {s : Segment} {n : ℕ} {k : Sketch} → Sketched s n k → Divisible s.count k
divisible {s} {n} p =
    let r = p.runs in
    let t = state_after regular s n in
    rw p.is (record {
      short_positive = positive r;
      below = omega (arith, (steppable r).below);
      fits = ⊎_elim
          (λ z. omega (
            arith,
            (steppable r).all.fits,
            ap (λ (n : ℕ). n * t.longs) (cuts_exact t (positive r) (falls r) z),
          ))
          (λ h. omega (
            arith,
            (steppable r).all.fits,
            ap (λ (n : ℕ). n * t.longs) (cuts_inexact t (positive r) h),
          ))
          (eq-zero-or-pos (t.long % t.short));
    })

-- the row of a sketch is that of its state, and tells whether the start lies in a long gap where
-- the next row asks that
record SameRow (s : Segment) (odd : Bool) (t : State) (wide : Bool) : Type 0 where
  wide_after : Bool
  row : sketch_next odd s.count (sketch_of t wide)
      ≡ next_row s.count (sketch_of t wide) (regular_next odd s.count t).distance wide_after
  wide_after_is : ends s.count t ≡ false → not odd ≡ true
      → wide_after ≡ ltb (regular_next odd s.count t).argument (regular_next odd s.count t).longs

same : {s : Segment} (odd : Bool) {t : State} → Running regular s odd t → (wide : Bool)
    → (odd ≡ true → wide ≡ ltb t.argument t.longs) → SameRow s odd t wide
same false {t} r l w =
    record {
      wide_after = not (eqb (t.distance / t.short) (quotient t));
      row = rw (← even_distance r);
      wide_after_is = λ on _. wide_after_even r on;
    }
same true r l w =
    record {
      wide_after = true;
      row = rw (← odd_distance r, ← w refl);
      wide_after_is = λ _ f. absurd (false≢true f);
    }

module _ {s : Segment} (a : Accepted s) where
  follows : (n : ℕ) → Follows s n (after sketch_walk s n)
  unfolding regular_next
  follows zero = unfold after in record {
    done_is = refl;
    distance_is = refl;
    sketched = λ d. record {
      runs = running_after regular a 0 d;
      wide = true;
      is = refl;
      wide_is = λ f. absurd (false≢true f);
    };
  }
  follows (suc n) =
      let f = follows n in
      let t = state_after regular s n in
      ⊎_elim
      (λ e. let p = f.sketched e in
      let q = same (is_odd n) p.runs p.wide p.wide_is in
      let k_is = step_is sketch_walk s n e ∙ ap (sketch_next (is_odd n) s.count) p.is ∙ q.row in
      let t_is = step_is (walk_of regular) s n (sym f.done_is ∙ e) in
      let done_is = ap (λ (k : Sketch). k.done) k_is
      ∙ same_end p.runs (regular_next (is_odd n) s.count t).distance p.wide q.wide_after in
      record {
        done_is = done_is ∙ sym (ap (λ (t : State). t.done) t_is);
        distance_is =
            ap (λ (k : Sketch). k.distance) k_is ∙ sym (ap (λ (t : State). t.distance) t_is);
        sketched = λ d. let on : ends s.count t ≡ false = sym done_is ∙ d in
            record {
              runs = running_after regular a (suc n) (ap (λ (t : State). t.done) t_is ∙ on);
              wide = q.wide_after;
              is =
                  k_is ∙ same_row p.runs on _ p.wide q.wide_after refl
                  ∙ ap (λ (t : State). sketch_of t q.wide_after) (sym t_is);
              wide_is = λ o. q.wide_after_is on o
                  ∙ sym (ap (λ (t : State). ltb t.argument t.longs) t_is);
            };
      })
      (λ e. let k_is = stays sketch_walk s n e in
      let t_is = stays (walk_of regular) s n (sym f.done_is ∙ e) in
      record {
        done_is =
            ap (λ (k : Sketch). k.done) k_is ∙ f.done_is ∙ sym (ap (λ (t : State). t.done) t_is);
        distance_is =
            ap (λ (k : Sketch). k.distance) k_is ∙ f.distance_is
            ∙ sym (ap (λ (t : State). t.distance) t_is);
        sketched = λ d. absurd (false≢true (sym d ∙ ap (λ (k : Sketch). k.done) k_is ∙ e));
      })
      (dichotomy (after sketch_walk s n).done)

  pub sketch_goes_on : GoesOn sketch_walk Divisible s
  sketch_goes_on =
      record {
        few = λ n e. (goes_on regular a).few n (sym (follows n).done_is ∙ e);
        able = λ n e. divisible ((follows n).sketched e);
      }

  -- it ends with the distance of the search
  pub sketch_distance : (after sketch_walk s 29).distance ≡ (state_after regular s 29).distance
  sketch_distance = (follows 29).distance_is
