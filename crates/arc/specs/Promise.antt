-- What is promised of parabolas within the bounds of the code, and of arcs. `Promised`, at the end, is all of it; proofs/Promises.antt proves it. Assumes nothing: these are statements.
use Rattle.std.specs.Prelude.{◌≡◌, List, [], ◌∷◌, ◌↔◌, ℕ, suc, ◌-◌, ◌*◌, ◌/◌, ◌^◌, ◌≤◌, ◌<◌, ℤ, pos, nat_abs, ◌+ℤ◌, ◌*ℤ◌, Some, None, Err}
use Rattle.numbers.specs.Checklist.{Condition, condition, RefusedBy}
use Rattle.numbers.specs.Integers.{◌modulo◌}
use Rattle.numbers.specs.Refusals.{number_of, tested}
use Rattle.numbers.specs.declared.refusals.Refusal.{Refusal}
use Rattle.expansion.specs.Reached.{Search}
use Rattle.segment.specs.Accepted as segment
use Rattle.segment.specs.Search.{verdict}
use Rattle.segment.specs.declared.Verdict.TheVariants.{Clear}
use Rattle.parabola.specs.Parabola.{Parabola, InRange, value_at, covering}
use Rattle.arc.specs.Arc.{asked, parabola, refusal, point, point_answer, arc_verdict}
use Rattle.arc.specs.declared.Arc.{Arc}

-- ---- bounds

-- what is asked of a parabola, in this order, with the number of each refusal
abbrev pub Asked : Parabola → List Condition
Asked p =
    condition 1 ((2 ≤ p.unit) × (p.unit ≤ 2 ^ 62))
    ∷ condition 2 (p.slope < p.unit)
    ∷ condition 3 (p.value < p.unit)
    ∷ condition 4 ((1 ≤ p.count) × (p.count ≤ 1048576))
    ∷ condition 5 ((1 ≤ p.window) × (p.window ≤ p.unit))
    ∷ condition 6 (nat_abs p.curve ≤ 1048576)
    ∷ []

-- a number refuses exactly where its condition is the first that does not hold, and 0 is answered exactly within the bounds
pub record RefusalsCorrect (p : Parabola) : Type 0 where
  pub refused : (n : ℕ) → (refusal p ≡ suc n) ↔ RefusedBy (Asked p) (suc n)
  pub accepted : (refusal p ≡ 0) ↔ InRange p
  -- and a call answers it by the name that has this number
  pub by_name : (r : Refusal) → (tested (refusal p) ≡ Err r) ↔ RefusedBy (Asked p) (number_of r)

-- ---- coverings

-- the searches accept the covering segment, and where one of them clears it, no value at an argument is less than the window
pub record SearchedCorrect (p : Parabola) : Type 0 where
  pub covering_accepted : segment.Accepted (covering p)
  pub cleared : (k : Search) → verdict k (covering p) ≡ Clear → (x : ℕ) → (x < p.count) × (value_at p x < p.window) → ⊥

-- ---- arcs

pub record ArcCorrect (a : Arc) : Type 0 where
  -- the parabola of an arc has its numbers, and a value is less than its window exactly where it is at most the highest
  pub numbers : ((parabola a).unit ≡ a.modulus) × ((parabola a).value ≡ a.value) × ((parabola a).slope ≡ a.slope) × ((parabola a).curve ≡ a.curve)
      × ((parabola a).count ≡ a.count)
  pub highest : (v : ℕ) → (v < (parabola a).window) ↔ (v ≤ a.highest)
  -- V(x) is c0 + c1·x + s·x(x-1)/2 modulo M and the slope c1 + s·x modulo M, at the arguments of an arc within the bounds; elsewhere is none
  pub inside : (x : ℕ) → InRange (parabola a) → x < a.count
      → point_answer a x ≡ Some (record {
        value = (pos a.value +ℤ pos a.slope *ℤ pos x +ℤ a.curve *ℤ pos (x * (x - 1) / 2)) modulo a.modulus;
        slope = (pos a.slope +ℤ a.curve *ℤ pos x) modulo a.modulus;
      })
  -- the same beyond the last argument, where the call has no answer and `Within::point_at` has
  pub point_is : (x : ℕ) → InRange (parabola a)
      → point (parabola a) x ≡ record {
        value = (pos a.value +ℤ pos a.slope *ℤ pos x +ℤ a.curve *ℤ pos (x * (x - 1) / 2)) modulo a.modulus;
        slope = (pos a.slope +ℤ a.curve *ℤ pos x) modulo a.modulus;
      }
  pub outside : (x : ℕ) → (point_answer a x ≡ None) ↔ (InRange (parabola a) → x < a.count → ⊥)
  -- within the bounds a verdict is that of a search of the covering segment; an arc outside them is never clear, and clear leaves no
  -- argument with a hard value
  pub verdict_is : (k : Search) → InRange (parabola a) → arc_verdict k a ≡ verdict k (covering (parabola a))
  pub clear : (k : Search) → arc_verdict k a ≡ Clear
      → InRange (parabola a) × ((x : ℕ) → (x < a.count) × (value_at (parabola a) x ≤ a.highest) → ⊥)

-- ---- all of it

pub record Promised : Type 0 where
  -- the parabola of a call has the call's numbers
  pub asked_is : (M c0 c1 : ℕ) (s : ℤ) (N w : ℕ) → asked M c0 c1 s N w ≡ record { unit = M; value = c0; slope = c1; curve = s; count = N; window = w }
  pub refusals : (p : Parabola) → RefusalsCorrect p
  pub searched : (p : Parabola) → InRange p → SearchedCorrect p
  pub arcs : (a : Arc) → ArcCorrect a
