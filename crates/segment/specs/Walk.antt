-- Searches that go from row to row. Assumes nothing: these are definitions.
use Rattle.std.specs.Prelude.{◌≡◌, Bool, false, cond, ℕ, zero, suc, ◌<◌}
use Rattle.numbers.specs.Parity.{is_odd}
use Rattle.geometry.specs.Segment.{Segment}
use Rattle.segment.specs.Accepted.{asked}
use Rattle.segment.specs.declared.Segment.{Segment as Call}

-- where a search begins in a segment, whether it is done, and where an even or an odd row leads it
-- for a count
pub record Walking (State : Type 0) : Type 0 where
  pub first : Segment → State
  pub done : State → Bool
  pub next : (odd : Bool) → (count : ℕ) → State → State

-- where a search stands after so many rows, even and odd ones taking turns; once it is done, it
-- stays there
unfoldable pub after : {State : Type 0} → Walking State → Segment → (rows : ℕ) → State
after w s zero = w.first s
after w s (suc n) =
    cond (w.done (after w s n)) (after w s n) (w.next (is_odd n) s.count (after w s n))

-- a search takes 29 rows at most, and where it takes one it meets what a row asks
pub record GoesOn {State : Type 0} (w : Walking State)
    (CanGoOn : (count : ℕ) → State → Type 0) (s : Segment) : Type 0 where
  pub few : (n : ℕ) → w.done (after w s n) ≡ false → n < 29
  pub able : (n : ℕ) → w.done (after w s n) ≡ false → CanGoOn s.count (after w s n)

-- the segment of a call. The window plays no part in a search: it is the least that is accepted
abbrev pub without_window : Call → Segment
without_window c = asked c.modulus c.step c.start c.count 1
