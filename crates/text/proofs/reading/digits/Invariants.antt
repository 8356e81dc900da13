-- The invariant of `text::reading::digits`'s loop: what is to be read is what the rest from i on
-- makes of the number so far.
use Rattle.std.proofs.Common.{◌≡◌, ◌+◌, ℕ, drop}
use Rattle.text.specs.Reading.{digits_from}
use Rattle.text.proofs.reading.digits.Given as goal

abbrev pub invariant-loop-i : goal.invariant-loop-i
invariant-loop-i l = (at : ℕ) → digits_from l.first at l.text ≡ digits_from l.n (at + l.i) (drop l.i l.text)
