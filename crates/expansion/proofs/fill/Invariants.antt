-- `expansion::fill` meets its contract.
-- The loop's invariant: of each column the rows before `row` are written, and those from the loop's
-- remainders and denominators on are still to come. The measure is the remainder, which falls.
-- Assumes nothing.
use Rattle.expansion.proofs.Filling.{columns, Filled}
use Rattle.expansion.proofs.fill.Given as goal

abbrev pub invariant-loop-remainder : goal.invariant-loop-remainder
invariant-loop-remainder l =
    Filled l.modulus l.step (columns l.remainders l.denominators l.quotients) l.before l.remainder l.denominator_before l.denominator l.row

abbrev pub decreases-loop-remainder : goal.decreases-loop-remainder
decreases-loop-remainder l = l.remainder
