-- `ostrowski::residue` meets its contract.
-- The loop's invariant: what is left of the argument is the sum of its digits below `row`, and the
-- residue is what the rows from `row` on come to. Assumes nothing.
use Rattle.ostrowski.proofs.Taking.{Reducing}
use Rattle.ostrowski.proofs.residue.Given as goal

abbrev pub invariant-loop-row : goal.invariant-loop-row
invariant-loop-row l =
    Reducing l.modulus l.step l.argument l.remainders l.denominators l.last l.residue l.rest l.row
