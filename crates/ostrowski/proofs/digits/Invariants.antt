-- `ostrowski::digits` meets its contract.
-- The loop's invariant: what is left of the argument is the sum of its digits below `row`, and the
-- array has the digits from `row` on. Assumes nothing.
use Rattle.numbers.proofs.Buffers.{AgreesFrom}
use Rattle.ostrowski.proofs.Taking.{Taking, goal as digits_goal}
use Rattle.ostrowski.proofs.digits.Given as goal

abbrev pub invariant-loop-row : goal.invariant-loop-row
invariant-loop-row l = record {
  taking : Taking l.modulus l.step l.argument l.denominators l.last l.rest l.row;
  written : AgreesFrom (digits_goal l.modulus l.step l.argument) l.digits l.row;
}
