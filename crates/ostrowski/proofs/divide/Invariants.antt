-- `ostrowski::divide` meets its contract.
-- The loop's invariant: at a row, drawn as the remainders and denominators, the target is divided
-- so far, into the rest and the two sums. The measure is the remainder, which falls. Assumes
-- nothing.
use Rattle.ostrowski.proofs.Dividing.{Dividing}
use Rattle.ostrowski.proofs.divide.Given as goal

abbrev pub invariant-loop-remainder : goal.invariant-loop-remainder
invariant-loop-remainder l =
    Dividing l.modulus l.step l.target l.before l.remainder l.denominator_before l.denominator
    l.rest l.same l.other l.is_odd

abbrev pub decreases-loop-remainder : goal.decreases-loop-remainder
decreases-loop-remainder l = l.remainder
