-- `arc::values::times` meets its contract.
-- The loop's invariant: the sum, and what is left times the double, make the product. The measure
-- is what is left. Assumes nothing.
use Rattle.arc.proofs.Products.{Multiplying}
use Rattle.arc.proofs.values.times.Given as goal

abbrev pub invariant-loop-left : goal.invariant-loop-left
invariant-loop-left l = Multiplying l.modulus l.a l.number l.sum l.double l.left

abbrev pub decreases-loop-left : goal.decreases-loop-left
decreases-loop-left l = l.left
