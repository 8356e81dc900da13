-- `segment::state::CutRow::advance_all_left` meets its contract: the moves are no more than the
-- cuts, and fit with them. Assumes nothing.
use Rattle.std.proofs.Common.{arith}
use native.Mathlib.Nat.{mul-le-mul_right}
use Rattle.segment.proofs.Advancing.{moved_left, moves_few}
use Rattle.segment.proofs.state.CutRow.advance_all_left.Goals as goal

pub overflow_mul-result : goal.overflow_mul-result
overflow_mul-result c =
    let row = c.args.self in
    let few = mul-le-mul_right row.state.longs (moves_few c.requires row.able.able) in
    omega (arith, few, row.able.able.fits)

pub overflow_add-result : goal.overflow_add-result
overflow_add-result c =
    let row = c.args.self in
    let few = mul-le-mul_right row.state.longs (moves_few c.requires row.able.able) in
    omega (arith, few, row.able.able.fits)

pub returns : goal.returns
returns c = moved_left _ _ (moves_few c.requires c.args.self.able.able)
