-- `segment::state::CutRow::highest_cut` meets its contract. Assumes nothing.
use Rattle.std.proofs.Common.{arith}
use Rattle.segment.proofs.Advancing.{by_division, back_few}
use Rattle.segment.proofs.state.CutRow.highest_cut.Goals as goal

pub overflow_mul-result-2 : goal.overflow_mul-result-2
overflow_mul-result-2 c =
    let row = c.args.self in
    omega (arith, back_few row.able c.saturating_sub-over.ensures, row.able.able.fits)

pub overflow_sub-result : goal.overflow_sub-result
overflow_sub-result c = omega (arith, back_few c.args.self.able c.saturating_sub-over.ensures)

pub returns : goal.returns
returns c = rw c.saturating_sub-over.ensures (by_division _ _ c.args.self.able.rest_is)
