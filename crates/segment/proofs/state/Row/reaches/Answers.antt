-- `segment::state::Row::reaches` meets its contract. Assumes nothing.
use Rattle.std.proofs.Common.{arith}
use Rattle.segment.proofs.Rows.{row_fits, row_ends}
use Rattle.segment.proofs.state.Row.reaches.Goals as goal

pub overflow_mul-result : goal.overflow_mul-result
overflow_mul-result c =
    let row = c.args.self in
    omega (arith, row_fits row.steppable row.divided (λ z. omega (arith, z, c.requires)))

pub overflow_add-result : goal.overflow_add-result
overflow_add-result c =
    let row = c.args.self in
    omega (arith, row_fits row.steppable row.divided (λ z. omega (arith, z, c.requires)))

pub returns : goal.returns
returns c =
    let row = c.args.self in
    row_ends row.steppable row.divided (λ z. omega (arith, z, c.requires))
