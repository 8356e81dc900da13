-- `job::read_job` meets its contract. Assumes nothing.
use Rattle.job.proofs.Readings.{after_first}
use Rattle.job.proofs.read_job.Goals as goal

pub returns : goal.returns
returns c =
    let first = after_first c.args.text.now _ c.new-reader.result c.field.new.self _ c.field.ensures in
    first c.new-reader.ensures c.unwrap_or-origin.ensures c.read_lines.ensures
