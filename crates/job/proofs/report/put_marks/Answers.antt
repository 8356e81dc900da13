-- `job::report::put_marks` meets its contract. Assumes nothing.
use Rattle.std.proofs.Common.{sym}
use Rattle.text.proofs.Laws.{wrote_more}
use Rattle.job.proofs.Reports.{marks_more}
use Rattle.job.proofs.report.put_marks.Goals as goal

pub loop-mark-preserved : goal.loop-mark-preserved
loop-mark-preserved c =
    rw (marks_more c.args.marks.now c.loop-mark.mark-index c.loop-mark-test.true, sym c.from.ensures)
    (wrote_more _ _ c.loop-mark.invariant c.put_byte.ensures)
