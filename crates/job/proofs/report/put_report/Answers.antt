-- `job::report::put_report` meets its contract: its four pieces, one after the other.
-- Assumes nothing.
use Rattle.domain.specs.Marks.{mark_numbers}
use Rattle.text.specs.Text.{bytes}
use Rattle.text.proofs.Laws.{wrote_more}
use Rattle.job.specs.Output.{verdict_name, mark_digits, report}
use Rattle.job.proofs.Reports.{line_then}
use Rattle.job.proofs.report.put_report.Goals as goal

pub returns : goal.returns
unfolding report
returns c =
    let a = c.args in
    let lines = wrote_more _ _ c.put_line.ensures c.put_arguments.ensures in
    rw (
      line_then (bytes "first=") (verdict_name a.first),
      line_then (bytes "parts=") (mark_digits (mark_numbers a.marks.now)),
    )
    (rw (line_then (bytes "listed="))
    (wrote_more _ _ c.put_first.ensures (wrote_more _ _ c.put_parts.ensures lines)))
