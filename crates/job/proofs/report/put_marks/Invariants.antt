-- The invariant of `job::report::put_marks`'s loop: the digits of the marks below the index are
-- written.
use Rattle.std.proofs.Common.{take}
use Rattle.domain.specs.Marks.{mark_numbers}
use Rattle.text.specs.Writing.{Wrote}
use Rattle.job.specs.Output.{mark_digits}
use Rattle.job.proofs.report.put_marks.Given as goal

abbrev pub invariant-loop-mark : goal.invariant-loop-mark
invariant-loop-mark l = Wrote l.initial.out (mark_digits (mark_numbers (take l.mark-index l.marks))) l.out
