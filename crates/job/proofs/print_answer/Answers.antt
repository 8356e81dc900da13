-- `job::print_answer` meets its contract: the refusal's line, or what the search found.
-- Assumes nothing.
use Rattle.std.proofs.Common.{sym, ◌∙◌}
use lib.Seq.{length-take-le}
use Rattle.job.proofs.Outputs.{output_refused, output_reported, output_from}
use Rattle.job.proofs.print_answer.Goals as goal

pub slice_bounds-list-end : goal.slice_bounds-list-end
slice_bounds-list-end c =
    let found = output_reported c.args.job (sym c.search.ensures.value ∙ c.in-Ok.is) in
    rw c.search.ensures.list_after found.within

pub slice_bounds-values-end : goal.slice_bounds-values-end
slice_bounds-values-end c =
    let found = output_reported c.args.job (sym c.search.ensures.value ∙ c.in-Ok.is) in
    rw c.search.ensures.values_after found.values_within

pub slice_bounds-put_report-end-in-Ok : goal.slice_bounds-put_report-end-in-Ok
slice_bounds-put_report-end-in-Ok c =
    let found = output_reported c.args.job (sym c.search.ensures.value ∙ c.in-Ok.is) in
    sym (length-take-le _ _ (rw c.search.ensures.list_after found.within))

pub slice_bounds-put_report-end-in-Ok-2 : goal.slice_bounds-put_report-end-in-Ok-2
slice_bounds-put_report-end-in-Ok-2 c =
    let found = output_reported c.args.job (sym c.search.ensures.value ∙ c.in-Ok.is) in
    sym (length-take-le _ _ (rw c.search.ensures.values_after found.values_within))

pub returns-in-Err : goal.returns-in-Err
returns-in-Err c =
    rw (output_refused c.args.job (sym c.search.ensures.value ∙ c.in-Err.is)) c.put_refusal.ensures

pub returns-in-Ok : goal.returns-in-Ok
returns-in-Ok c =
    let s = c.search.ensures in
    let found = output_reported c.args.job (sym s.value ∙ c.in-Ok.is) in
    rw (output_from found s.marks_after s.list_after s.values_after) c.put_report.ensures
