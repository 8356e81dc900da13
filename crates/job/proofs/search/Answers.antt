-- `job::search` meets its contract: the domain search for a job, and 8 for a text that is none.
-- Assumes nothing.
use Rattle.std.proofs.Common.{refl}
use Rattle.job.specs.Output.{job_answer, job_marks, job_list, job_values}
use Rattle.job.proofs.search.Goals as goal

pub returns-in-Some : goal.returns-in-Some
unfolding job_answer job_marks job_list job_values
returns-in-Some c =
    let s = c.search.ensures in
    rw c.in-Some.is
    (record { value = s.value; marks_after = s.marks_after; list_after = s.list_after; values_after = s.values_after })

pub returns-in-None : goal.returns-in-None
unfolding job_answer job_marks job_list job_values
returns-in-None c =
    rw c.in-None.is (record { value = refl; marks_after = refl; list_after = refl; values_after = refl })
