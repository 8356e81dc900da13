-- `job::run_job` meets its contract. Assumes nothing.
use Rattle.std.proofs.Common.{rules, ◌≡◌, ◌∙◌, sym, ap, length}
use Rattle.job.specs.Output.{longest, output_with, output_of}
use Rattle.job.proofs.Outputs.{in_buffer}
use Rattle.job.proofs.run_job.Goals as goal

pub returns : goal.returns
unfolding output_of
returns c =
    let a = c.args in
    let begun = c.new-writer.ensures in
    let p = rw (begun.place, begun.bytes) at c.print_answer.ensures.place in
    let b = rw (begun.place, begun.bytes) at c.print_answer.ensures.bytes in
    let full : length a.out.now ≡ longest = search rules in
    let w = in_buffer a.text.now _ a.out.now (ap output_with (sym c.read_job.ensures)) full (p, b) in
    record { count = c.place.ensures ∙ w.0; written = w.1; room = full }
