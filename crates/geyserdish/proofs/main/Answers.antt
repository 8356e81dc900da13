-- `geyserdish::main` is safe and ends: what was printed is within the buffer. Assumes nothing.
use Rattle.std.proofs.Common.{ℕ, ◌≤◌, List, length, drop, length-append, arith, sym}
use Rattle.std.proofs.lemmas.List.{length-take-le}
use Rattle.numbers.specs.Lists.{overwrite_front}
use Rattle.geyserdish.proofs.main.Goals as goal

-- a buffer with a text at its front is at least as long as the text
fits : (xs old : List ℕ) → length xs ≤ length (overwrite_front xs old)
unfolding overwrite_front
fits xs old = omega (arith, length-append xs (drop (length xs) old))

pub slice_bounds-output-end : goal.slice_bounds-output-end
slice_bounds-output-end c = rw (c.run_job-printed.ensures.count, c.run_job-printed.ensures.written) (fits _ _)

pub slice_bounds-write_all-end : goal.slice_bounds-write_all-end
slice_bounds-write_all-end c =
    sym (
    length-take-le c.run_job-printed.result c.run_job-printed.new.out
    (rw (c.run_job-printed.ensures.count, c.run_job-printed.ensures.written) (fits _ _))
    )
