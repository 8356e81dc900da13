-- `range::is_ascending` meets its contract. Assumes nothing.
use Rattle.std.proofs.Common.{◌∙◌, rules, arith}
use Rattle.range.proofs.Comparing.{and_pair, windows_tell}
use Rattle.range.proofs.is_ascending.Goals as goal

pub returns : goal.returns
returns c =
    let run = c.fold.ensures.runs in
    let made = c.windows.ensures in
    run.3 and_pair (λ b w r f k. search rules)
    ∙ windows_tell run.0 (rw run.1 made.size) (rw run.1 made.rest) run.2
    (made.runs run.0 run.0.seen (rw (run.1, made.size) (omega arith)))
