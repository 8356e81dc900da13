-- `segment::state::Row::last_cuts` meets its contract. Assumes nothing.
use Rattle.std.proofs.Common.{◌∙◌, ◌≡◌}
use Rattle.segment.specs.State.{last_cuts}
use Rattle.numbers.proofs.Selections.{test_number}
use Rattle.segment.proofs.Rows.{all_number}
use Rattle.segment.proofs.state.Row.last_cuts.Goals as goal

pub returns : goal.returns
returns c =
    let p = c.args.self in
    let number : c.min-number.result ≡ last_cuts p.count p.state =
    c.min-number.ensures ∙ rw (test_number _, all_number p.steppable p.divided) in
    rw number
