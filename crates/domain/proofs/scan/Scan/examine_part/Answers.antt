-- `domain::scan::Scan::examine_part` meets its contract. Assumes nothing.
use Rattle.std.proofs.Common.{sym, ◌∙◌, ap}
use Rattle.domain.specs.Phases.{part_report}
use Rattle.domain.proofs.Parts.{empty_part, clear_part, possible_part}
use Rattle.domain.proofs.scan.Scan.examine_part.Goals as goal

pub returns-then-part_count-eq0 : goal.returns-then-part_count-eq0
returns-then-part_count-eq0 c = empty_part _ c.args.self.within.in_range _ (sym c.part_count.ensures ∙ c.if-part_count-eq0.true)

pub returns-in-Clear : goal.returns-in-Clear
returns-in-Clear c =
    clear_part c.part-part.result.within.in_range (sym c.fine_verdict.ensures ∙ c.in-Clear.is) ∙ ap part_report c.part-part.ensures.made

pub returns-in-Possible : goal.returns-in-Possible
returns-in-Possible c =
    possible_part c.part-part.result.within.in_range (sym c.fine_verdict.ensures ∙ c.in-Possible.is) c.count_hard.ensures
    ∙ ap part_report c.part-part.ensures.made
