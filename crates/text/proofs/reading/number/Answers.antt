-- `text::reading::number` meets its contract. Assumes nothing.
use Rattle.std.proofs.Common.{sym, ◌∙◌}
use Rattle.text.proofs.Fields.{first_and_more}
use Rattle.text.proofs.reading.number.Goals as goal

pub returns : goal.returns
returns c =
    let parts = c.in_ok-first.ensures.cases in
    let digit = sym c.is_ascii_digit.ensures.value ∙ c.if-not-is_ascii_digit.false in
    rw parts.0 (first_and_more _ _ digit _ (rw c.from.ensures at c.digits.ensures))
