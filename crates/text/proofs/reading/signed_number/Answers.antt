-- `text::reading::signed_number` meets its contract. Assumes nothing.
use mir.Syntax.{w64}
use mir.Val.{SFits}
use Rattle.std.proofs.Common.{rules}
use Rattle.std.proofs.lemmas.Int.{to_z-of_z}
use Rattle.text.proofs.Fields.{minus_and_number}
use Rattle.text.proofs.reading.signed_number.Goals as goal

pub returns-in_ok-opposite-in-Some : goal.returns-in_ok-opposite-in-Some
returns-in_ok-opposite-in-Some c =
    let minus = c.in-Some.ensures.cases in
    let told = c.in_ok-opposite-in-Some in
    let fits : SFits w64 told.field-0 = search rules in
    rw (to_z-of_z w64 told.field-0 fits) (minus_and_number minus.0 minus.1 c.in_ok-size-in-Some.ensures told.ensures)
