-- `text::reader::Reader::signed_field` meets its contract. Assumes nothing.
use mir.Syntax.{w64}
use mir.Val.{SFits}
use Rattle.std.proofs.Common.{rules}
use Rattle.std.proofs.lemmas.Int.{to_z-of_z}
use Rattle.text.proofs.Fields.{name_and_signed_number}
use Rattle.text.proofs.reader.Reader.signed_field.Goals as goal

pub returns : goal.returns
returns c =
    let named = c.in_ok-strip_prefix.ensures.cases in
    let fits : SFits w64 c.in_ok-n.n = search rules in
    rw (to_z-of_z w64 c.in_ok-n.n fits) (name_and_signed_number c.args.name.now named.0 named.1 c.in_ok-n.ensures)
