-- `text::reader::signed_field` meets its contract. Assumes nothing.
use mir.Syntax.{w64}
use mir.Val.{SFits}
use Rattle.std.proofs.Common.{◌∙◌, rules, arith}
use Rattle.std.proofs.lemmas.Int.{to_z-of_z}
use Rattle.text.proofs.Ends.{signed_field_told}
use Rattle.text.proofs.reader.signed_field.Goals as goal

pub returns : goal.returns
returns c =
    let fits : SFits w64 c.in_ok-s.s = search rules in
    let here = c.new-reader.ensures ∙ c.left_from.ensures in
    let read = c.in_ok-s.ensures c.args.at c.args.text.now here in
    rw (to_z-of_z w64 c.in_ok-s.s fits)
    (signed_field_told c.args.name.now c.args.at c.args.text.now (omega arith) read)
