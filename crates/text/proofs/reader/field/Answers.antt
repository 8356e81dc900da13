-- `text::reader::field` meets its contract. Assumes nothing.
use Rattle.std.proofs.Common.{◌∙◌, arith}
use Rattle.text.proofs.Ends.{field_told}
use Rattle.text.proofs.reader.field.Goals as goal

pub returns : goal.returns
returns c =
    let here = c.new-reader.ensures ∙ c.left_from.ensures in
    let read = c.in_ok-n.ensures c.args.at c.args.text.now here in
    field_told c.args.name.now c.args.at c.args.text.now (omega arith) read
