-- `text::writer::Writer::put_line` meets its contract: the name, the number and the line feed, one
-- after the other. Assumes nothing.
use Rattle.text.proofs.Writing.{wrote_more}
use Rattle.text.proofs.writer.Writer.put_line.Goals as goal

pub returns : goal.returns
returns c =
    wrote_more _ _ c.put.ensures (wrote_more _ _ c.put_number.ensures c.put_byte.ensures)
