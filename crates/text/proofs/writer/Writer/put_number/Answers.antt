-- `text::writer::Writer::put_number` meets its contract. Assumes nothing.
use Rattle.std.proofs.Common.{arith}
use Rattle.text.proofs.Decimals.{digit_written, first_written}
use Rattle.text.proofs.writer.Writer.put_number.Goals as goal

pub loop-left-preserved : goal.loop-left-preserved
loop-left-preserved c = digit_written c.loop-left.invariant c.loop-left-test.true

pub returns : goal.returns
returns c = rw (first_written c.loop-left.invariant (omega arith)) at c.put.ensures
