-- `domain::scan::Scan::list_part` meets its contract. Assumes nothing.
use Rattle.domain.proofs.Parts.{some_argument, nothing_written}
use Rattle.domain.proofs.scan.Scan.list_part.Goals as goal

pub returns-then-number-eq0 : goal.returns-then-number-eq0
returns-then-number-eq0 c =
    record {
      list_after = nothing_written _ _ _ _ _ c.requires.number_counted c.if-number-eq0.true;
      values_after = nothing_written _ _ _ _ _ c.requires.number_counted c.if-number-eq0.true;
    }

-- a part with hard arguments has arguments

pub part-requires-clause-some_argument : goal.part-requires-clause-some_argument
part-requires-clause-some_argument c = some_argument _ _ c.args.self.within.in_range c.requires.number_counted c.if-number-eq0.false

pub list_hard-requires-clause-number_counted : goal.list_hard-requires-clause-number_counted
list_hard-requires-clause-number_counted c = rw c.part.ensures.made c.requires.number_counted

pub returns : goal.returns
returns c =
    record {
      list_after = rw (c.part.ensures.made, c.part.ensures.begin) at c.list_hard.ensures.list_after;
      values_after = rw (c.part.ensures.made, c.part.ensures.raise) at c.list_hard.ensures.values_after;
    }
