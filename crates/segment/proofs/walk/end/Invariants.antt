-- `segment::walk::end` meets its contract. The loop's invariant: where the search stands after two
-- rows a turn, and that it goes on. Assumes nothing.
use Rattle.std.proofs.Common.{◌+◌}
use Rattle.segment.specs.Walk.{without_window}
use Rattle.segment.proofs.Walks.{At}
use Rattle.segment.proofs.walk.end.Given as goal

abbrev pub invariant-loop : goal.invariant-loop
invariant-loop g l =
    At g.W.Walk.walk (without_window l.segment) (l.counter + l.counter) l.state
