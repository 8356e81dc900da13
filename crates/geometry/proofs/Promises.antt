-- All that is promised of residues and hard arguments. Assumes nothing.
use Prim.Native.Nat.{◌≤◌, ◌<◌}
use lib.Dec.{ltb}
use Rattle.numbers.specs.Lists.{count_if}
use Rattle.numbers.specs.Promise.{Enumerates}
use Rattle.numbers.proofs.Selections.{less, enumerates}
use Rattle.geometry.specs.Segment.{Segment, residue, Hard, is_hard, hard_list}
use Rattle.geometry.specs.Promise.{Promised}
use Rattle.geometry.proofs.Periods.{residues_correct}

hard_lists : (s : Segment) → s.count ≤ 1048576 → Enumerates (Hard s) (count_if (λ x. ltb (residue s x) s.window) s.count 0) (hard_list s)
unfolding hard_list is_hard
hard_lists s most = enumerates (is_hard s) (λ x. residue s x < s.window) s.count most (λ x. less (residue s x) s.window)

pub promised : Promised
promised = record { residues = residues_correct; hard_lists = hard_lists }
