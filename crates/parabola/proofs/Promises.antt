-- All that is promised of a parabola. Assumes nothing.
use mathlib.Core.Path.{refl}
use Prim.Native.Nat.{◌≤◌, ◌<◌}
use lib.Dec.{ltb}
use Rattle.numbers.specs.Lists.{count_if}
use Rattle.numbers.specs.Promise.{Enumerates}
use Rattle.numbers.proofs.Selections.{less, enumerates}
use Rattle.parabola.specs.Parabola.{Parabola, triangle, value_at, slope_at, second_difference, is_hard, hard_list}
use Rattle.parabola.specs.Promise.{ValuesCorrect, Promised}
use Rattle.parabola.proofs.Values.{triangle_twice, value_below, slope_below, second_below, value_first, slope_first, value_next, slope_next, value_continues, slope_continues}
use Rattle.parabola.proofs.Coverings.{covering_correct}
use Rattle.parabola.proofs.Centred.{centred_correct}
use Rattle.parabola.proofs.Parts.{eight_parts_correct, parts_correct}
use Rattle.parabola.proofs.Lines.{line_correct}

values_correct : (p : Parabola) → 0 < p.unit → ValuesCorrect p
unfolding value_at slope_at second_difference triangle
values_correct p positive =
    record {
      value = λ x. refl;
      triangle_is = λ x. refl;
      halved = triangle_twice;
      slope = λ x. refl;
      second = refl;
      in_range = value_below p positive;
      slope_in_range = slope_below p positive;
      second_in_range = second_below p positive;
      first = value_first p positive;
      slope_first = slope_first p positive;
      differences = value_next p positive;
      slope_differences = slope_next p positive;
      continues = value_continues p positive;
      slope_continues = slope_continues p positive;
    }

hard_lists : (p : Parabola) → p.count ≤ 1048576
    → Enumerates (λ x. (x < p.count) × (value_at p x < p.window)) (count_if (λ x. ltb (value_at p x) p.window) p.count 0) (hard_list p)
unfolding hard_list is_hard
hard_lists p most = enumerates (is_hard p) (λ x. value_at p x < p.window) p.count most (λ x. less (value_at p x) p.window)

pub promised : Promised
promised =
    record {
      values = values_correct;
      hard_lists = hard_lists;
      coverings = covering_correct;
      centred_correct = centred_correct;
      eight_parts = eight_parts_correct;
      parts = parts_correct;
      lines = line_correct;
    }
