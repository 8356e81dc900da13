-- `domain::scan::Scan::list_parts` meets its contract. Assumes nothing.
use Rattle.std.proofs.Common.{◌∙◌, ap, arith, ◌<◌, ◌≡◌, ℕ, length}
use Rattle.std.proofs.Common.{List, get_or}
use Rattle.domain.specs.Scan.{lowered_at}
use Rattle.numbers.proofs.Selections.{tabulate_at}
use Rattle.parabola.specs.Parabola.{Parabola, hard_list, part}
use Rattle.parabola.proofs.Laws.{list_most}
use Rattle.arc.specs.Arc.{parabola}
use Rattle.domain.specs.Phases.{hard_count, hard_counts}
use Rattle.domain.proofs.Parts.{column_end, list_first, list_room, rest_written, list_next, list_done}
use Rattle.domain.proofs.scan.Scan.list_parts.Goals as goal

-- how many hard arguments a part has
number_is : (p : Parabola) {hard : List ℕ} {i : ℕ} → hard ≡ hard_counts p → i < 8 → get_or hard i 0 ≡ length (hard_list (part p i))
number_is p {hard} {i} e h = ap (λ (xs : List ℕ). get_or xs i 0) e ∙ tabulate_at (hard_count p) 8 i h

pub loop-i-init : goal.loop-i-init
loop-i-init c = list_first _ _ _ _ c.args.self.within.in_range

pub list_part-requires : goal.list_part-requires
list_part-requires c =
    let number = number_is (parabola c.args.self.within.arc) c.requires.hard_counted c.loop-i-test.true in
    let r = list_room c.loop-i.invariant c.loop-i-test.true c.requires.list_room c.requires.values_room in
    record {
      is_part = c.loop-i-test.true;
      number_counted = number;
      list_room = omega (arith, number, r.0);
      values_room = omega (arith, number, r.1);
    }

pub overflow_cast-place : goal.overflow_cast-place
overflow_cast-place c =
    let number = number_is (parabola c.args.self.within.arc) c.requires.hard_counted c.loop-i-test.true in
    record { fits = omega (arith, number, column_end c.loop-i.invariant.arguments_column c.loop-i-test.true, list_most c.args.self.within.in_range) }

pub overflow_add-place : goal.overflow_add-place
overflow_add-place c =
    let number = number_is (parabola c.args.self.within.arc) c.requires.hard_counted c.loop-i-test.true in
    record { fits = omega (arith, number, column_end c.loop-i.invariant.arguments_column c.loop-i-test.true, list_most c.args.self.within.in_range) }

pub loop-i-preserved : goal.loop-i-preserved
loop-i-preserved c =
    let number = number_is (parabola c.args.self.within.arc) c.requires.hard_counted c.loop-i-test.true in
    let room = list_room c.loop-i.invariant c.loop-i-test.true c.requires.list_room c.requires.values_room in
    list_next c.loop-i.invariant c.args.self.within.in_range c.loop-i-test.true number (
      rest_written _ (hard_list (part (parabola c.args.self.within.arc) c.loop-i.i)) c.loop-i.list c.loop-i.place room.0 c.list_part.ensures.list_after,
      rest_written (lowered_at c.args.self.raise (part (parabola c.args.self.within.arc) c.loop-i.i)) (hard_list (part (parabola c.args.self.within.arc) c.loop-i.i)) c.loop-i.values c.loop-i.place room.1 c.list_part.ensures.values_after,
    )

pub returns : goal.returns
returns c =
    let done = list_done c.loop-i.invariant c.loop-i-test.false c.requires.list_room c.requires.values_room in
    record { list_after = done.0; values_after = done.1 }
