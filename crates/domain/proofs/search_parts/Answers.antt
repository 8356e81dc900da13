-- `domain::search_parts` meets its contract. Assumes nothing.
use Rattle.std.proofs.Common.{ap, arith, ◌≤◌, ◌≡◌, ℕ, length}
use Rattle.std.proofs.Common.{min}
use Rattle.parabola.specs.Parabola.{Parabola, hard_list}
use Rattle.arc.specs.Arc.{parabola}
use Rattle.domain.specs.Phases.{hard_counts, report}
use Rattle.domain.specs.declared.phases.Report.{Report}
use Rattle.domain.proofs.Answers.{Room, parts_refused, parts_searched}
use Rattle.domain.proofs.search_parts.Goals as goal

-- what the parts have
module _ (p : Parabola) {r : Report} (e : r ≡ report p) where
  total_is : r.total ≡ length (hard_list p)
  unfolding report
  total_is = ap (λ (r : Report). r.total) e

  counts_are : r.hard ≡ hard_counts p
  unfolding report
  counts_are = ap (λ (r : Report). r.hard) e

  -- there is room for it
  enough : {places m n : ℕ} → places ≡ min m n → r.total ≤ places → Room (hard_list p) m n
  enough f h = (omega (arith, f, h, total_is), omega (arith, f, h, total_is))

pub returns-then-places-report : goal.returns-then-places-report
returns-then-places-report c =
    parts_refused _ _ _ _ _ _ (omega (arith, c.if-places-report.true, c.min-places.ensures, total_is (parabola c.args.scan.within.arc) c.examine_parts-report.ensures))

pub list_parts-requires : goal.list_parts-requires
list_parts-requires c =
    let room = enough (parabola c.args.scan.within.arc) c.examine_parts-report.ensures c.min-places.ensures c.if-places-report.false in
    record {
      hard_counted = counts_are (parabola c.args.scan.within.arc) c.examine_parts-report.ensures;
      list_room = room.0;
      values_room = room.1;
    }

pub returns : goal.returns
returns c =
    parts_searched _ _ _ _ _ _ c.requires (enough (parabola c.args.scan.within.arc) c.examine_parts-report.ensures c.min-places.ensures c.if-places-report.false)
    c.examine_parts-report.ensures (c.list_parts.ensures.list_after, c.list_parts.ensures.values_after)
