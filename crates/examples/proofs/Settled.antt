-- The settled examples, computed from the definitions. Assumes nothing.
use mathlib.Core.Path.{◌≡◌, refl, ◌∙◌, ap}
use mathlib.Core.Logic.Dec
use Prim.Native.Nat.{ℕ, ◌≤◌}
use native.Mathlib.Decide.{dec_le, dec_lt, dec_dvd, ℕ_discrete}
use native.Mathlib.Omega.{arith}
use Rattle.numbers.specs.Checklist.{first_failing, unless_refused}
use Rattle.std.proofs.Common.{Ok}
use Rattle.numbers.specs.Refusals.{outcome, named}
use Rattle.numbers.specs.Divisors.{gcd_from, gcd}
use Rattle.numbers.specs.Integers.{◌modulo◌}
use Rattle.numbers.specs.Sums.{alternating_sum}
use Rattle.numbers.specs.Unit.{ranged}
use Rattle.numbers.specs.Lists.{zero_padded, filter_range, tabulate, overwrite_front}
use Rattle.expansion.specs.Rows.{rows_from, expansion, last, remainder_at, denominator_at, period}
use Rattle.expansion.specs.Configurations.{regular_from, regular, parts_from, fine_from, fine}
use Rattle.expansion.specs.Answer.{refusal, answer}
use Rattle.expansion.specs.Reached.{configurations_of, reached_in, reached}
use Rattle.ostrowski.specs.Digits.{digits_over, digits_of, residue_of, arguments_of, argument_of}
use Rattle.ostrowski.specs.Answer.{argument_refusal, target_refusal, digits_answer, residue_answer, divide_answer}
use Rattle.geometry.specs.Segment as geometry
use Rattle.geometry.specs.Segment.{residue}
use Rattle.segment.specs.Accepted as segments
use Rattle.segment.specs.Search.{least_from, argument, distance, verdict_at}
use Rattle.segment.specs.Answer.{regular_shown, fine_shown, regular_answer, fine_answer}
use Rattle.segment.proofs.Laws.{verdict_iff, regular_shows, fine_shows}
use Rattle.parabola.specs.Parabola as parabola
use Rattle.parabola.specs.Parabola.{triangle, value_at, slope_at, spread, covering_step, start_over, covering_start, covering_window, continued, part_count, part_start}
use Rattle.domain.specs.Phases.{mark_of, mark_with, marks_by}
use Rattle.domain.specs.Answer.{domain_number, domain_answer, marks_after, mark_numbers_after, list_after, values_after, scan_number, scan_answer, scan_list_after, scan_values_after}
use Rattle.text.specs.Text.{decimal_within, decimal}
use Rattle.text.specs.Reading.{starts, takes_digit, digits_from, number_from, field_at, signed_field_at}
use Rattle.job.specs.Reading.{rest_from, lines_from, reading}
use Rattle.job.specs.Output.{verdict_name, argument_lines, refused, report, printed_for, printed, output_with, output_of}
use Rattle.examples.specs.Settled.{RegularShows, FineShows, Example1, Example6, Example7, Example8, Example9, Example10, Example11, BothSides, AnyLength, WindowsFrom1, ValuesBesideArguments, CountedFromTheBinade, DigitsAndDivision, Settled}

example_1 : Example1
unfolding dec_le dec_lt Dec.and ranged first_failing rows_from expansion zero_padded refusal outcome named answer regular_from regular parts_from fine_from fine
example_1 =
    record {
      remainders_are = refl;
      quotients_are = refl;
      denominators_are = refl;
      answered = refl;
      regular_counts = refl;
      fine_counts = refl;
    }

-- ---- for every window

-- what is shown with the verdict by the distance is answered for every window that is accepted
module _ (M a b N : ℕ) (accepted : (w : ℕ) → 1 ≤ w → w ≤ M → segments.Accepted (segments.asked M a b N w)) {n i d x : ℕ} where
  regular_for_all : ((w : ℕ) → regular_shown (segments.asked M a b N w)
      ≡ record { count = n; quotients = i; distance = d; argument = x; verdict = verdict_at d w }) → RegularShows M a b N n i d x
  regular_for_all shown =
      record {
        clear = λ w l m h. regular_shows M a b N w (accepted w l m) ∙ ap Ok (shown w) ∙ rw ((verdict_iff d w).0.1 h);
        possible = λ w l m h. regular_shows M a b N w (accepted w l m) ∙ ap Ok (shown w) ∙ rw ((verdict_iff d w).1.1 h);
      }

  fine_for_all : {t : ℕ} → ((w : ℕ) → fine_shown (segments.asked M a b N w)
      ≡ record { count = n; index = i; part = t; distance = d; argument = x; verdict = verdict_at d w }) → FineShows M a b N n i t d x
  fine_for_all shown =
      record {
        clear = λ w l m h. fine_shows M a b N w (accepted w l m) ∙ ap Ok (shown w) ∙ rw ((verdict_iff d w).0.1 h);
        possible = λ w l m h. fine_shows M a b N w (accepted w l m) ∙ ap Ok (shown w) ∙ rw ((verdict_iff d w).1.1 h);
      }

example_6 : Example6
unfolding rows_from expansion parts_from fine_from fine configurations_of reached_in reached residue least_from argument distance fine_shown
example_6 = fine_for_all 45 15 44 10 (λ w l m. omega arith) (λ w. refl)

example_7 : Example7
unfolding rows_from expansion regular_from regular parts_from fine_from fine configurations_of reached_in reached residue least_from argument distance regular_shown fine_shown
example_7 =
    record {
      by_regular = regular_for_all 45 44 0 3 (λ w l m. omega arith) (λ w. refl);
      by_fine = fine_for_all 45 44 0 3 (λ w l m. omega arith) (λ w. refl);
    }

example_8 : Example8
unfolding rows_from expansion regular_from regular parts_from fine_from fine configurations_of reached_in reached residue least_from argument distance regular_shown fine_shown
example_8 =
    record {
      by_regular = regular_for_all 45 14 44 1 (λ w l m. omega arith) (λ w. refl);
      by_fine = fine_for_all 45 14 44 1 (λ w l m. omega arith) (λ w. refl);
    }

-- ---- scans and domains

example_9 : Example9
unfolding dec_le dec_lt Dec.and ranged first_failing outcome named unless_refused filter_range overwrite_front residue geometry.is_hard geometry.hard_list scan_number scan_answer scan_list_after scan_values_after
example_9 =
    record {
      hard_6 = refl;
      hard_3 = refl;
      answered_6 = refl;
      left_6 = λ x y z. refl;
      values_6 = λ x y z. refl;
      answered_3 = refl;
      left_3 = λ x. refl;
      values_3 = λ x. refl;
      answered_0 = λ m n. refl;
      left_0 = λ n old. refl;
      values_0 = λ m old. refl;
      too_few = refl;
      left_too_few = λ x. refl;
      values_too_few = λ x. refl;
    }

domains : Example10 × Example11 × BothSides × AnyLength × WindowsFrom1 × ValuesBesideArguments × CountedFromTheBinade
unfolding dec_le dec_lt Dec.and ranged first_failing outcome named unless_refused rows_from expansion regular_from regular parts_from fine_from fine configurations_of reached_in reached residue least_from argument distance verdict_at segments.refusal regular_shown fine_shown regular_answer fine_answer filter_range tabulate overwrite_front ◌modulo◌ triangle value_at slope_at geometry.is_hard geometry.hard_list parabola.is_hard parabola.hard_list parabola.centred spread covering_step start_over covering_start covering_window continued part_count part_start mark_of mark_with marks_by scan_number scan_answer scan_list_after scan_values_after domain_number domain_answer marks_after mark_numbers_after list_after values_after decimal_within decimal starts takes_digit digits_from number_from field_at signed_field_at rest_from lines_from reading verdict_name argument_lines refused report printed_for printed output_with output_of
domains = (
  record {
    prints = refl;
    read = refl;
    answered = refl;
    marks = (λ old. refl, λ old. refl);
    left = λ x y z. refl;
    values = λ x y z. refl;
    covered = refl;
    too_few = refl;
    left_too_few = λ x. refl;
    values_too_few = λ x. refl;
  },
  record {
    rising = refl;
    rising_marks = (λ old. refl, λ old. refl);
    rising_left = λ x y. refl;
    rising_values = λ x y. refl;
    falling = refl;
    falling_marks = (λ old. refl, λ old. refl);
    falling_left = λ x y. refl;
    falling_values = λ x y. refl;
  },
  record {
    line_2 = refl;
    line_2_marks = (λ old. refl, λ old. refl);
    line_2_left = λ x y. refl;
    line_2_values = λ x y. refl;
    line_6 = refl;
    line_6_left = refl;
    line_6_values = refl;
    above_5 = refl;
    above_6 = refl;
    above_6_left = refl;
    above_6_values = refl;
    below_5 = refl;
    below_6 = refl;
    below_6_left = refl;
    below_6_values = refl;
    rising = refl;
    rising_marks = (λ old. refl, λ old. refl);
    rising_left = λ x y. refl;
    rising_values = λ x y. refl;
    rising_covered = refl;
    falling = refl;
    falling_marks = (λ old. refl, λ old. refl);
    falling_left = λ x y. refl;
    falling_values = λ x y. refl;
    falling_covered = refl;
  },
  record {
    starts_of_12 = refl;
    counts_of_12 = refl;
    prints_12 = refl;
    prints_3 = refl;
    prints_1 = refl;
    answered_12 = refl;
    left_12 = λ x y z. refl;
    values_12 = λ x y z. refl;
    marks_3 = (λ old. refl, λ old. refl);
    left_3 = λ x y. refl;
    values_3 = λ x y. refl;
    rising = refl;
    rising_marks = (λ old. refl, λ old. refl);
    rising_left = λ x y. refl;
    rising_values = λ x y. refl;
    falling = refl;
    falling_marks = (λ old. refl, λ old. refl);
    falling_left = λ x y. refl;
    falling_values = λ x y. refl;
    prints_cleared = refl;
    cleared_3 = refl;
    cleared_3_marks = (λ old. refl, λ old. refl);
    prints_refused = refl;
    refused_0 = refl;
    refused_more = refl;
  },
  record {
    regular_0 = refl;
    fine_0 = refl;
    regular_M = refl;
    fine_M = refl;
    regular_above = refl;
    fine_above = refl;
    regular_none = refl;
    fine_none = refl;
    scan_M = refl;
    scan_M_left = λ x y z. refl;
    scan_M_values = λ x y z. refl;
    scan_above = λ m n. refl;
    scan_none = λ m n. refl;
    prints_0 = refl;
    prints_1 = refl;
    prints_above = refl;
    prints_M = refl;
    domain_0 = λ m n. refl;
    marks_0 = λ m n. (λ old. refl, λ old. refl);
    left_0 = λ n old. refl;
    values_0 = λ m old. refl;
    domain_1 = refl;
    domain_M = refl;
    domain_M_left = λ x y z. refl;
    domain_M_values = λ x y z. refl;
    none_and_0 = λ m n. refl;
    curve_and_0 = λ m n. refl;
    curve_and_above = refl;
    curve_alone = λ m n. refl;
  },
  record {
    scan_list_short = refl;
    scan_list_short_left = λ x. refl;
    scan_list_short_values = λ x y. refl;
    scan_values_short = refl;
    scan_values_short_left = λ x y. refl;
    scan_values_short_values = λ x. refl;
    domain_list_short = refl;
    domain_list_short_marks = (λ old. refl, λ old. refl);
    domain_list_short_left = λ x. refl;
    domain_list_short_values = λ x y. refl;
    domain_values_short = refl;
    domain_values_short_marks = (λ old. refl, λ old. refl);
    domain_values_short_left = λ x y. refl;
    domain_values_short_values = λ x. refl;
    scan_longer_list = λ x y z. refl;
    scan_longer_values = λ x y z. refl;
    domain_longer_list = λ x y z. refl;
    domain_longer_values = λ x y z. refl;
    cleared_values = λ x. refl;
  },
  record {
    prints = refl;
    read = refl;
    prints_1 = refl;
    prints_0 = refl;
    read_0 = refl;
    prints_above = refl;
    prints_most = refl;
    prints_more = refl;
    prints_twice = refl;
    prints_after = refl;
    prints_signed = refl;
    prints_zeros = refl;
    prints_six = refl;
    prints_longer = refl;
    answered = refl;
    marks = (λ old. refl, λ old. refl);
    left = λ x y z. refl;
    values = λ x y z. refl;
    curve_and_above = λ m n. refl;
    above_alone = λ m n. refl;
    most_alone = λ m n. refl;
    too_few = refl;
    above_marks = λ m n. (λ old. refl, λ old. refl);
    above_left = λ n old. refl;
    above_values = λ m old. refl;
  },
)

-- ---- digits and modular division

digits_and_division : DigitsAndDivision
unfolding dec_le dec_lt dec_dvd ℕ_discrete Dec.and ranged first_failing outcome named gcd_from gcd rows_from expansion last remainder_at denominator_at period zero_padded filter_range alternating_sum ◌modulo◌ digits_over digits_of residue_of arguments_of argument_of argument_refusal target_refusal digits_answer residue_answer divide_answer
digits_and_division =
    record {
      of_15 = refl;
      residue_15 = refl;
      target_30 = refl;
      of_44 = refl;
      residue_44 = refl;
      target_31 = refl;
      of_16 = refl;
      residue_16 = refl;
      target_44 = refl;
      of_0 = refl;
      of_45 = refl;
      residue_45 = refl;
      target_45 = refl;
      third_of_2 = refl;
      third_residue_2 = refl;
      third_of_3 = refl;
      third_residue_3 = refl;
      third_target_30 = refl;
      third_target_31 = refl;
      common_of_14 = refl;
      common_residue_14 = refl;
      common_of_15 = refl;
      common_target_3 = refl;
      common_target_4 = refl;
      last_of_44 = refl;
      last_residue_44 = refl;
      last_target_1 = refl;
      none_of_0 = refl;
      none_residue_0 = refl;
      none_of_1 = refl;
      none_residue_1 = refl;
      none_target_0 = refl;
      none_target_1 = refl;
      least_of_1 = refl;
      largest_last = refl;
      largest_residue = refl;
      wide_product = refl;
      every_place = refl;
      every_place_residue = refl;
      modulus_0 = refl;
      modulus_1 = refl;
      modulus_above = refl;
      step_45 = refl;
      step_46 = refl;
      step_47 = refl;
    }

pub settled : Settled
unfolding dec_le dec_lt Dec.and ranged first_failing outcome named segments.refusal rows_from expansion regular_from regular parts_from fine_from fine configurations_of reached_in reached residue least_from argument distance verdict_at regular_shown fine_shown regular_answer fine_answer
settled =
    record {
      p1 = example_1;
      p2 = refl;
      p3 = refl;
      p4 = record { by_regular = refl; by_fine = refl };
      p5 = record { regular_clear = refl; regular_possible = refl; fine_clear = refl; fine_possible = refl };
      p6 = example_6;
      p7 = example_7;
      p8 = example_8;
      p9 = example_9;
      p10 = domains.0;
      p11 = domains.1;
      both_sides = domains.2;
      any_length = domains.3;
      windows_from_1 = domains.4;
      values_beside_arguments = domains.5;
      counted_from_the_binade = domains.6;
      digits_and_division = digits_and_division;
    }
