-- The longest answer is reached: a job of 4,096 arguments of sixteen digits, all of them hard, with values of nineteen. Assumes nothing.
use mathlib.Core.Path.{◌≡◌, refl, sym, ap, ap₂, ◌∙◌}
use mathlib.Core.List.Memᴰ
use mathlib.Core.List.{List, [], ◌∷◌, Memᴰ}
use mathlib.Core.Logic.{inl}
use Prim.Native.Nat.{ℕ, zero, suc, ◌+◌, ◌*◌, ◌%◌, ◌^◌, ◌≤◌, ◌<◌}
use native.Mathlib.Omega.{arith}
use lib.IntN.{pos}
use lib.ListN.{length, replicate, length-append, length-map, length-replicate}
use Rattle.numbers.specs.Integers.{◌modulo◌}
use Rattle.numbers.proofs.Selections.{filter_full, less}
use Rattle.expansion.specs.Reached.Search.{regular}
use Rattle.segment.specs.Search.{verdict}
use Rattle.segment.specs.declared.Verdict.{Verdict}
use Rattle.segment.specs.declared.Verdict.TheVariants.{Clear, Possible}
use Rattle.parabola.specs.Parabola.{value_at, slope_at, is_hard, hard_list, centred}
use Rattle.domain.specs.Domain.{parabola_of, centred_of, hard_arguments, listed_arguments, hard_values, covering_of, Accepted}
use Rattle.domain.specs.declared.Domain.{Domain}
use Rattle.domain.specs.Answer.{marks_of}
use Rattle.domain.specs.Marks.{mark_number}
use Rattle.domain.specs.declared.Searched.{Searched}
use Rattle.std.proofs.Common.{Ok}
use Rattle.domain.proofs.Promises.{promised}
use Rattle.text.proofs.Promises as text
use Rattle.job.specs.Output.{places, answer_of, verdict_name, argument_lines, report, printed}
use Rattle.job.proofs.Outputs.{correct, line_length, marks_correct, hard_listed, values_listed, printed_report}

-- a constant in the largest unit, with the largest origin and window
abbrev pub longest_answered : Domain
longest_answered =
    record {
      origin = 4503599627370496;
      modulus = 4611686018427387904;
      value = 4611686018427387903;
      slope = 0;
      curve = pos 0;
      count = 4096;
      window = 4611686018427387904;
    }

taken_on : Accepted longest_answered
taken_on = (promised.accepted longest_answered).1 ((promised.searchable longest_answered).1 (omega arith), omega arith)

-- its values and slopes
constant : (x : ℕ) → (value_at (parabola_of longest_answered) x ≡ 4611686018427387903) × (slope_at (parabola_of longest_answered) x ≡ 0)
unfolding ◌modulo◌
constant zero =
    let v = promised.values longest_answered (omega arith) in (v.first (omega arith), v.slope_first (omega arith))
constant (suc x) =
    let v = promised.values longest_answered (omega arith) in
    let i = constant x in (
      v.differences x ∙ ap₂ (λ (a b : ℕ). (a + b) % 4611686018427387904) i.0 i.1,
      v.slope_differences x ∙ ap₂ (λ (a b : ℕ). (a + b) % 4611686018427387904) i.1 v.second,
    )

-- every argument is hard
all_hard : length (hard_arguments longest_answered) ≡ 4096
unfolding hard_list is_hard centred
all_hard =
    let c = promised.centred longest_answered taken_on.searchable in
    filter_full (is_hard (centred_of longest_answered)) 4096 0
    (λ x. (less (value_at (centred_of longest_answered) x) (centred_of longest_answered).window).1 ((c.hard x).1 (inl (omega (arith, (constant x).0)))))

-- what a search finds that lists them all
abbrev found : Verdict → Searched
found v = record { first = v; listed = 4096 }

-- and so phase 1 does not clear it
answered : answer_of longest_answered ≡ Ok (found Possible)
answered = go (verdict regular (covering_of longest_answered)) refl
  where
    go : (v : Verdict) → v ≡ verdict regular (covering_of longest_answered) → answer_of longest_answered ≡ Ok (found Possible)
    go v e = possible v (((correct longest_answered).searched (found v)).1 (taken_on, room, room, e, sym all_hard))
      where
        room : length (hard_arguments longest_answered) ≤ length (replicate {A = ℕ} places 0)
        room = omega (arith, all_hard, length-replicate {A = ℕ} places 0)

        possible : (v : Verdict) → answer_of longest_answered ≡ Ok (found v) → answer_of longest_answered ≡ Ok (found Possible)
        possible Possible a = a
        possible Clear a = absurd (omega (arith, ((correct longest_answered).cleared (found Clear) a refl).0))

-- arguments of sixteen digits with values of nineteen take 52 bytes each
lines_long : (xs vs : List ℕ) → length vs ≡ length xs → ((x : ℕ) → Memᴰ x xs → (10 ^ 15 ≤ x) × (x < 10 ^ 16))
    → ((v : ℕ) → Memᴰ v vs → (10 ^ 18 ≤ v) × (v < 10 ^ 19)) → length (argument_lines xs vs) ≡ 52 * length xs
unfolding argument_lines
lines_long [] [] e h k = refl
lines_long [] (v ∷ vs) e h k = absurd (omega (arith, e))
lines_long (x ∷ xs) [] e h k = absurd (omega (arith, e))
lines_long (x ∷ xs) (v ∷ vs) e h k =
    let argument = (text.promised).decimals x in
    let value = (text.promised).decimals v in
    let of_x = h x (Memᴰ.head refl) in
    let of_v = k v (Memᴰ.head refl) in
    omega (
      arith,
      line_length x v (argument_lines xs vs),
      argument.few 15 of_x.1,
      argument.many 15 of_x.0,
      value.few 18 of_v.1,
      value.many 18 of_v.0,
      lines_long xs vs (omega (arith, e)) (λ y m. h y (Memᴰ.tail m)) (λ y m. k y (Memᴰ.tail m)),
    )

lines : length (argument_lines (listed_arguments longest_answered) (hard_values longest_answered)) ≡ 52 * 4096
lines =
    let listed = hard_listed longest_answered answered in
    lines_long (listed_arguments longest_answered) (hard_values longest_answered) (values_listed longest_answered answered).as_many
    (λ y m. let h = (listed.exactly y).0 m in omega (arith, h.1, h.2.0))
    (λ v m. let r = Memᴰ.of_map (value_at (parabola_of longest_answered)) (hard_arguments longest_answered) m in omega (arith, r.2, (constant r.0).0))
    ∙ ap (λ (n : ℕ). 52 * n) listed.counted

pub longest_printed : length (printed longest_answered) ≡ 213034
unfolding report verdict_name
longest_printed =
    let digits = (text.promised).decimals (length (hard_arguments longest_answered)) in
    ap length (printed_report longest_answered answered)
    ∙ simp (length-append, length-map)
    (omega (arith, length-map (marks_of longest_answered) mark_number, (marks_correct longest_answered answered).eight, digits.few 3 (omega (arith, all_hard)), digits.many 3 (omega (arith, all_hard)), lines))
