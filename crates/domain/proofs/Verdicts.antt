-- The phases and the marks as promised. Assumes nothing.
use mathlib.Core.Path.{◌≡◌, refl, sym, ◌∙◌, ap, ap₂}
use mathlib.Core.List.{List, map-map}
use mathlib.Core.Logic.{◌↔◌, by_cases}
use Prim.Native.Nat.{ℕ, zero, suc, ◌+◌, ◌-◌, ◌*◌, ◌/◌, ◌%◌, ◌≤◌, ◌<◌}
use native.Mathlib.Decide.{dec_lt}
use native.Mathlib.Omega.{arith}
use lib.ListN.{length, get_or, replicate, get_or-replicate, get_or-eq_default}
use Rattle.numbers.proofs.Equivalences.{through}
use Rattle.numbers.specs.Lists.{tabulate}
use Rattle.numbers.proofs.Lists.{mapped_at}
use Rattle.numbers.proofs.Selections.{tabulate_length, tabulate_at}
use Rattle.expansion.specs.Reached.{Search}
use Rattle.expansion.specs.Reached.Search.{regular, fine}
use Rattle.segment.specs.Search.{verdict}
use Rattle.segment.specs.Promise.{VerdictsCorrect}
use Rattle.segment.specs.declared.Verdict.{Verdict}
use Rattle.segment.specs.declared.Verdict.TheVariants.{Clear, Possible}
use Rattle.segment.proofs.Laws.{apart}
use Rattle.segment.proofs.Promises as segment
use Rattle.parabola.specs.Parabola.{Parabola, InRange, value_at, centred, covering, continued, part_start, part_count, part}
use Rattle.parabola.specs.Promise.{PartsCorrect}
use Rattle.parabola.proofs.Promises as parabola
use Rattle.arc.proofs.Promises as arc
use Rattle.domain.specs.Domain.{centred_of, covering_of, part_covering, Searchable}
use Rattle.domain.specs.Answer.{marks_of}
use Rattle.domain.specs.Marks.{mark_number, mark_numbers}
use Rattle.domain.specs.Phases.{mark_of, mark_with, part_mark, part_marks, marks_by}
use Rattle.domain.specs.Promise.{NoneInPart, PhasesCorrect, MarksCorrect}
use Rattle.domain.specs.declared.Domain.{Domain}
use Rattle.domain.proofs.Parts.{otherwise, mark_some}
use Rattle.domain.proofs.Answers.{searched_in_range}
use Rattle.domain.proofs.Numbers.{hard_by_numbers}

-- what the searches promise of the covering segment of a parabola within the bounds
verdicts : (k : Search) {p : Parabola} → InRange p
    → VerdictsCorrect k (covering p).unit (covering p).step (covering p).start (covering p).count (covering p).window
verdicts k {p} range = (segment.promised).verdicts k _ _ _ _ _ ((arc.promised).searched p range).covering_accepted

module _ (d : Domain) (a : Searchable d) where
  -- the parts of the parabola that the phases search
  pub searched_parts : PartsCorrect (centred_of d)
  searched_parts = (parabola.promised).parts (centred_of d) (searched_in_range d a)

  pub part_in_range : (i : ℕ) → 1 ≤ part_count d.count i → InRange (part (centred_of d) i)
  unfolding centred
  part_in_range i some = searched_parts.in_range_of i some

  part_none : (i : ℕ) → 1 ≤ part_count d.count i → verdict fine (part_covering d i) ≡ Clear → NoneInPart d i
  unfolding centred
  part_none i some e x l h =
      let y : part_start d.count i + (x - part_start d.count i) ≡ x = omega (arith, l.0) in
      ((arc.promised).searched _ (part_in_range i some)).cleared fine e (x - part_start d.count i) (
        omega (arith, l.0, l.1, searched_parts.length_of i, ((parabola.promised).eight_parts d.count).next i),
        omega (
          arith,
          ((hard_by_numbers d x a).1 h).1,
          ap (value_at (centred_of d)) y,
          searched_parts.continues i (x - part_start d.count i),
          (searched_parts.same i).2,
        ),
      )

  pub phases_correct : PhasesCorrect d
  phases_correct =
      record {
        first_cleared = (verdicts regular (searched_in_range d a)).answered;
        first_distance = (verdicts regular (searched_in_range d a)).by_distance;
        first_none = λ e x h. ((arc.promised).searched _ (searched_in_range d a)).cleared regular e x ((hard_by_numbers d x a).1 h);
        part_cleared = λ i some. (verdicts fine (part_in_range i some)).answered;
        part_distance = λ i some. (verdicts fine (part_in_range i some)).by_distance;
        part_none = part_none;
      }

-- ---- marks

-- the number of a part's mark tells whether it has arguments, and its verdict
abbrev number_with : (count : ℕ) → Verdict → ℕ
number_with n v = mark_number (mark_with n v)

mark_clear : (n : ℕ) (v : Verdict) → (number_with n v ≡ 1) ↔ ((1 ≤ n) × (v ≡ Clear))
unfolding mark_of mark_with
mark_clear zero v = (λ e. absurd (omega (arith, e)), λ h. absurd (omega (arith, h.0)))
mark_clear (suc n) Clear = (λ e. (omega arith, refl), λ h. refl)
mark_clear (suc n) Possible = (λ e. absurd (omega (arith, e)), λ h. absurd (apart (sym h.1)))

mark_possible : (n : ℕ) (v : Verdict) → (number_with n v ≡ 2) ↔ ((1 ≤ n) × (v ≡ Possible))
unfolding mark_of mark_with
mark_possible zero v = (λ e. absurd (omega (arith, e)), λ h. absurd (omega (arith, h.0)))
mark_possible (suc n) Clear = (λ e. absurd (omega (arith, e)), λ h. absurd (apart h.1))
mark_possible (suc n) Possible = (λ e. (omega arith, refl), λ h. refl)

mark_none : (n : ℕ) (v : Verdict) → (number_with n v ≡ 3) ↔ (n ≡ 0)
unfolding mark_of mark_with
mark_none zero v = (λ e. refl, λ e. refl)
mark_none (suc n) Clear = (λ e. absurd (omega (arith, e)), λ z. absurd (omega (arith, z)))
mark_none (suc n) Possible = (λ e. absurd (omega (arith, e)), λ z. absurd (omega (arith, z)))

-- it is 1, 2 or 3
mark_looked_at : (n : ℕ) (v : Verdict) → (1 ≤ number_with n v) × (number_with n v ≤ 3)
unfolding mark_of mark_with
mark_looked_at zero v = (omega arith, omega arith)
mark_looked_at (suc n) Clear = (omega arith, omega arith)
mark_looked_at (suc n) Possible = (omega arith, omega arith)

-- of eight entries none is above 3
eight_small : (xs : List ℕ) → length xs ≡ 8 → ((i : ℕ) → i < 8 → get_or xs i 0 ≤ 3) → (i : ℕ) → get_or xs i 0 ≤ 3
eight_small xs e small i =
    by_cases (dec_lt i 8) (small i) (λ h. omega (arith, get_or-eq_default xs 0 {n = i} (omega (arith, e))))

-- the marks of the parts that are looked at, by number
abbrev numbers_of : Domain → List ℕ
numbers_of d = mark_numbers (part_marks (centred_of d))

numbers_eight : (d : Domain) → length (numbers_of d) ≡ 8
unfolding tabulate
numbers_eight d = refl

mark_at : (d : Domain) (i : ℕ) → i < 8 → get_or (numbers_of d) i 0 ≡ number_with (part_count d.count i) (verdict fine (part_covering d i))
unfolding continued centred
mark_at d i h =
    let places = tabulate (λ i. i) 8 0 in
    let number : ℕ → ℕ = λ i. mark_number (part_mark (centred_of d) i) in
    ap (λ (xs : List ℕ). get_or xs i 0) (map-map mark_number (part_mark (centred_of d)) places)
    ∙ mapped_at number places i (omega (arith, h, tabulate_length (λ i. i) 8 0))
    ∙ ap number (tabulate_at (λ i. i) 8 i h)

pub marks_correct : (d : Domain) → Searchable d → (v : Verdict) → MarksCorrect d v (mark_numbers (marks_by v (centred_of d)))
unfolding marks_by
marks_correct d a Clear =
    let zero_at : (i : ℕ) → i < 8 → ◌≡◌ {A = ℕ} (get_or (replicate 8 0) i 0) 0 = λ i h. get_or-replicate {A = ℕ} 8 i 0 0 h in
    record {
      eight = refl;
      at_most_3 = eight_small (replicate 8 0) refl (λ i h. omega (arith, zero_at i h));
      not_looked_at = λ i h. (λ e. refl, λ e. zero_at i h);
      clear = λ i h. (λ e. absurd (omega (arith, e, zero_at i h)), λ k. absurd (apart k.0));
      possible = λ i h. (λ e. absurd (omega (arith, e, zero_at i h)), λ k. absurd (apart k.0));
      empty = λ i h. (λ e. absurd (omega (arith, e, zero_at i h)), λ k. absurd (apart k.0));
      none_hard = λ i h e. absurd (omega (arith, e, zero_at i h));
      hard_in_2 = λ e. absurd (apart e);
    }
marks_correct d a Possible =
    let marks = numbers_of d in
    let long = numbers_eight d in
    let looked : (i : ℕ) → i < 8 → (1 ≤ get_or (numbers_of d) i 0) × (get_or (numbers_of d) i 0 ≤ 3)
    = λ i h. rw (mark_at d i h) (mark_looked_at _ _) in
    record {
      eight = long;
      at_most_3 = eight_small marks long (λ i h. (looked i h).1);
      not_looked_at = λ i h. (λ e. absurd (omega (arith, e, (looked i h).0)), λ e. absurd (apart (sym e)));
      clear = λ i h. let m = through (mark_at d i h) (mark_clear _ _) in (λ e. let k = m.0 e in (refl, k.0, k.1), λ k. m.1 (k.1, k.2));
      possible = λ i h. let m = through (mark_at d i h) (mark_possible _ _) in (λ e. let k = m.0 e in (refl, k.0, k.1), λ k. m.1 (k.1, k.2));
      empty = λ i h. let m = through (mark_at d i h) (mark_none _ _) in (λ e. (refl, m.0 e), λ k. m.1 k.1);
      none_hard = λ i h e. let k = (mark_clear _ _).0 (sym (mark_at d i h) ∙ e) in part_none d a i k.0 k.1;
      hard_in_2 = λ e i h x l n.
          let some : 1 ≤ part_count d.count i = omega (arith, l.0, l.1, ((parabola.promised).eight_parts d.count).next i) in
          mark_at d i h ∙ (mark_possible _ _).1 (some, otherwise _ (λ c. part_none d a i some c x l n));
    }

-- where all parts have N/8 arguments, and at least one, a mark is by the verdict on such a part
pub marks_as_before : (d : Domain) → Searchable d → 8 ≤ d.count → d.count % 8 ≡ 0 → verdict regular (covering_of d) ≡ Possible → (i : ℕ) → i < 8
    → get_or (mark_numbers (marks_of d)) i 0 ≡ mark_number (mark_of (verdict fine (covering (continued (centred_of d) (i * (d.count / 8)) (d.count / 8)))))
unfolding marks_by centred
marks_as_before d a low e possible i h =
    let same = ((parabola.promised).eight_parts d.count).of_a_multiple e i in
    ap (λ (v : Verdict). get_or (mark_numbers (marks_by v (centred_of d))) i 0) possible
    ∙ mark_at d i h
    ∙ ap mark_number (mark_some _ _ (omega (arith, same.1)))
    ∙ ap₂ (λ (b n : ℕ). mark_number (mark_of (verdict fine (covering (continued (centred_of d) b n))))) same.0 same.1
