-- All that is promised of domains and scans. Assumes nothing.
use mathlib.Core.Path.{◌≡◌, refl, sym, ◌∙◌, ap, ap₂, subst}
use mathlib.Core.List.{List, [], ◌++◌, map}
use mathlib.Core.Logic.{◌↔◌, ◌⊎◌, inl, inr, ⊎_elim}
use Prim.Native.Nat.{ℕ, zero, suc, ◌+◌, ◌^◌, ◌≤◌, ◌<◌}
use native.Mathlib.Omega.{arith}
use lib.Dec.{ltb}
use lib.ListN.{length, get_or, take, length-map}
use Rattle.numbers.specs.Checklist.{first_failing, unless_refused}
use Rattle.numbers.specs.Lists.{count_if, overwrite_front}
use Rattle.numbers.specs.Promise.{Enumerates, BufferCorrect}
use Rattle.numbers.proofs.Lists.{mapped_at}
use Rattle.numbers.proofs.Checklists.{without_holding, unrefused_new, refused_old}
use Rattle.std.proofs.Common.{Ok, Err}
use Rattle.numbers.specs.Refusals.{number_of, outcome, number_in}
use Rattle.numbers.specs.declared.refusals.Refusal.{Refusal}
use Rattle.numbers.specs.declared.refusals.Refusal.TheVariants.{Window}
use Rattle.numbers.proofs.Outcomes.{refusals_correct, not_refused, failing_number, number_positive, outcome_refuses}
use Rattle.numbers.proofs.Selections.{enumerates_moved}
use Rattle.numbers.proofs.Buffers.{front_correct, front_taken, front_ascends}
use Rattle.expansion.specs.Reached.Search.{regular}
use Rattle.geometry.specs.Segment.{Segment, residue}
use Rattle.geometry.specs.Segment as geometry
use Rattle.geometry.proofs.Promises as geometry_promises
use Rattle.segment.specs.Accepted as segment
use Rattle.segment.specs.Search.{verdict}
use Rattle.segment.specs.declared.Verdict.TheVariants.{Clear}
use Rattle.segment.proofs.Promises as segment_promises
use Rattle.parabola.specs.Parabola.{triangle, value_at, slope_at, centred, continued, part_count, part}
use Rattle.parabola.specs.Promise.{CoveringBothCorrect}
use Rattle.parabola.proofs.Laws.{positive}
use Rattle.parabola.proofs.Promises as parabola
use Rattle.arc.specs.Arc as arcs
use Rattle.arc.proofs.Promises as arc
use Rattle.domain.specs.Domain.{parabola_of, centred_of, hard_arguments, listed_arguments, hard_values, covering_of, part_covering, Searchable, Accepted, with_origin}
use Rattle.domain.specs.Scan.{next_point}
use Rattle.domain.specs.Answer.{room, domain_checks, domain_number, found, answer_with, domain_answer, marks_of, marks_after, mark_numbers_after, list_after, values_after, hard_residues, scan_checks, scan_number, scan_answer, scan_list_after, scan_values_after}
use Rattle.domain.specs.Promise.{ParabolaCorrect, ValueInNumbers, HardInNumbers, ListedInNumbers, BesideInNumbers, ValuesBeside, ResidueInSegment, HardInSegment, CoveringsCorrect, WithoutWindow, MarksCorrect, DomainCorrect, MarkNumbersCorrect, OriginCorrect, ScanCorrect, Promised}
use Rattle.domain.specs.declared.Domain.{Domain}
use Rattle.domain.specs.Marks.{mark_numbers}
use Rattle.domain.specs.declared.Searched.{Searched}
use Rattle.domain.specs.declared.marks.Mark.{Mark}
use Rattle.domain.specs.declared.marks.Mark.TheVariants as mark
use Rattle.domain.proofs.Answers.{Room, searched_in_range, number_accepts, number_as_segment, domain_named, scan_named, scan_accepts}
use Rattle.domain.proofs.Numbers.{value_in_numbers, hard_by_numbers, nearest, residue_in_segment, hard_in_segment}
use Rattle.domain.proofs.Parts.{none_listed}
use Rattle.domain.proofs.Verdicts.{searched_parts, part_in_range, phases_correct, marks_correct, marks_as_before}

parabola_correct : (d : Domain) → ParabolaCorrect d
unfolding value_at triangle
parabola_correct d =
    record { unit = refl; start = refl; slope = refl; curve = refl; count = refl; window = refl; value = λ x. refl }

-- ---- hard arguments

hard_lists : (d : Domain) → Searchable d → Enumerates (HardInNumbers d) (length (hard_arguments d)) (hard_arguments d)
unfolding centred
hard_lists d a =
    let l = (parabola.promised).hard_lists (centred_of d) a.count_high in
    record {
      exactly = λ x. (λ m. (hard_by_numbers d x a).0 ((l.exactly x).0 m), λ h. (l.exactly x).1 ((hard_by_numbers d x a).1 h));
      ascending = l.ascending;
      fits = l.fits;
      counted = refl;
    }

-- as they are listed
listed_are : (d : Domain) → Accepted d → Enumerates (ListedInNumbers d) (length (hard_arguments d)) (listed_arguments d)
listed_are d a =
    enumerates_moved d.origin (hard_lists d a.searchable) (λ x h. omega (arith, h.0, a.searchable.count_high, a.origin_within))

as_many : (d : Domain) → length (listed_arguments d) ≡ length (hard_arguments d)
as_many d = length-map (hard_arguments d) (λ (x : ℕ). d.origin + x)

listed_at : (d : Domain) (i : ℕ) → i < length (hard_arguments d) → get_or (listed_arguments d) i 0 ≡ d.origin + get_or (hard_arguments d) i 0
listed_at d = mapped_at (λ (x : ℕ). d.origin + x) (hard_arguments d)

-- the value of each beside it
hard_values_are : (d : Domain) → Searchable d → ValuesBeside d (listed_arguments d) (hard_values d)
hard_values_are d a =
    record {
      as_many = length-map (hard_arguments d) (value_at (parabola_of d)) ∙ sym (as_many d);
      each = λ i h.
          let x = get_or (hard_arguments d) i 0 in
          let l : i < length (hard_arguments d) = omega (arith, as_many d) in
          (x, listed_at d i l, subst (ValueInNumbers d x) (sym (mapped_at (value_at (parabola_of d)) (hard_arguments d) i l)) (value_in_numbers d x (positive a)));
    }

-- ---- covering segments

coverings_correct : (d : Domain) → Searchable d → CoveringsCorrect d
coverings_correct d a =
    let whole = (parabola.promised).centred_correct (parabola_of d) a in
    let parts = (parabola.promised).parts (parabola_of d) a in
    let covers : (i : ℕ) → 1 ≤ part_count d.count i → CoveringBothCorrect (part (parabola_of d) i) (part_covering d i)
    = λ i some. rw (whole.parts i) ((parabola.promised).centred_correct (part (parabola_of d) i) (parts.in_range_of i some)).covering_both in
    record {
      whole = whole.covering_both.numbers;
      whole_accepted = ((arc.promised).searched _ whole.in_range).covering_accepted;
      whole_covers = whole.covering_both;
      of_part = λ i h n l e f some. unfold continued value_at slope_at triangle in rw (e, f) (covers i (omega (arith, f, some))).numbers;
      part_accepted = λ i l some. ((arc.promised).searched _ (part_in_range d a i some)).covering_accepted;
      part_covers = λ i l some. covers i some;
    }

-- ---- domains

-- an answer is there exactly where nothing refuses
shows : {A : Type 0} (k : ℕ) (a : A) {x : A} → (outcome k a ≡ Ok x) ↔ ((k ≡ 0) × (x ≡ a))
unfolding outcome
shows zero a = (λ e. (refl, cc), λ h. ap Ok (sym h.1))
shows (suc k) a = (λ e. absurd (cc), λ h. absurd (omega (arith, h.0)))

-- a refusal has a number that is not 0
refused_number : {A : Type 0} (k : ℕ) (a : A) {r : Refusal} → outcome k a ≡ Err r → k ≡ 0 → ⊥
refused_number k a e z = not_refused a (rw z at e)

-- an empty list over another
nothing_over : {xs : List ℕ} (old : List ℕ) → xs ≡ [] → overwrite_front xs old ≡ old
unfolding overwrite_front
nothing_over old e = rw e refl

module _ (d : Domain) (old_marks : List Mark) (old old_values : List ℕ) where
  -- the number of the answer
  abbrev domain_number_of : ℕ
  domain_number_of = domain_number d (length old) (length old_values)

  -- what is accepted leaves the marks, the list and the values
  searched_leaves : domain_number_of ≡ 0
      → (marks_after d (length old) (length old_values) old_marks ≡ marks_of d)
      × (list_after d (length old_values) old ≡ overwrite_front (listed_arguments d) old)
      × (values_after d (length old) old_values ≡ overwrite_front (hard_values d) old_values)
  unfolding marks_after list_after values_after
  searched_leaves e = (unrefused_new _ old_marks e, unrefused_new _ old e, unrefused_new _ old_values e)

  domain_correct : DomainCorrect d old_marks old old_values (domain_answer d (length old) (length old_values))
      (marks_after d (length old) (length old_values) old_marks) (list_after d (length old_values) old) (values_after d (length old) old_values)
  unfolding domain_answer
  domain_correct =
      record {
        refused = λ r. unfold domain_number in
            outcome_refuses (domain_checks d (length old) (length old_values)) (found (centred_of d)) r (domain_named d (length old) (length old_values));
        unchanged = λ r e. unfold marks_after list_after values_after in
            let z = refused_number domain_number_of (found (centred_of d)) e in
            (refused_old domain_number_of _ old_marks z, refused_old domain_number_of _ old z, refused_old domain_number_of _ old_values z);
        searched = λ s. (
          λ e. let r = (reports s).0 e in let t = taken r.0 in (t.0, t.1.0, t.1.1, r.1, r.2),
          λ h. (reports s).1 ((number_accepts d (length old) (length old_values)).1 (h.0, (h.1, h.2)), h.3, h.4),
        );
        written = λ s e. searched_leaves ((reports s).0 e).0;
        marked = λ s e. let r = (reports s).0 e in
            subst (λ (m : List Mark). MarksCorrect d s.first (mark_numbers m)) (sym (searched_leaves r.0).0)
            (rw r.1 (marks_correct d (taken r.0).0.searchable (verdict regular (covering_of d))));
        cleared = λ s e v. cleared s v ((reports s).0 e);
        buffer = λ s e. buffer ((reports s).0 e).0;
        values_buffer = λ s e. values_buffer ((reports s).0 e).0;
        hard = λ s e. let r = (reports s).0 e in hard s.listed r.0 r.2;
        ascends = λ s e. let r = (reports s).0 e in
            λ i j h k. front_ascends (buffer r.0) (listed_are d (taken r.0).0).ascending i j h (omega (arith, r.2, as_many d));
        values = λ s e i h. let r = (reports s).0 e in values r.0 i (omega (arith, r.2, as_many d));
        after = λ s e i h.
            let r = (reports s).0 e in
            let beside = (hard_values_are d (taken r.0).0.searchable).as_many in
            ((buffer r.0).after i (omega (arith, r.2, as_many d)), (values_buffer r.0).after i (omega (arith, r.2, as_many d, beside)));
      }
    where
      reports : (s : Searched) → (answer_with domain_number_of (centred_of d) ≡ Ok s)
          ↔ ((domain_number_of ≡ 0) × (s.first ≡ verdict regular (covering_of d)) × (s.listed ≡ length (hard_arguments d)))
      reports s =
          let r = shows domain_number_of (found (centred_of d)) {x = s} in (
            λ e. let h = r.0 e in (h.0, ap (λ (s : Searched). s.first) h.1, ap (λ (s : Searched). s.listed) h.1),
            λ h. r.1 (h.0, λ i. record { first = h.1 i; listed = h.2 i }),
          )

      taken : domain_number_of ≡ 0 → Accepted d × Room (hard_arguments d) (length old) (length old_values)
      taken = (number_accepts d (length old) (length old_values)).0

      buffer : domain_number_of ≡ 0 → BufferCorrect (listed_arguments d) old (list_after d (length old_values) old)
      buffer e =
          subst (BufferCorrect (listed_arguments d) old) (sym (searched_leaves e).1)
          (front_correct (listed_arguments d) old (omega (arith, (taken e).1.0, as_many d)))

      values_buffer : domain_number_of ≡ 0 → BufferCorrect (hard_values d) old_values (values_after d (length old) old_values)
      values_buffer e =
          subst (BufferCorrect (hard_values d) old_values) (sym (searched_leaves e).2)
          (front_correct (hard_values d) old_values (omega (arith, (taken e).1.1, (hard_values_are d (taken e).0.searchable).as_many, as_many d)))

      values : domain_number_of ≡ 0 → (i : ℕ) → i < length (listed_arguments d)
          → BesideInNumbers d (get_or (list_after d (length old_values) old) i 0) (get_or (values_after d (length old) old_values) i 0)
      values e i h =
          let beside = hard_values_are d (taken e).0.searchable in
          rw ((buffer e).front i h, (values_buffer e).front i (omega (arith, beside.as_many))) (beside.each i h)

      hard : (n : ℕ) → domain_number_of ≡ 0 → n ≡ length (hard_arguments d)
          → Enumerates (ListedInNumbers d) n (take n (list_after d (length old_values) old))
      hard n e f =
          let t : take n (list_after d (length old_values) old) ≡ listed_arguments d
          = ap₂ take (f ∙ sym (as_many d)) (searched_leaves e).1 ∙ front_taken (listed_arguments d) old in
          subst (Enumerates (ListedInNumbers d) n) (sym t) (rw f (listed_are d (taken e).0))

      cleared : (s : Searched) → s.first ≡ Clear
          → (domain_number_of ≡ 0) × (s.first ≡ verdict regular (covering_of d)) × (s.listed ≡ length (hard_arguments d))
          → (s.listed ≡ 0) × (list_after d (length old_values) old ≡ old) × (values_after d (length old) old_values ≡ old_values)
          × ((x : ℕ) → HardInNumbers d x → ⊥)
      cleared s v r =
          let a = (taken r.0).0.searchable in
          let clear = sym r.1 ∙ v in
          let z : hard_arguments d ≡ [] = none_listed regular (searched_in_range d a) clear in (
            r.2 ∙ ap length z,
            (searched_leaves r.0).1 ∙ nothing_over old (ap (map (λ (x : ℕ). d.origin + x)) z),
            (searched_leaves r.0).2 ∙ nothing_over old_values (ap (map (value_at (parabola_of d))) z),
            λ x h. (phases_correct d a).first_none clear x h,
          )

-- ---- the marks by their numbers

module _ (d : Domain) (m n : ℕ) (old : List ℕ) where
  -- the number of the answer, and the numbers of the marks that it finds
  abbrev number : ℕ
  number = domain_number d m n

  abbrev numbers : List ℕ
  numbers = mark_numbers (marks_of d)

  mark_numbers_correct : MarkNumbersCorrect d old (domain_answer d m n)
      (mark_numbers_after d m n old)
  unfolding domain_answer mark_numbers_after
  mark_numbers_correct =
      record {
        unchanged = λ r e.
            refused_old number _ old (refused_number number (found (centred_of d)) e);
        marked = λ s e. let r = (shows number (found (centred_of d))).0 e in
            let accepted = ((number_accepts d m n).0 r.0).0.searchable in
            rw (unrefused_new numbers old r.0, r.1)
            (marks_correct d accepted (verdict regular (covering_of d)));
        written = λ s e.
            unrefused_new numbers old ((shows number (found (centred_of d))).0 e).0;
      }

-- what is done to the new and the old is done to what is left
unless_refused_of : {A B : Type 0} (f : A → B) (k : ℕ) (new old : A)
    → f (unless_refused k new old) ≡ unless_refused k (f new) (f old)
unfolding unless_refused
unless_refused_of f zero new old = refl
unless_refused_of f (suc k) new old = refl

by_number : (d : Domain) (old : List Mark) (m n : ℕ)
    → mark_numbers (marks_after d m n old) ≡ mark_numbers_after d m n (mark_numbers old)
unfolding marks_after mark_numbers_after
by_number d old m n = unless_refused_of mark_numbers (domain_number d m n) (marks_of d) old

-- ---- another origin

-- an origin that is not refused does not change the number
number_of_rest : (d : Domain) (m n : ℕ) → d.origin ≤ 2 ^ 52 → domain_number d m n ≡ first_failing (arcs.checks (parabola_of d) ++ room (hard_arguments d) m n)
unfolding domain_number
number_of_rest d m n h = without_holding (arcs.checks (parabola_of d)) _ (room (hard_arguments d) m n) h

origin_correct : (d : Domain) (o : ℕ) (old_marks : List Mark) (old old_values : List ℕ) → d.origin ≤ 2 ^ 52 → o ≤ 2 ^ 52 → OriginCorrect d o old_marks old old_values
origin_correct d o old_marks old old_values h k =
    record {
      is = refl;
      same_answer = same_answer;
      same_marks = unfold marks_after in ap (λ (n : ℕ). unless_refused n (marks_of d) old_marks) same_number;
      same_mark_numbers = λ numbers. unfold mark_numbers_after in
          ap (λ (n : ℕ). unless_refused n (mark_numbers (marks_of d)) numbers) same_number;
      same_values = unfold values_after in ap (λ (n : ℕ). unless_refused n (overwrite_front (hard_values d) old_values) old_values) same_number;
      moved = λ s e i l.
          let here = domain_correct d old_marks old old_values in
          let there = domain_correct (with_origin o d) old_marks old old_values in
          let m : i < length (hard_arguments d) = omega (arith, ((here.searched s).0 e).4) in
          omega (
            arith,
            (here.buffer s e).front i (omega (arith, as_many d)) ∙ listed_at d i m,
            (there.buffer s (same_answer ∙ e)).front i (omega (arith, as_many (with_origin o d))) ∙ listed_at (with_origin o d) i m,
          );
    }
  where
    same_number : domain_number (with_origin o d) (length old) (length old_values) ≡ domain_number d (length old) (length old_values)
    same_number = number_of_rest (with_origin o d) (length old) (length old_values) k ∙ sym (number_of_rest d (length old) (length old_values) h)

    same_answer : domain_answer (with_origin o d) (length old) (length old_values) ≡ domain_answer d (length old) (length old_values)
    same_answer = unfold domain_answer in ap (λ (n : ℕ). answer_with n (centred_of d)) same_number

-- the number of a domain that is 1 to 5 is that of the segment: else the segment has 0, and what is asked after it has 6, 11 or 7
refused_as_segment : (d : Domain) (list_places value_places : ℕ) (r : Refusal) → number_of r ≤ 5
    → (domain_answer d list_places value_places ≡ Err r)
    ↔ (segment.refusal (segment.asked d.modulus d.slope d.value d.count d.window) ≡ number_of r)
unfolding domain_answer
refused_as_segment d m n r high =
    let low = number_positive r in
    let s = number_as_segment d m n low high in
    let k = domain_number d m n in
    let named = failing_number (domain_checks d m n) (found (centred_of d)) (domain_named d m n) in (
      λ e. s.0 (unfold domain_number in sym named ∙ ap number_in e),
      λ e. ap (λ (k : ℕ). outcome k (found (centred_of d))) (s.1 e) ∙ refusals_correct.refused r (found (centred_of d)),
    )

-- ---- scans

module _ (s : Segment) where
  module _ (old old_values : List ℕ) where
    -- the number of the answer, and what is then in the list and in the values
    abbrev scan_number_of : ℕ
    scan_number_of = scan_number s (length old) (length old_values)

    abbrev new_list : List ℕ
    new_list = unless_refused scan_number_of (overwrite_front (geometry.hard_list s) old) old

    abbrev new_values : List ℕ
    new_values = unless_refused scan_number_of (overwrite_front (hard_residues s) old_values) old_values

    scan_correct : ScanCorrect s old old_values (outcome scan_number_of (length (geometry.hard_list s))) new_list new_values
    scan_correct =
        record {
          refused = λ r. unfold scan_number in
              outcome_refuses (scan_checks s (length old) (length old_values)) (length (geometry.hard_list s)) r (scan_named s (length old) (length old_values));
          unchanged = λ r e.
              let z = refused_number scan_number_of (length (geometry.hard_list s)) e in
              (refused_old scan_number_of _ old z, refused_old scan_number_of _ old_values z);
          listed = λ n. (
            λ e. let r = (shows scan_number_of (length (geometry.hard_list s)) {x = n}).0 e in let t = taken r.0 in (t.0, t.1.0, t.1.1, r.1),
            λ h. (shows scan_number_of (length (geometry.hard_list s)) {x = n}).1 ((scan_accepts s (length old) (length old_values)).1 (h.0, (h.1, h.2)), h.3),
          );
          buffer = λ n e. buffer ((shows scan_number_of (length (geometry.hard_list s)) {x = n}).0 e).0;
          values_buffer = λ n e. values_buffer ((shows scan_number_of (length (geometry.hard_list s)) {x = n}).0 e).0;
          hard = λ n e. hard n ((shows scan_number_of (length (geometry.hard_list s)) {x = n}).0 e);
          ascends = λ n e. let r = (shows scan_number_of (length (geometry.hard_list s)) {x = n}).0 e in
              λ i j h k. front_ascends (buffer r.0) (listed r.0).ascending i j h (omega (arith, r.1));
          values = λ n e i h. let r = (shows scan_number_of (length (geometry.hard_list s)) {x = n}).0 e in values r.0 i (omega (arith, r.1));
          after = λ n e i h.
              let r = (shows scan_number_of (length (geometry.hard_list s)) {x = n}).0 e in
              let as_many = length-map (geometry.hard_list s) (residue s) in
              ((buffer r.0).after i (omega (arith, r.1)), (values_buffer r.0).after i (omega (arith, r.1, as_many)));
        }
      where
        taken : scan_number_of ≡ 0 → segment.Accepted s × Room (geometry.hard_list s) (length old) (length old_values)
        taken = (scan_accepts s (length old) (length old_values)).0

        buffer : scan_number_of ≡ 0 → BufferCorrect (geometry.hard_list s) old new_list
        buffer e =
            subst (BufferCorrect (geometry.hard_list s) old) (sym (unrefused_new _ old e)) (front_correct (geometry.hard_list s) old (taken e).1.0)

        values_buffer : scan_number_of ≡ 0 → BufferCorrect (hard_residues s) old_values new_values
        values_buffer e =
            subst (BufferCorrect (hard_residues s) old_values) (sym (unrefused_new _ old_values e))
            (front_correct (hard_residues s) old_values (omega (arith, (taken e).1.1, length-map (geometry.hard_list s) (residue s))))

        values : scan_number_of ≡ 0 → (i : ℕ) → i < length (geometry.hard_list s)
            → ResidueInSegment s.unit s.step s.start (get_or new_list i 0) (get_or new_values i 0)
        values e i h =
            let a = (taken e).0 in
            rw ((buffer e).front i h, (values_buffer e).front i (omega (arith, length-map (geometry.hard_list s) (residue s))), mapped_at (residue s) (geometry.hard_list s) i h)
            (residue_in_segment s (get_or (geometry.hard_list s) i 0) a.step_below a.start_below)

        listed : scan_number_of ≡ 0
            → Enumerates (geometry.Hard s) (count_if (λ x. ltb (residue s x) s.window) s.count 0) (geometry.hard_list s)
        listed e = (geometry_promises.promised).hard_lists s (taken e).0.count_high

        hard : (n : ℕ) → (scan_number_of ≡ 0) × (n ≡ length (geometry.hard_list s))
            → Enumerates (HardInSegment s.unit s.step s.start s.count s.window) n (take n new_list)
        hard n r =
            let l = listed r.0 in
            let a = (taken r.0).0 in
            let t : take n new_list ≡ geometry.hard_list s
            = ap₂ take r.1 (unrefused_new _ old r.0) ∙ front_taken (geometry.hard_list s) old in
            subst (Enumerates (HardInSegment s.unit s.step s.start s.count s.window) n) (sym t)
            (record {
              exactly = λ x. let h = hard_in_segment s x a.step_below a.start_below in (λ m. h.0 ((l.exactly x).0 m), λ i. (l.exactly x).1 (h.1 i));
              ascending = l.ascending;
              fits = l.fits;
              counted = sym r.1;
            })

-- ---- a window of 0

without_window : (d : Domain) → d.window ≡ 0 → WithoutWindow d
without_window d e =
    record {
      none_hard = λ x h. ⊎_elim (λ l. omega (arith, e, l)) (λ l. omega (arith, e, l)) h.1.2;
      refused = λ list_places value_places low high slope value some most.
          (refused_as_segment d list_places value_places Window (omega arith)).1
          (rw e (((segment_promises.promised).without_window _ _ _ _).refused low high slope value some most).0);
    }

-- ---- all of it

four_marks : (m : Mark) → (m ≡ mark.Unseen) ⊎ (m ≡ mark.Clear) ⊎ (m ≡ mark.Possible) ⊎ (m ≡ mark.Empty)
four_marks mark.Unseen = inl refl
four_marks mark.Clear = inr (inl refl)
four_marks mark.Possible = inr (inr (inl refl))
four_marks mark.Empty = inr (inr (inr refl))

pub promised : Promised
promised =
    record {
      parabolas = parabola_correct;
      values = λ d positive. (parabola.promised).values (parabola_of d) positive;
      centred = λ d a. (parabola.promised).centred_correct (parabola_of d) a;
      nearest = λ d a x. nearest d x a.window_high;
      hard_lists = hard_lists;
      hard_values_are = hard_values_are;
      accepted = λ d. (λ a. (a.searchable, a.origin_within), λ h. record { searchable = h.0; origin_within = h.1 });
      searchable = λ d. (λ a. omega arith, λ h. omega arith);
      listed_are = listed_are;
      mark_numbers_left = λ d old m n. mark_numbers_correct d m n old;
      by_number = λ d old m n. by_number d old m n;
      origins = origin_correct;
      coverings = coverings_correct;
      eight_parts = λ d. (parabola.promised).eight_parts d.count;
      parts = λ d a. (parabola.promised).parts (parabola_of d) a;
      centred_parts = searched_parts;
      differences = λ p x positive. unfold next_point in
          let v = (parabola.promised).values p positive in λ j. record { value = sym (v.differences x) j; slope = sym (v.slope_differences x) j };
      phases = phases_correct;
      refused_as_segment = refused_as_segment;
      marks_as_before = marks_as_before;
      domains = domain_correct;
      scans = λ M a b N w old old_values. unfold scan_answer scan_list_after scan_values_after in scan_correct (segment.asked M a b N w) old old_values;
      without_window = without_window;
      domain_numbers = λ r s. (refl, refl, refl, refl, refl, refl);
      four_marks = four_marks;
      mark_numbers_are = refl;
      scan_numbers = λ r n. (refl, refl, refl, refl);
    }
