-- What the calls answer and leave, from what their parts have found. Assumes nothing.
use mathlib.Core.Path.{◌≡◌, refl, sym, ◌∙◌, ap, ap₂}
use mathlib.Core.List.{List, [], ◌∷◌, ◌++◌, map}
use mathlib.Core.Logic.{◌↔◌, inl, ⊎_elim, by_cases}
use Prim.Native.Nat.{ℕ, ◌+◌, ◌-◌, ◌%◌, ◌^◌, ◌≤◌, ◌<◌, min}
use native.Mathlib.Nat.{zero-add, sub-zero, mod-lt, mod-eq_of_lt, mod-eq-sub-mod}
use native.Mathlib.Decide.{dec_lt, ℕ_discrete}
use native.Mathlib.Omega.{arith}
use lib.ListN.{length, replicate, length-map}
use lib.Seq.{sets}
use Rattle.numbers.specs.Checklist.{conditions, first_failing, unless_refused}
use Rattle.numbers.specs.Lists.{overwrite_front}
use Rattle.std.proofs.Common.{Result, Ok, Err, inr}
use Rattle.numbers.specs.Refusals.{named, outcome, tested}
use Rattle.numbers.specs.declared.refusals.Refusal.{Refusal}
use Rattle.numbers.specs.declared.refusals.Refusal.TheVariants as refusals
use Rattle.numbers.proofs.Outcomes.{IsNamed, not_refused, refused_alike, refused_first, outcome_refused}
use Rattle.numbers.proofs.Checklists.{AllNumbers, accepts, accepted, gives, first_of_two, second_of_two, neither_refuses, refused_old}
use Rattle.numbers.proofs.Remainders.{difference_within, difference_around}
use Rattle.numbers.proofs.Buffers.{written_front}
use Rattle.expansion.specs.Reached.Search.{regular}
use Rattle.geometry.specs.Segment.{Segment, residue}
use Rattle.geometry.specs.Segment as geometry
use Rattle.segment.specs.Accepted as segment
use Rattle.segment.specs.Search.{verdict}
use Rattle.segment.specs.declared.Verdict.TheVariants.{Clear, Possible}
use Rattle.segment.proofs.Promises as segment_promises
use Rattle.parabola.specs.Parabola.{Parabola, InRange, value_at, centred, hard_list, covering, line}
use Rattle.parabola.proofs.Laws.{positive}
use Rattle.parabola.proofs.Promises as parabola_promises
use Rattle.arc.specs.Arc.{parabola}
use Rattle.arc.specs.Arc as arc
use Rattle.arc.specs.declared.Arc.{Arc}
use Rattle.arc.proofs.Promises as arc_promises
use Rattle.domain.specs.Domain.{parabola_of, centred_of, hard_arguments, hard_values, covering_of, Searchable, Accepted}
use Rattle.domain.specs.Scan.{listed_from, lowered, lowered_values}
use Rattle.domain.specs.Phases.{marks_by, report}
use Rattle.domain.specs.Answer.{room, origin_checks, own_checks, domain_checks, domain_number, found, answer_with, domain_answer, marks_after, list_after, values_after, too_few, marks_with, list_with, values_with, hard_residues, scan_checks, scan_number}
use Rattle.domain.specs.declared.Domain.{Domain}
use Rattle.domain.specs.declared.Searched.{Searched}
use Rattle.domain.specs.declared.marks.Mark.{Mark}
use Rattle.domain.specs.declared.marks.Mark.TheVariants as mark
use Rattle.domain.specs.declared.phases.Report.{Report}
use Rattle.domain.proofs.Parts.{none_listed, otherwise}

-- ---- which domains are accepted

pub searchable_iff : (d : Domain) → (arc.refusal (parabola_of d) ≡ 0) ↔ Searchable d
searchable_iff d = ((arc_promises.promised).refusals (parabola_of d)).accepted

-- nothing that is asked of it but for places refuses it
accepted_iff : (d : Domain) → (first_failing (own_checks d) ≡ 0) ↔ Accepted d
unfolding arc.refusal
accepted_iff d =
    let r = neither_refuses (arc.checks (parabola_of d)) (origin_checks d) (omega arith) in
    let s = searchable_iff d in (
      λ e. record { searchable = s.0 (r.0 e).0; origin_within = ((accepts (origin_checks d) (omega arith)).0 (r.0 e).1).0 },
      λ a. r.1 (s.1 a.searchable, accepted (origin_checks d) (a.origin_within, tt)),
    )

-- the parabola that the phases search is within the bounds too
pub searched_in_range : (d : Domain) → Searchable d → InRange (centred_of d)
searched_in_range d a = ((parabola_promises.promised).centred_correct (parabola_of d) a).in_range

-- a list and values have places enough
abbrev pub Room : (xs : List ℕ) → (list_places value_places : ℕ) → Type 0
Room xs m n = (length xs ≤ m) × (length xs ≤ n)

-- 0 exactly where they have
room_iff : (xs : List ℕ) (m n : ℕ) → (first_failing (room xs m n) ≡ 0) ↔ Room xs m n
room_iff xs m n = let r = accepts (room xs m n) (omega arith) in (λ e. (r.0 e).0, λ h. r.1 (h, tt))

-- where the shorter of them has not, that is refused
room_refused : {A : Type 0} (xs : List ℕ) (m n : ℕ) (a : A) → min m n < length xs → outcome (first_failing (room xs m n)) a ≡ Err refusals.Room
room_refused xs m n a h = sym (outcome_refused (room xs m n) refusals.Room a (inl (refl, λ l. omega (arith, h, l.0, l.1))))

-- each number of a checklist is that of a refusal
pub domain_named : (d : Domain) (m n : ℕ) → AllNumbers IsNamed (conditions (domain_checks d m n))
unfolding named
domain_named d m n = (refl, (refl, (refl, (refl, (refl, (refl, (refl, (refl, tt))))))))

pub scan_named : (s : Segment) (m n : ℕ) → AllNumbers IsNamed (conditions (scan_checks s m n))
unfolding named
scan_named s m n = (refl, (refl, (refl, (refl, (refl, (refl, tt))))))

pub number_accepts : (d : Domain) (m n : ℕ) → (domain_number d m n ≡ 0) ↔ (Accepted d × Room (hard_arguments d) m n)
unfolding domain_number
number_accepts d m n =
    let r = neither_refuses (own_checks d) (room (hard_arguments d) m n) (omega arith) in
    let i = room_iff (hard_arguments d) m n in
    let a = accepted_iff d in (λ e. let h = r.0 e in (a.0 h.0, i.0 h.1), λ h. r.1 (a.1 h.0, i.1 h.1))

-- of the numbers 1 to 5 it has the one that the segment with its slope for the step and its value for the start has
pub number_as_segment : (d : Domain) (list_places value_places : ℕ) {n : ℕ} → 1 ≤ n → n ≤ 5
    → (domain_number d list_places value_places ≡ n) ↔ (segment.refusal (arc.line_of (parabola_of d)) ≡ n)
unfolding domain_number segment.refusal
number_as_segment d list_places value_places {n} low high =
    let cs = segment.checks (arc.line_of (parabola_of d)) in
    let ds = arc.curve_checks (parabola_of d) ++ (origin_checks d ++ room (hard_arguments d) list_places value_places) in (
      λ e. by_cases (ℕ_discrete (first_failing cs) 0)
          (λ z. absurd
          (⊎_elim (λ h. omega (arith, h.0)) (λ h. ⊎_elim (λ k. omega (arith, k.0)) (λ k. ⊎_elim (λ l. omega (arith, l.0)) (λ l. l.1) k.1) h.1)
          ((gives ds (omega arith) n).0 (sym (second_of_two cs ds ((accepts cs (omega arith)).0 z)) ∙ e, λ z. omega arith))))
          (λ h. sym (first_of_two cs ds refl h) ∙ e),
      λ e. first_of_two cs ds e (λ z. omega (arith, e, z)),
    )

pub scan_accepts : (s : Segment) (m n : ℕ) → (scan_number s m n ≡ 0) ↔ (segment.Accepted s × Room (geometry.hard_list s) m n)
unfolding scan_number
scan_accepts s m n =
    let r = neither_refuses (segment.checks s) (room (geometry.hard_list s) m n) (omega arith) in
    let i = room_iff (geometry.hard_list s) m n in
    let a = (segment_promises.promised).accepted _ _ _ _ _ in
    (λ e. let h = r.0 e in (a.0 (unfold segment.refusal in h.0), i.0 h.1), λ h. r.1 (unfold segment.refusal in a.1 h.0, i.1 h.1))

-- ---- what a number makes of an answer and of the buffers

-- the answer, the marks, the list and the values
abbrev Leaves : (number origin raise : ℕ) → Parabola → (old_marks : List Mark) → (old old_values : List ℕ) → (answer : Result Searched Refusal)
    → (new_marks : List Mark) → (new new_values : List ℕ) → Type 0
Leaves n origin raise p old_marks old old_values answer new_marks new new_values =
    record {
      value : answer ≡ answer_with n p;
      marks_after : new_marks ≡ marks_with n p old_marks;
      list_after : new ≡ list_with n origin p old;
      values_after : new_values ≡ values_with n raise p old_values;
    }

-- a number that refuses leaves a buffer as it was
kept : {A : Type 0} (n : ℕ) (a : A) {r : Refusal} → outcome n a ≡ Err r → {B : Type 0} (new old : B) → old ≡ unless_refused n new old
kept n a e new old = sym (refused_old n new old (λ z. not_refused a (rw z at e)))

-- ---- phases 2 and 3

module _ (p : Parabola) (origin raise : ℕ) (old_marks : List Mark) (old old_values : List ℕ) where
  pub parts_refused : min (length old) (length old_values) < length (hard_list p)
      → Leaves (too_few p (length old) (length old_values)) origin raise p old_marks old old_values (Err refusals.Room) old_marks old old_values
  unfolding too_few
  parts_refused h =
      let e = room_refused (hard_list p) (length old) (length old_values) (found p) h in
      record { value = sym e; marks_after = kept _ _ e _ old_marks; list_after = kept _ _ e _ old; values_after = kept _ _ e _ old_values }

  pub parts_searched : verdict regular (covering p) ≡ Possible → Room (hard_list p) (length old) (length old_values) → {r : Report} → r ≡ report p
      → {new new_values : List ℕ} → (new ≡ overwrite_front (listed_from origin p) old) × (new_values ≡ overwrite_front (lowered_values raise p) old_values)
      → Leaves (too_few p (length old) (length old_values)) origin raise p old_marks old old_values (Ok (record { first = Possible; listed = r.total })) r.marks new new_values
  unfolding too_few outcome unless_refused report marks_by
  parts_searched v h e f =
      rw (accepted (room (hard_list p) (length old) (length old_values)) (h, tt), v, e, f.0, f.1) (record { value = refl; marks_after = refl; list_after = refl; values_after = refl })

-- ---- the whole domain

-- a value that was raised and lowered again
raised_lowered : (M raise v : ℕ) → raise < M → v < M → lowered raise M ((v + raise) % M) ≡ v
unfolding lowered
raised_lowered M raise v l h =
    by_cases (dec_lt (v + raise) M)
    (λ k. ap (λ (n : ℕ). (n + (M - raise)) % M) (mod-eq_of_lt k) ∙ sym (difference_within M (v + raise) raise k (omega arith)) ∙ omega arith)
    (λ k. ap (λ (n : ℕ). (n + (M - raise)) % M) (mod-eq-sub-mod (omega arith) ∙ mod-eq_of_lt (omega arith))
    ∙ sym (difference_around M (v + raise - M) raise l (omega arith)) ∙ omega arith)

-- the values of what the phases search, lowered, are those of the domain
values_lowered : (d : Domain) → Searchable d → lowered_values (d.window - 1) (centred_of d) ≡ hard_values d
unfolding centred
values_lowered d a =
    let c = (parabola_promises.promised).centred_correct (parabola_of d) a in
    let v = (parabola_promises.promised).values (parabola_of d) (positive a) in
    ap (λ (f : ℕ → ℕ). map f (hard_arguments d))
    (λ j x. (ap (lowered (d.window - 1) d.modulus) (c.value x)
    ∙ raised_lowered d.modulus (d.window - 1) (value_at (parabola_of d) x) (omega (arith, a.window_low, a.window_high)) (v.in_range x)) j)

-- what the contract says
abbrev Answered : Domain → (old_marks : List Mark) → (old old_values : List ℕ) → (answer : Result Searched Refusal) → (new_marks : List Mark)
    → (new new_values : List ℕ) → Type 0
Answered d old_marks old old_values answer new_marks new new_values =
    record {
      value : answer ≡ domain_answer d (length old) (length old_values);
      marks_after : new_marks ≡ marks_after d (length old) (length old_values) old_marks;
      list_after : new ≡ list_after d (length old_values) old;
      values_after : new_values ≡ values_after d (length old) old_values;
    }

module _ (d : Domain) (old_marks : List Mark) (old old_values : List ℕ) where
  -- a refusal before anything is searched
  own_refused : {r : Refusal} → tested (first_failing (own_checks d)) ≡ Err r → Answered d old_marks old old_values (Err r) old_marks old old_values
  unfolding domain_answer marks_after list_after values_after domain_number
  own_refused e =
      let f = refused_first (own_checks d) (room (hard_arguments d) (length old) (length old_values)) tt e in
      record {
        value = sym (refused_alike _ tt _ f);
        marks_after = kept _ _ f _ old_marks;
        list_after = kept _ _ f _ old;
        values_after = kept _ _ f _ old_values;
      }

  -- of the parabola
  pub domain_refused : {r : Refusal} → tested (arc.refusal (parabola_of d)) ≡ Err r
      → Answered d old_marks old old_values (Err r) old_marks old old_values
  unfolding arc.refusal
  domain_refused e = own_refused (refused_first (arc.checks (parabola_of d)) (origin_checks d) tt e)

  -- of the origin
  pub origin_refused : Searchable d → 2 ^ 52 < d.origin
      → Answered d old_marks old old_values (Err refusals.Origin) old_marks old old_values
  origin_refused a h =
      own_refused
      (sym (outcome_refused (own_checks d) refusals.Origin tt
      (inr (
        a.unit_within,
        inr (
          a.slope_below,
          inr (
            a.value_below,
            inr (
              (a.count_low, a.count_high),
              inr ((a.window_low, a.window_high), inr (a.size_small, inl (refl, λ l. omega (arith, l)))),
            ),
          ),
        ),
      ))))

  module _ (a : Accepted d) where
    -- an accepted one can be refused by 7 alone
    number_is : domain_number d (length old) (length old_values) ≡ too_few (centred_of d) (length old) (length old_values)
    unfolding domain_number too_few
    number_is =
        second_of_two (own_checks d) (room (hard_arguments d) (length old) (length old_values))
        ((accepts (own_checks d) (omega arith)).0 ((accepted_iff d).1 a))

    -- phase 1 clears it
    pub domain_cleared : {p : Parabola} → p ≡ centred_of d → verdict regular (covering p) ≡ Clear
        → Answered d old_marks old old_values (Ok (record { first = Clear; listed = 0 })) (replicate 8 mark.Unseen) old old_values
    unfolding domain_answer marks_after list_after values_after too_few outcome unless_refused marks_by overwrite_front
    domain_cleared e c =
        let v : verdict regular (covering_of d) ≡ Clear = ap (λ (p : Parabola). verdict regular (covering p)) (sym e) ∙ c in
        let nothing : hard_arguments d ≡ [] = none_listed regular (searched_in_range d a.searchable) v in
        let none : length (hard_arguments d) ≡ 0 = ap length nothing in
        rw (number_is, accepted (room (hard_arguments d) (length old) (length old_values)) ((omega arith, omega arith), tt), v, nothing) (record { value = refl; marks_after = refl; list_after = refl; values_after = refl })

    -- or it does not: so it is where every value is hard, as then the first argument is
    pub never_cleared : {b : Arc} → parabola b ≡ centred_of d → b.highest ≡ d.modulus - 1 → verdict regular (covering (parabola b)) ≡ Possible
    unfolding centred
    never_cleared {b} e h =
        let r : InRange (parabola b) = rw e (searched_in_range d a.searchable) in
        let unit : b.modulus ≡ d.modulus = ap (λ (p : Parabola). p.unit) e in
        let below = ((parabola_promises.promised).values (parabola b) (positive r)).in_range 0 in
        otherwise _ (λ c. ((arc_promises.promised).searched _ r).cleared regular c 0 (r.count_low, omega (arith, below, unit, h)))

    -- phases 2 and 3 search it
    pub domain_searched : {p : Parabola} {raise origin : ℕ} → p ≡ centred_of d → raise ≡ d.window - 1 → origin ≡ d.origin
        → {answer : Result Searched Refusal} {new_marks : List Mark} {new new_values : List ℕ}
        → Leaves (too_few p (length old) (length old_values)) origin raise p old_marks old old_values answer new_marks new new_values
        → Answered d old_marks old old_values answer new_marks new new_values
    unfolding domain_answer marks_after list_after values_after
    domain_searched e f g l = rw number_is (rw (e, f, g, values_lowered d a.searchable) at l)

-- ---- scans

-- a segment that is accepted is a line within its bounds
pub line_in_range : {s : Segment} → segment.Accepted s → InRange (line s)
line_in_range {s} c = omega (arith, mod-lt (s.unit - s.step) {m = s.unit} (omega (arith, c.start_below)), c)

-- the answer, the list and the values
abbrev ScanLeaves : (number : ℕ) → Segment → (old old_values : List ℕ) → (answer : Result ℕ Refusal) → (new new_values : List ℕ) → Type 0
ScanLeaves n s old old_values answer new new_values =
    record {
      value : answer ≡ outcome n (length (geometry.hard_list s));
      list_after : new ≡ unless_refused n (overwrite_front (geometry.hard_list s) old) old;
      values_after : new_values ≡ unless_refused n (overwrite_front (hard_residues s) old_values) old_values;
    }

-- nothing is added
add_nothing : (xs : List ℕ) → map (λ (x : ℕ). 0 + x) xs ≡ xs
add_nothing [] = refl
add_nothing (x ∷ xs) = rw (zero-add x, add_nothing xs)

-- and nothing is taken off the residues
residues_as_they_are : {s : Segment} → segment.Accepted s → lowered_values 0 (line s) ≡ hard_residues s
unfolding lowered
residues_as_they_are {s} c =
    let of_line = (parabola_promises.promised).lines s c.step_below in
    let some : 0 < s.unit = omega (arith, c.start_below) in
    let in_range = ((parabola_promises.promised).values (line s) some).in_range in
    ap₂ map
    (λ j x. (sym (difference_within s.unit (value_at (line s) x) 0 (in_range x) (omega arith)) ∙ sub-zero (value_at (line s) x) ∙ of_line.value x) j)
    of_line.lists

module _ (s : Segment) (old old_values : List ℕ) where
  -- a refusal before anything is scanned
  pub scan_refused : {r : Refusal} → tested (segment.refusal s) ≡ Err r
      → ScanLeaves (scan_number s (length old) (length old_values)) s old old_values (Err r) old old_values
  unfolding scan_number segment.refusal
  scan_refused e =
      let f = refused_first (segment.checks s) (room (geometry.hard_list s) (length old) (length old_values)) tt e in
      record { value = sym (refused_alike _ tt _ f); list_after = kept _ _ f _ old; values_after = kept _ _ f _ old_values }

  module _ (c : segment.Accepted s) where
    number_of_room : {n : ℕ} → first_failing (room (geometry.hard_list s) (length old) (length old_values)) ≡ n
        → scan_number s (length old) (length old_values) ≡ n
    unfolding scan_number segment.refusal
    number_of_room e =
        second_of_two (segment.checks s) (room (geometry.hard_list s) (length old) (length old_values))
        ((accepts (segment.checks s) (omega arith)).0 (((segment_promises.promised).accepted _ _ _ _ _).1 c))
        ∙ e

    pub scan_too_few : min (length old) (length old_values) < length (geometry.hard_list s)
        → ScanLeaves (scan_number s (length old) (length old_values)) s old old_values (Err refusals.Room) old old_values
    scan_too_few h =
        let e = room_refused (geometry.hard_list s) (length old) (length old_values) (length (geometry.hard_list s)) h in
        rw (number_of_room refl) (record { value = sym e; list_after = kept _ _ e _ old; values_after = kept _ _ e _ old_values })

    pub scan_listed : Room (geometry.hard_list s) (length old) (length old_values) → {n : ℕ} → n ≡ length (geometry.hard_list s) → {new new_values : List ℕ}
        → (new ≡ sets old 0 (listed_from 0 (line s))) × (new_values ≡ sets old_values 0 (lowered_values 0 (line s)))
        → ScanLeaves (scan_number s (length old) (length old_values)) s old old_values (Ok n) new new_values
    unfolding outcome unless_refused
    scan_listed h f g =
        let of_line = (parabola_promises.promised).lines s c.step_below in
        rw (number_of_room (accepted (room (geometry.hard_list s) (length old) (length old_values)) (h, tt)), f) (record {
          value = refl;
          list_after = g.0 ∙ ap (sets old 0) (add_nothing (hard_list (line s)) ∙ of_line.lists) ∙ written_front (geometry.hard_list s) old h.0;
          values_after = g.1 ∙ ap (sets old_values 0) (residues_as_they_are c)
              ∙ written_front (hard_residues s) old_values (omega (arith, h.1, length-map (geometry.hard_list s) (residue s)));
        })
