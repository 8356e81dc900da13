-- What is printed: how long it is, and what the domain search hands over for it. Assumes nothing.
use mathlib.Core.Path.{◌≡◌, refl, sym, ap, ap₂, subst, ◌∙◌}
use mathlib.Core.List.{List, [], ◌∷◌, Memᴰ}
use mathlib.Core.Logic.{◌↔◌, ◌⊎◌, inl, inr, ⊎_elim}
use Prim.Native.Nat.{ℕ, ◌+◌, ◌*◌, ◌^◌, ◌≤◌, ◌<◌}
use native.Mathlib.Omega.{arith}
use lib.ListN.{length, take, replicate, length-append, length-replicate, length-map}
use lib.Seq.{sets}
use Rattle.std.proofs.Common.{Option, Some, None, Result, Ok, Err}
use Rattle.numbers.specs.Lists.{overwrite_front, place_after}
use Rattle.numbers.specs.Promise.{Enumerates}
use Rattle.numbers.proofs.Lists.{member_place}
use Rattle.numbers.proofs.Buffers.{front_taken, clip_front}
use Rattle.numbers.proofs.Checklists.{refused_number}
use Rattle.segment.specs.declared.Verdict.{Verdict}
use Rattle.segment.specs.declared.Verdict.TheVariants.{Clear, Possible}
use Rattle.domain.specs.Domain.{listed_arguments, hard_values, Accepted}
use Rattle.domain.specs.Answer.{domain_answer, marks_of, marks_after, list_after, values_after}
use Rattle.domain.specs.Promise.{ListedInNumbers, ValuesBeside, DomainCorrect, MarksCorrect, Asked, RefusedFor}
use Rattle.domain.specs.declared.Domain.{Domain}
use Rattle.numbers.specs.Refusals.{number_of}
use Rattle.numbers.specs.declared.refusals.Refusal.{Refusal}
use Rattle.numbers.specs.declared.refusals.Refusal.TheVariants.{Malformed}
use Rattle.domain.specs.Marks.{mark_numbers}
use Rattle.domain.specs.declared.Searched.{Searched}
use Rattle.domain.specs.declared.marks.Mark.{Mark}
use Rattle.domain.specs.declared.marks.Mark.TheVariants.{Unseen}
use Rattle.domain.proofs.Promises.{promised}
use Rattle.text.specs.Text.{decimal}
use Rattle.text.proofs.Promises as text
use Rattle.job.specs.Reading.{reading, reading_refusal}
use Rattle.job.specs.Output.{places, longest, answer_of, verdict_name, argument_line, argument_lines, refused, report, printed_for, printed, job_answer, job_marks, job_list, job_values, output_with, output_of}

-- ---- how long

-- a refusal of up to two digits
refused_short : (n : ℕ) → n < 100 → length (refused n) ≤ 11
unfolding refused
refused_short n h = simp length-append (omega (arith, ((text.promised).decimals n).few 1 h))

name_short : (v : Verdict) → length (verdict_name v) ≤ 8
unfolding verdict_name
name_short Clear = omega arith
name_short Possible = omega arith

-- the line of an argument and what follows it
pub line_length : (x v : ℕ) (rest : List ℕ) → length (argument_line x v rest) ≡ 17 + length (decimal x) + length (decimal v) + length rest
line_length x v rest = simp length-append (omega arith)

-- arguments of up to sixteen digits with values of up to nineteen take up to 52 bytes each
lines_short : (xs vs : List ℕ) → ((x : ℕ) → Memᴰ x xs → x < 10 ^ 16) → ((v : ℕ) → Memᴰ v vs → v < 10 ^ 19)
    → length (argument_lines xs vs) ≤ 52 * length xs
unfolding argument_lines
lines_short [] vs h k = omega arith
lines_short (x ∷ xs) [] h k = omega arith
lines_short (x ∷ xs) (v ∷ vs) h k =
    omega (
      arith,
      line_length x v (argument_lines xs vs),
      ((text.promised).decimals x).few 15 (h x (Memᴰ.head refl)),
      ((text.promised).decimals v).few 18 (k v (Memᴰ.head refl)),
      lines_short xs vs (λ y m. h y (Memᴰ.tail m)) (λ y m. k y (Memᴰ.tail m)),
    )

-- what is reported of up to 4,096 arguments below 2^53, with values below 2^62
report_short : (v : Verdict) (marks xs vs : List ℕ) → length marks ≡ 8 → length xs ≤ places → ((x : ℕ) → Memᴰ x xs → x < 2 ^ 53)
    → ((v : ℕ) → Memᴰ v vs → v < 2 ^ 62) → length (report v marks xs vs) ≤ longest
unfolding report
report_short v marks xs vs eight few small below =
    simp (length-append, length-map)
    (omega (
      arith,
      name_short v,
      ((text.promised).decimals (length xs)).few 3 (omega arith),
      lines_short xs vs (λ y m. omega (arith, small y m)) (λ y m. omega (arith, below y m)),
    ))

-- ---- what the search hands over

-- the list then, and the values
abbrev list_of : Domain → List ℕ
list_of d = list_after d places (replicate places 0)

abbrev values_of : Domain → List ℕ
values_of d = values_after d places (replicate places 0)

module _ (d : Domain) where
  pub correct : DomainCorrect d (replicate 8 Unseen) (replicate places 0) (replicate places 0) (answer_of d) (marks_after d places places (replicate 8 Unseen)) (list_of d) (values_of d)
  correct =
      subst (λ (n : ℕ). DomainCorrect d (replicate 8 Unseen) (replicate places 0) (replicate places 0) (domain_answer d n n) (marks_after d n n (replicate 8 Unseen))
      (list_after d n (replicate places 0)) (values_after d n (replicate places 0)))
      (length-replicate {A = ℕ} places 0) (promised.domains d (replicate 8 Unseen) (replicate places 0) (replicate places 0))

  -- refused as the domain search refuses, by a number up to 7 or by 11
  pub search_refuses : (r : Refusal) → (answer_of d ≡ Err r) ↔ RefusedFor d places places (number_of r)
  search_refuses r =
      subst (λ (k : ℕ). (answer_of d ≡ Err r) ↔ RefusedFor d k k (number_of r)) (length-replicate {A = ℕ} places 0) (correct.refused r)

  pub number_is : {r : Refusal} → answer_of d ≡ Err r → (number_of r ≤ 7) ⊎ (number_of r ≡ 11)
  number_is {r} e =
      let small : (k : ℕ) → k ≤ 7 → (k ≤ 7) ⊎ (k ≡ 11) = λ k h. inl h in
      refused_number (λ k. (k ≤ 7) ⊎ (k ≡ 11)) (Asked d places places)
      (small 1 (omega arith), (small 2 (omega arith), (small 3 (omega arith), (small 4 (omega arith), (small 5 (omega arith), (small 6 (omega arith), (inr refl, (small 7 (omega arith), tt))))))))
      ((search_refuses r).0 e)

  module _ {s : Searched} (e : answer_of d ≡ Ok s) where
    taken_on : Accepted d
    taken_on = ((correct.searched s).0 e).0

    listed_is : s.listed ≡ length (listed_arguments d)
    listed_is = ((correct.searched s).0 e).4 ∙ sym (promised.listed_are d taken_on).counted

    few : length (listed_arguments d) ≤ places
    few = omega (arith, listed_is, ((correct.searched s).0 e).1, ((correct.searched s).0 e).4, length-replicate {A = ℕ} places 0)

    -- the marks, and the listed arguments and their values at the fronts of list and values
    marks_are : marks_after d places places (replicate 8 Unseen) ≡ marks_of d
    marks_are = (correct.written s e).0

    list_long : s.listed ≤ length (list_of d)
    list_long = let b = correct.buffer s e in omega (arith, b.room, b.places, listed_is)

    hard_in_front : take s.listed (list_of d) ≡ listed_arguments d
    hard_in_front = ap₂ take listed_is (correct.written s e).1 ∙ front_taken (listed_arguments d) (replicate places 0)

    pub hard_listed : Enumerates (ListedInNumbers d) s.listed (listed_arguments d)
    hard_listed = subst (Enumerates (ListedInNumbers d) s.listed) hard_in_front (correct.hard s e)

    pub values_listed : ValuesBeside d (listed_arguments d) (hard_values d)
    values_listed = promised.hard_values_are d taken_on.searchable

    values_long : s.listed ≤ length (values_of d)
    values_long = let b = correct.values_buffer s e in omega (arith, b.room, b.places, listed_is, values_listed.as_many)

    values_in_front : take s.listed (values_of d) ≡ hard_values d
    values_in_front =
        ap₂ take (listed_is ∙ sym values_listed.as_many) (correct.written s e).2 ∙ front_taken (hard_values d) (replicate places 0)

    -- every value is below the modulus
    value_below : (v : ℕ) → Memᴰ v (hard_values d) → v < 2 ^ 62
    value_below v m =
        let at = member_place 0 v (hard_values d) m in
        omega (
          arith,
          at.2,
          (values_listed.each at.0 (omega (arith, at.1, values_listed.as_many))).2.0,
          taken_on.searchable.unit_within.1,
        )

    pub marks_correct : MarksCorrect d s.first (mark_numbers (marks_of d))
    marks_correct = subst (λ (m : List Mark). MarksCorrect d s.first (mark_numbers m)) marks_are (correct.marked s e)

    -- every listed argument is below the sum of the largest origin and the largest count
    argument_below : (y : ℕ) → Memᴰ y (listed_arguments d) → y < 2 ^ 53
    argument_below y m = let h = (hard_listed.exactly y).0 m in omega (arith, h.1, h.2.0, taken_on.origin_within, taken_on.searchable.count_high)

    report_fits : length (report s.first (mark_numbers (marks_of d)) (listed_arguments d) (hard_values d)) ≤ longest
    report_fits = report_short s.first (mark_numbers (marks_of d)) (listed_arguments d) (hard_values d) marks_correct.eight few argument_below value_below

-- ---- the output of a job

pub printed_refused : (d : Domain) {r : Refusal} → answer_of d ≡ Err r → printed d ≡ refused (number_of r)
unfolding printed printed_for
printed_refused d e = rw e

pub printed_report : (d : Domain) {s : Searched} → answer_of d ≡ Ok s
    → printed d ≡ report s.first (mark_numbers (marks_of d)) (listed_arguments d) (hard_values d)
unfolding printed printed_for
printed_report d e = rw e

-- where the search refuses, the line of the refusal is printed
pub output_refused : (job : Option Domain) {r : Refusal} → job_answer job places places ≡ Err r → output_with job ≡ refused (number_of r)
unfolding job_answer output_with
output_refused (Some d) e = printed_refused d e
output_refused None {r} e = let same : Malformed ≡ r = cc in ap (λ (r : Refusal). refused (number_of r)) same

-- where it does not, what is printed is in the marks and at the fronts of list and values
pub record Reported (job : Option Domain) (s : Searched) (marks : List Mark) (list values : List ℕ) : Type 0 where
  pub within : s.listed ≤ length list
  pub values_within : s.listed ≤ length values
  pub output : output_with job ≡ report s.first (mark_numbers marks) (take s.listed list) (take s.listed values)

pub output_reported : (job : Option Domain) {s : Searched} → job_answer job places places ≡ Ok s
    → Reported job s (job_marks job places places (replicate 8 Unseen)) (job_list job places (replicate places 0)) (job_values job places (replicate places 0))
unfolding job_answer job_marks job_list job_values output_with
output_reported (Some d) e =
    rw (marks_are d e)
    (record {
      within = list_long d e;
      values_within = values_long d e;
      output = printed_report d e ∙ rw (hard_in_front d e, values_in_front d e);
    })
output_reported None e = cc

-- what is printed, by what the search left
pub output_from : {job : Option Domain} {s : Searched} {marks marks' : List Mark} {list values list' values' : List ℕ} → Reported job s marks list values
    → marks' ≡ marks → list' ≡ list → values' ≡ values → output_with job ≡ report s.first (mark_numbers marks') (take s.listed list') (take s.listed values')
output_from r e f g = rw (e, f, g) r.output

-- by the two cases of an answer
pub by_answer : {P : Type 0} (a : Result Searched Refusal) → ((r : Refusal) → a ≡ Err r → P) → ((s : Searched) → a ≡ Ok s → P) → P
by_answer (Err r) refused searched = refused r refl
by_answer (Ok s) refused searched = searched s refl

pub output_short : (r : Option Domain) → length (output_with r) ≤ longest
unfolding output_with
output_short None = omega (arith, refused_short (reading_refusal None) (omega arith))
output_short (Some d) =
    by_answer (answer_of d) (λ r e. omega (arith, ap length (printed_refused d e), refused_short (number_of r) (⊎_elim (λ h. omega arith) (λ h. omega (arith, h)) (number_is d e))))
    (λ s e. omega (arith, ap length (printed_report d e), report_fits d e))

-- what was written from the first place on is the output, and the rest of the buffer is as it was
pub in_buffer : (t xs old : List ℕ) {new : List ℕ} {n : ℕ} → output_of t ≡ xs → length old ≡ longest → (n ≡ place_after 0 xs old) × (new ≡ sets old 0 xs)
    → (n ≡ length (output_of t)) × (new ≡ overwrite_front (output_of t) old)
unfolding output_of
in_buffer t xs old e h w = rw e (clip_front xs old (omega (arith, ap length (sym e), output_short (reading t))) w)
