-- What is promised of the C functions beside their contracts: which numbers they return and leave. Assumes nothing: these are statements.
use Rattle.std.specs.Prelude.{◌≡◌, List, [], ◌∷◌, ◌↔◌, ℕ, suc, ◌*◌, ◌%◌, ◌<◌, ℤ, length, Ok}
use Rattle.numbers.specs.Checklist.{AllHold, RefusedBy}
use Rattle.numbers.specs.Refusals.{number_in}
use Rattle.expansion.specs.Answer.{answer}
use Rattle.expansion.specs.declared.Table.{Table}
use Rattle.ostrowski.specs.declared.Numeral.{Numeral}
use Rattle.expansion.specs.Rows.{period}
use Rattle.ostrowski.specs.Answer.{digits_answer, residue_answer, divide_answer}
use Rattle.ostrowski.specs.Promise as digits_promise
use Rattle.geometry.specs.Segment.{segment}
use Rattle.segment.specs.Answer.{regular_answer, fine_answer}
use Rattle.segment.specs.Promise as segment_promise
use Rattle.segment.specs.declared.Verdict.{Verdict}
use Rattle.segment.specs.declared.Verdict.TheVariants.{Clear, Possible}
use Rattle.segment.specs.declared.Regular.{Regular}
use Rattle.segment.specs.declared.Fine.{Fine}
use Rattle.domain.specs.Answer.{domain_answer, marks_of, mark_numbers_after, list_after, values_after, scan_answer, scan_list_after, scan_values_after}
use Rattle.domain.specs.Marks.{mark_numbers}
use Rattle.domain.specs.Promise as domain_promise
use Rattle.domain.specs.declared.Domain.{Domain}
use Rattle.c_api.specs.Memory.{memory, Delivered, digits_memory, count_memory, number_memory, verdict_number, regular_memory, fine_memory, scan_memory, domain_of, domain_memory}

-- residues, divisions, searches, scans and domains return 0 exactly where all holds that is asked, of a scan or a domain also that list and values have places enough; another number exactly
-- where that number refuses, and then the memory is as it was. The expansion and digits return their answer's number
pub record Promised : Type 0 where
  pub expand_numbers : (M a n m m' : ℕ) (us qs ks us' qs' ks' : List ℕ) (t : Table) → answer M a ≡ Ok t
      → Delivered (answer M a) n (memory us qs ks m) (memory us' qs' ks' m')
      ↔ ((n ≡ 0) × (us' ≡ t.remainders) × (qs' ≡ t.denominators) × (ks' ≡ t.quotients) × (m' ≡ t.last))
  pub expand_unchanged : (M a n k m m' : ℕ) (us qs ks us' qs' ks' : List ℕ) → number_in (answer M a) ≡ suc k
      → Delivered (answer M a) n (memory us qs ks m) (memory us' qs' ks' m') ↔ ((n ≡ suc k) × (us' ≡ us) × (qs' ≡ qs) × (ks' ≡ ks) × (m' ≡ m))
  pub digits_unchanged : (M a x n k : ℕ) (old : List ℕ) → number_in (digits_answer M a x) ≡ suc n
      → (digits_memory (digits_answer M a x) old ≡ old) × (count_memory (digits_answer M a x) k ≡ k)
  pub digits_numbers : (M a x k : ℕ) (old : List ℕ) (d : Numeral) → digits_answer M a x ≡ Ok d
      → (digits_memory (digits_answer M a x) old ≡ d.digits) × (count_memory (digits_answer M a x) k ≡ d.count)
  pub residue_accepted : (M a x : ℕ) → (number_in (residue_answer M a x) ≡ 0) ↔ AllHold (digits_promise.ArgumentAsked M a x)
  pub residue_refused : (M a x n : ℕ) → (number_in (residue_answer M a x) ≡ suc n) ↔ RefusedBy (digits_promise.ArgumentAsked M a x) (suc n)
  pub divide_accepted : (M a t : ℕ) → (number_in (divide_answer M a t) ≡ 0) ↔ AllHold (digits_promise.TargetAsked M a t)
  pub divide_refused : (M a t n : ℕ) → (number_in (divide_answer M a t) ≡ suc n) ↔ RefusedBy (digits_promise.TargetAsked M a t) (suc n)
  pub residue_unchanged : (M a x n old : ℕ) → number_in (residue_answer M a x) ≡ suc n → number_memory (residue_answer M a x) old ≡ old
  pub residue_left : (M a x old : ℕ) → AllHold (digits_promise.ArgumentAsked M a x) → number_memory (residue_answer M a x) old ≡ a * x % M
  pub divide_unchanged : (M a t n old : ℕ) → number_in (divide_answer M a t) ≡ suc n → number_memory (divide_answer M a t) old ≡ old
  pub divide_left : (M a t old : ℕ) → AllHold (digits_promise.TargetAsked M a t)
      → (number_memory (divide_answer M a t) old < period M a) × (a * number_memory (divide_answer M a t) old % M ≡ t)
  pub clear_is_1 : verdict_number Clear ≡ 1
  pub possible_is_0 : verdict_number Possible ≡ 0
  pub regular_accepted : (M a b N w : ℕ) → (number_in (regular_answer M a b N w) ≡ 0) ↔ AllHold (segment_promise.Asked (segment M a b N w))
  pub regular_refused : (M a b N w n : ℕ) → (number_in (regular_answer M a b N w) ≡ suc n) ↔ segment_promise.RefusedFor (segment M a b N w) (suc n)
  pub regular_unchanged : (M a b N w n : ℕ) (old : List ℕ) → number_in (regular_answer M a b N w) ≡ suc n
      → regular_memory (regular_answer M a b N w) old ≡ old
  pub regular_numbers : (r : Regular) (old : List ℕ)
      → regular_memory (Ok r) old ≡ r.count ∷ r.quotients ∷ r.distance ∷ r.argument ∷ verdict_number r.verdict ∷ []
  pub fine_accepted : (M a b N w : ℕ) → (number_in (fine_answer M a b N w) ≡ 0) ↔ AllHold (segment_promise.Asked (segment M a b N w))
  pub fine_refused : (M a b N w n : ℕ) → (number_in (fine_answer M a b N w) ≡ suc n) ↔ segment_promise.RefusedFor (segment M a b N w) (suc n)
  pub fine_unchanged : (M a b N w n : ℕ) (old : List ℕ) → number_in (fine_answer M a b N w) ≡ suc n
      → fine_memory (fine_answer M a b N w) old ≡ old
  pub fine_numbers : (f : Fine) (old : List ℕ)
      → fine_memory (Ok f) old
      ≡ f.count ∷ f.index ∷ f.part ∷ f.distance ∷ f.argument ∷ verdict_number f.verdict ∷ []
  pub scan_accepted : (M a b N w : ℕ) (list values : List ℕ) → (number_in (scan_answer M a b N w (length list) (length values)) ≡ 0)
      ↔ AllHold (domain_promise.ScanAsked (segment M a b N w) (length list) (length values))
  pub scan_refused : (M a b N w n : ℕ) (list values : List ℕ) → (number_in (scan_answer M a b N w (length list) (length values)) ≡ suc n)
      ↔ domain_promise.ScanRefusedFor (segment M a b N w) (length list) (length values) (suc n)
  pub scan_unchanged : (M a b N w n : ℕ) (list values : List ℕ) (old : ℕ) → number_in (scan_answer M a b N w (length list) (length values)) ≡ suc n
      → (scan_memory (scan_answer M a b N w (length list) (length values)) old ≡ old) × (scan_list_after M a b N w (length values) list ≡ list)
      × (scan_values_after M a b N w (length list) values ≡ values)
  pub scan_number : (n old : ℕ) → scan_memory (Ok n) old ≡ n
  pub domain_is : (o M c0 c1 : ℕ) (s : ℤ) (N w : ℕ)
      → domain_of o M c0 c1 s N w ≡ record { origin = o; modulus = M; value = c0; slope = c1; curve = s; count = N; window = w }
  pub domain_accepted : (d : Domain) (list values : List ℕ) → (number_in (domain_answer d (length list) (length values)) ≡ 0)
      ↔ AllHold (domain_promise.Asked d (length list) (length values))
  pub domain_refused : (d : Domain) (n : ℕ) (list values : List ℕ) → (number_in (domain_answer d (length list) (length values)) ≡ suc n)
      ↔ domain_promise.RefusedFor d (length list) (length values) (suc n)
  pub domain_unchanged : (d : Domain) (n : ℕ) (marks list values searched : List ℕ) → number_in (domain_answer d (length list) (length values)) ≡ suc n
      → (mark_numbers_after d (length list) (length values) marks ≡ marks) × (list_after d (length values) list ≡ list) × (values_after d (length list) values ≡ values)
      × (domain_memory (domain_answer d (length list) (length values)) searched ≡ searched)
  pub domain_marks : (d : Domain) (marks list values : List ℕ) → number_in (domain_answer d (length list) (length values)) ≡ 0
      → mark_numbers_after d (length list) (length values) marks ≡ mark_numbers (marks_of d)
  pub domain_numbers : (first : Verdict) (listed : ℕ) (searched : List ℕ)
      → domain_memory (Ok (record { first = first; listed = listed })) searched ≡ verdict_number first ∷ listed ∷ []
