-- What is promised of the C functions. Assumes nothing.
use Rattle.std.proofs.Common.{◌≡◌, ◌↔◌, ℕ, suc, ◌*◌, ◌%◌, List, length, Result, Ok, Err, IsOkAnd, ◌<◌, refl, sym, ap, ◌∙◌, arith}
use Rattle.numbers.specs.Checklist.{Check, conditions, first_failing, AllHold, RefusedBy, unless_refused}
use Rattle.numbers.specs.Refusals.{named, outcome, number_in}
use Rattle.numbers.specs.declared.refusals.Refusal.{Refusal}
use Rattle.numbers.proofs.Equivalences.{through}
use Rattle.numbers.proofs.Checklists.{unrefused_new, AllNumbers, accepts, refuses, refused_old}
use Rattle.numbers.proofs.Outcomes.{IsNamed, failing_number, all_numbered}
use Rattle.expansion.specs.Rows.{period}
use Rattle.expansion.specs.Answer.{answer}
use Rattle.expansion.specs.declared.Table.{Table}
use Rattle.ostrowski.proofs.Promises as ostrowski
use Rattle.ostrowski.specs.Answer.{argument_checks, target_checks, argument_refusal, target_refusal, digits_answer, residue_answer, divide_answer}
use Rattle.geometry.specs.Segment.{Segment, segment}
use Rattle.segment.specs.Accepted as segments
use Rattle.segment.specs.Answer.{regular_answer, fine_answer}
use Rattle.domain.specs.declared.Domain.{Domain}
use Rattle.domain.specs.Answer.{mark_numbers_after, domain_checks, domain_number, domain_answer, list_after, values_after, scan_checks, scan_number, scan_answer, scan_list_after, scan_values_after}
use Rattle.c_api.specs.Memory.{handed, Delivered, number_memory, verdict_number}
use Rattle.c_api.specs.Promise.{Promised}
use Rattle.c_api.proofs.Memory.{unchanged}

-- ---- the expansion

-- what is handed over is the number, and the table that an answer has or the one that was there, column by column
delivered : (r : Result Table Refusal) {n k : ℕ} {old new table : Table} → number_in r ≡ k → handed (λ t. t) r old ≡ table
    → Delivered r n old new
    ↔ ((n ≡ k) × (new.remainders ≡ table.remainders) × (new.denominators ≡ table.denominators) × (new.quotients ≡ table.quotients) × (new.last ≡ table.last))
delivered r {n} {k} {old} {new} {table} z t = (
  λ d. let same : new ≡ table = d.left ∙ t in (d.returned ∙ z, cc, cc, cc, cc),
  λ h. let same : new ≡ table = λ j. record { remainders = h.1 j; denominators = h.2 j; quotients = h.3 j; last = h.4 j } in
      record { returned = h.0 ∙ sym z; left = same ∙ sym t },
)

-- ---- an answer by a checklist

-- its number is 0 exactly where all holds that is asked, and another one exactly where that number refuses
module _ {A : Type 0} (cs : List Check) (shown : A) (all : AllNumbers IsNamed (conditions cs)) where
  by_zero : (number_in (outcome (first_failing cs) shown) ≡ 0) ↔ AllHold (conditions cs)
  by_zero = through (failing_number cs shown all) (accepts cs (all_numbered (conditions cs) all))

  by_number : (n : ℕ) → (number_in (outcome (first_failing cs) shown) ≡ suc n) ↔ RefusedBy (conditions cs) (suc n)
  by_number n = through (failing_number cs shown all) (refuses cs n)

-- what is there stays where the answer has a number
kept : (cs : List Check) {A B : Type 0} (shown : A) (new old : B) {n : ℕ} → AllNumbers IsNamed (conditions cs)
    → number_in (outcome (first_failing cs) shown) ≡ suc n → unless_refused (first_failing cs) new old ≡ old
kept cs shown new old all e = refused_old (first_failing cs) new old (λ z. omega (arith, z, sym (failing_number cs shown all) ∙ e))

-- what holds of a number that is shown holds of what the memory has then
left_holds : (r : Result ℕ Refusal) (P : ℕ → Type 0) (old : ℕ) → IsOkAnd r P → P (number_memory r old)
left_holds (Ok y) P old h = h
left_holds (Err e) P old h = absurd h

-- the numbers of each call's checklist are those of refusals
arguments_named : (M a x : ℕ) → AllNumbers IsNamed (conditions (argument_checks M a x))
unfolding named
arguments_named M a x = (refl, (refl, (refl, tt)))

targets_named : (M a t : ℕ) → AllNumbers IsNamed (conditions (target_checks M a t))
unfolding named
targets_named M a t = (refl, (refl, (refl, tt)))

segments_named : (s : Segment) → AllNumbers IsNamed (conditions (segments.checks s))
unfolding named
segments_named s = (refl, (refl, (refl, (refl, (refl, tt)))))

scans_named : (s : Segment) (m n : ℕ) → AllNumbers IsNamed (conditions (scan_checks s m n))
unfolding named
scans_named s m n = (refl, (refl, (refl, (refl, (refl, (refl, tt))))))

domains_named : (d : Domain) (m n : ℕ) → AllNumbers IsNamed (conditions (domain_checks d m n))
unfolding named
domains_named d m n = (refl, (refl, (refl, (refl, (refl, (refl, (refl, (refl, tt))))))))

pub promised : Promised
unfolding verdict_number residue_answer divide_answer argument_refusal target_refusal regular_answer fine_answer scan_answer domain_answer segments.refusal scan_number domain_number scan_list_after scan_values_after mark_numbers_after list_after values_after
promised =
    record {
      expand_numbers = λ M a n m m' us qs ks us' qs' ks' t e. delivered (answer M a) (ap number_in e) (rw e refl);
      expand_unchanged = λ M a n k m m' us qs ks us' qs' ks' z. delivered (answer M a) z (unchanged (λ t. t) (answer M a) _ z);
      digits_unchanged = λ M a x n k old e. (unchanged _ (digits_answer M a x) old e, unchanged _ (digits_answer M a x) k e);
      digits_numbers = λ M a x k old d e. rw e (refl, refl);
      residue_accepted = λ M a x. by_zero (argument_checks M a x) _ (arguments_named M a x);
      residue_refused = λ M a x. by_number (argument_checks M a x) _ (arguments_named M a x);
      divide_accepted = λ M a t. by_zero (target_checks M a t) _ (targets_named M a t);
      divide_refused = λ M a t. by_number (target_checks M a t) _ (targets_named M a t);
      residue_unchanged = λ M a x n old e. unchanged _ _ old e;
      residue_left = λ M a x old h. let d = ((ostrowski.promised).residue_answers M a x).found (a * x % M) in rw (d.1 (h, refl)) refl;
      divide_unchanged = λ M a t n old e. unchanged _ _ old e;
      divide_left = λ M a t old h. left_holds _ (λ x. (x < period M a) × (a * x % M ≡ t)) old (((ostrowski.promised).divide_answers M a t).shown h).1;
      clear_is_1 = refl;
      possible_is_0 = refl;
      regular_accepted = λ M a b N w. by_zero (segments.checks (segment M a b N w)) _ (segments_named (segment M a b N w));
      regular_refused = λ M a b N w. by_number (segments.checks (segment M a b N w)) _ (segments_named (segment M a b N w));
      regular_unchanged = λ M a b N w n old e. unchanged _ _ old e;
      regular_numbers = λ r old. refl;
      fine_accepted = λ M a b N w. by_zero (segments.checks (segment M a b N w)) _ (segments_named (segment M a b N w));
      fine_refused = λ M a b N w. by_number (segments.checks (segment M a b N w)) _ (segments_named (segment M a b N w));
      fine_unchanged = λ M a b N w n old e. unchanged _ _ old e;
      fine_numbers = λ f old. refl;
      scan_accepted = λ M a b N w list values.
          by_zero (scan_checks (segment M a b N w) (length list) (length values)) _ (scans_named (segment M a b N w) (length list) (length values));
      scan_refused = λ M a b N w n list values.
          by_number (scan_checks (segment M a b N w) (length list) (length values)) _ (scans_named (segment M a b N w) (length list) (length values)) n;
      scan_unchanged = λ M a b N w n list values old e.
          let s = segment M a b N w in
          let all = scans_named s (length list) (length values) in
          let cs = scan_checks s (length list) (length values) in
          (unchanged _ _ old e, kept cs _ _ list all e, kept cs _ _ values all e);
      scan_number = λ n old. refl;
      domain_is = λ o M c0 c1 s N w. refl;
      domain_accepted = λ d list values. by_zero (domain_checks d (length list) (length values)) _ (domains_named d (length list) (length values));
      domain_refused = λ d n list values. by_number (domain_checks d (length list) (length values)) _ (domains_named d (length list) (length values)) n;
      domain_unchanged = λ d n marks list values searched e.
          let all = domains_named d (length list) (length values) in
          let cs = domain_checks d (length list) (length values) in
          (kept cs _ _ marks all e, kept cs _ _ list all e, kept cs _ _ values all e, unchanged _ _ searched e);
      domain_marks = λ d marks list values e.
          unrefused_new _ marks (sym (failing_number (domain_checks d (length list) (length values)) _ (domains_named d (length list) (length values))) ∙ e);
      domain_numbers = λ v n searched. refl;
    }
