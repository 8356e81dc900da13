-- What either search reaches, from the definitions alone: a configuration of its kind with enough points, the first such, of few quotients; and
-- the counts of one search beside the other's. Assumes nothing.
use mathlib.Core.Path.{◌≡◌, refl, sym, ◌∙◌, ap}
use mathlib.Core.List.Memᴰ
use mathlib.Core.List.{List, [], ◌∷◌, Memᴰ}
use mathlib.Core.Logic.{⊎_elim, by_cases}
use Prim.Native.Nat.{ℕ, suc, ◌+◌, ◌-◌, ◌≤◌, ◌<◌}
use native.Mathlib.Nat.{mod-lt, mul-le-mul_right, not-suc-le-zero, lt_of_not-le}
use native.Mathlib.Decide.{dec_lt, dec_le}
use native.Mathlib.Omega.{arith}
use lib.ListN.{length, get_or}
use Rattle.numbers.proofs.Fibonacci.{fib, fib_zero, fib_one, fib_next, fib_31}
use Rattle.numbers.proofs.Lists.{AscendingFrom, member_at, member_place}
use Rattle.numbers.proofs.Lists.AscendingFrom.{ascending_cons}
use Rattle.numbers.proofs.Remainders.{quotient_positive}
use Rattle.expansion.specs.Rows.{Row, period, last}
use Rattle.expansion.specs.Configurations.{Configuration, none, counts, regular_from, regular as all_regular, fine as all_fine}
use Rattle.expansion.specs.Reached.{Search, configurations_of, reached_in, reached}
use Rattle.expansion.specs.Reached.Search.{regular, fine}
use Rattle.expansion.specs.Promise.{ReachedCorrect, SearchesCorrect}
use Rattle.expansion.proofs.Unrolling.{Rows, expansion_unrolled, some_row}
use Rattle.expansion.proofs.Unrolling.Rows.{end, next}
use Rattle.expansion.proofs.Regular.{last_of, relabelled, regular_next, regular_end, regular_many}
use Rattle.expansion.proofs.ConfigurationLaws.{regular_correct, fine_correct, last_regular, regular_ascends, fine_ascends}
use Rattle.expansion.proofs.Reaching.{reached_here, reached_last, reached_later}

abbrev count_of : {c d : Configuration} → c ≡ d → c.count ≡ d.count
count_of e = ap (λ (c : Configuration). c.count) e

-- ---- members

-- a regular one is labelled by its index alone
regular_part : {t u p q : ℕ} {rs : List Row} → Rows t u p q rs → (i : ℕ) (c : Configuration) → Memᴰ c (regular_from i p rs) → c.part ≡ 0
regular_part (end {t} {p} {q}) i c m = ap (λ (x : Configuration). x.part) (Memᴰ.eq_of_singleton (rw regular_end at m))
regular_part (next h r) i c m =
    ⊎_elim (λ e. ap (λ (x : Configuration). x.part) e) (λ o. regular_part r (suc i) c o) (Memᴰ.cases_cons (rw regular_next at m))

-- each count is at least the bound
member_above : {b : ℕ} (cs : List Configuration) → AscendingFrom b (counts cs) → (c : Configuration) → Memᴰ c cs → b ≤ c.count
member_above [] a c m = absurd (Memᴰ.not-nil m)
member_above (x ∷ cs) (ascending_cons l a) c m =
    ⊎_elim (λ e. omega (arith, l, count_of e)) (λ i. omega (arith, l, member_above cs a c i)) (Memᴰ.cases_cons m)

-- ---- the configuration reached, among some whose counts ascend to the period

in_order : {b : ℕ} (n P : ℕ) (cs : List Configuration) → AscendingFrom (suc b) (counts cs) → 0 < length cs → (last_of cs).count ≡ P
    → ReachedCorrect cs P n (reached_in n cs)
in_order n P [] a l e = absurd (not-suc-le-zero l)
in_order n P (c ∷ []) (ascending_cons h a) l e =
    rw (reached_last n c)
    (record {
      some = omega (arith, h);
      among = Memᴰ.head refl;
      enough = λ k. omega (arith, k, e);
      first = λ d m k. omega (arith, count_of (Memᴰ.eq_of_singleton m));
      at_period = λ k. e;
      within = omega (arith, e);
    })
in_order n P (c ∷ d ∷ cs) (ascending_cons h a) l e =
    let i : length (c ∷ d ∷ cs) - 1 ≡ suc (length (d ∷ cs) - 1) = omega arith in
    let f : (last_of (d ∷ cs)).count ≡ P = rw i at e in
    let most = member_above (d ∷ cs) a (last_of (d ∷ cs)) (member_at none (d ∷ cs) (length (d ∷ cs) - 1) (omega arith)) in
    by_cases (dec_le n c.count)
    (λ k. rw (reached_here n c (d ∷ cs) k)
    (record {
      some = omega (arith, h);
      among = Memᴰ.head refl;
      enough = λ j. k;
      first = λ x m j. ⊎_elim (λ g. omega (arith, count_of g)) (λ o. omega (arith, member_above (d ∷ cs) a x o)) (Memᴰ.cases_cons m);
      at_period = λ j. absurd (omega arith);
      within = omega arith;
    }))
    (λ k. let r = in_order n P (d ∷ cs) a (omega arith) f in
    rw (reached_later n c (d ∷ cs) (omega arith) (omega arith))
    (record {
      some = r.some;
      among = Memᴰ.tail r.among;
      enough = r.enough;
      first = λ x m j. ⊎_elim (λ g. absurd (omega (arith, count_of g))) (λ o. r.first x o j) (Memᴰ.cases_cons m);
      at_period = r.at_period;
      within = r.within;
    }))

-- there is a first one
some_of : (cs : List Configuration) → (get_or cs 0 none).count ≡ 1 → 0 < length cs
some_of [] e = absurd (omega (arith, e))
some_of (c ∷ cs) e = omega arith

-- ---- few quotients

-- the denominators of row i are at least fib (i + 1) and, before it, fib i
few : {t u p q : ℕ} {rs : List Row} → Rows t u p q rs → u < t → (n i : ℕ) → n ≤ 1048576 → i ≤ 29 → fib (suc i) ≤ q → fib i ≤ p
    → (reached_in n (regular_from i p rs)).index ≤ 29
few (end {t} {p} {q}) l n i h e f g = rw (regular_end, reached_last) e
few (next {t} {u} {p} {q} {rs} w r) l n i h e f g =
    rw regular_next
    (by_cases (dec_le n (q + p)) (λ k. rw reached_here e)
    (λ k. let passed : q + p < n = omega arith in
    let some : 0 < length (regular_from (suc i) q rs) = omega (arith, regular_many r (suc i), some_row r) in
    let more : i < 29 = lt_of_not-le (λ m. let z : i ≡ 29 = omega arith in omega (arith, fib_31, ap fib z, ap (λ (j : ℕ). fib (suc j)) z)) in
    rw reached_later
    (few r (mod-lt t w) n (suc i) h more (omega (arith, fib_next i, f, g, mul-le-mul_right q (quotient_positive t u w (omega (arith, l))))) f)))

-- ---- both searches

module _ (M a : ℕ) (small : a < M) where
  reached_correct : (k : Search) (N : ℕ) → ReachedCorrect (configurations_of k M a) (period M a) N (reached k M a N)
  unfolding reached configurations_of
  reached_correct regular N =
      let r = regular_correct M a small in
      in_order N (period M a) (all_regular M a) (regular_ascends M a small) (omega (arith, r.many)) (count_of (last_regular M a small ∙ r.last_one))
  reached_correct fine N =
      let r = regular_correct M a small in
      let some = some_of (all_fine M a) (count_of (fine_correct M a small).first_one) in
      in_order N (period M a) (all_fine M a) (fine_ascends M a small) some (sym r.last_among_fine ∙ count_of r.last_one)

  -- every count of one search is one of another
  abbrev Covers : (j k : Search) → Type 0
  Covers j k = (c : Configuration) → Memᴰ c (configurations_of k M a) → (d : Configuration) × Memᴰ d (configurations_of j M a) × (d.count ≡ c.count)

  fine_covers : (k : Search) → Covers fine k
  unfolding configurations_of
  fine_covers fine c m = (c, m, refl)
  fine_covers regular c m =
      let r = regular_correct M a small in
      let p = member_place none c (all_regular M a) m in
      by_cases (dec_lt p.0 (last M a)) (λ h. (get_or (all_regular M a) p.0 none, r.among_fine p.0 h, count_of p.2))
      (λ h. let i : p.0 ≡ last M a = omega (arith, p.1, r.many) in
      let most = reached_correct fine (suc (period M a)) in
      (reached fine M a (suc (period M a)), most.among, most.at_period (omega arith) ∙ sym (count_of r.last_one) ∙ count_of (rw i at p.2)))

  -- then it reaches no more points than the other, and no more for a smaller count
  sooner : (j k : Search) (N N' : ℕ) → Covers j k → N' ≤ N → (reached j M a N').count ≤ (reached k M a N).count
  sooner j k N N' covers l =
      let f = reached_correct j N' in
      let r = reached_correct k N in
      by_cases (dec_le N' (reached k M a N).count)
      (λ h. let d = covers (reached k M a N) r.among in omega (arith, d.2, f.first d.0 d.1 (omega (arith, d.2))))
      (λ h. by_cases (dec_le N (period M a)) (λ g. absurd (omega (arith, r.enough g))) (λ g. omega (arith, r.at_period (omega arith), f.within)))

  pub searches_correct : SearchesCorrect M a
  unfolding reached configurations_of all_regular
  searches_correct =
      record {
        regular_ones = refl;
        fine_ones = refl;
        reaches = reached_correct;
        regular_label = λ N. relabelled refl refl (regular_part (expansion_unrolled M a) 0 _ (reached_correct regular N).among);
        few_quotients = λ N h. few (expansion_unrolled M a) small N 0 h (omega arith) (omega (arith, fib_one)) (omega (arith, fib_zero));
        same_sooner = λ k N N'. sooner k k N N' (λ c m. (c, m, refl));
        fine_sooner = λ k N N'. sooner fine k N N' (fine_covers k);
      }
