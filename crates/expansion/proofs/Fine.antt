-- The fine configurations: for each row as many as its quotient, with counts that ascend by its denominator. Assumes nothing.
use mathlib.Core.Path.{◌≡◌, refl, sym, ◌∙◌, ap}
use mathlib.Core.List.Memᴰ
use mathlib.Core.List.{List, [], ◌∷◌, ◌++◌, append-nil, Memᴰ}
use mathlib.Core.Logic.{⊎_elim}
use Prim.Native.Nat.{ℕ, zero, suc, ◌+◌, ◌-◌, ◌*◌, ◌/◌, ◌≤◌, ◌<◌}
use native.Mathlib.Nat.{mod-lt, eq-or-lt_of_le}
use native.Mathlib.Omega.{arith}
use borrow.Author.Tests.{ne_eqb}
use lib.ListN.{length, get_or, length-append}
use lib.Seq.{get_or-append-add}
use Rattle.numbers.proofs.Remainders.{quotient_positive}
use Rattle.numbers.proofs.Lists.{AscendingFrom}
use Rattle.numbers.proofs.Lists.AscendingFrom.{ascending_nil, ascending_cons}
use Rattle.expansion.specs.Rows.{Row, row, denominators, quotients}
use Rattle.expansion.specs.Configurations.{Configuration, configuration, none, counts, parts_from, fine_from}
use Rattle.expansion.proofs.Unrolling.{Rows, some_row, first_row}
use Rattle.expansion.proofs.Unrolling.Rows.{end, next}
use Rattle.expansion.proofs.Recurrences.{Kept, kept_next, single_row, several_rows}
use Rattle.expansion.proofs.Regular.{last_of, relabelled}

pub fine_next : (i p u q k : ℕ) (rs : List Row) → 0 < u → fine_from i p (row u q k ∷ rs) ≡ parts_from k 0 i p q ++ fine_from (suc i) q rs
unfolding fine_from
fine_next i p u q k rs h = rw (ne_eqb u 0 (λ e. omega (arith, e)))

pub fine_end : (i p q : ℕ) → fine_from i p (row 0 q 0 ∷ []) ≡ []
unfolding fine_from
fine_end i p q = refl

-- ---- the parts of one row

module _ (i p q : ℕ) where
  abbrev pub part_of : ℕ → Configuration
  part_of t = configuration (q + p + t * q) i t

  pub parts_many : (n t : ℕ) → length (parts_from n t i p q) ≡ n
  unfolding parts_from
  parts_many zero t = refl
  parts_many (suc n) t = ap suc (parts_many n (suc t))

  parts_at : (n t : ℕ) → get_or (parts_from (suc n) t i p q) n none ≡ part_of (t + n)
  unfolding parts_from
  parts_at zero t = ap part_of (omega arith)
  parts_at (suc n) t = parts_at n (suc t) ∙ ap part_of (omega arith)

  parts_have : (n t s : ℕ) → t ≤ s → s < t + n → Memᴰ (part_of s) (parts_from n t i p q)
  unfolding parts_from
  parts_have zero t s l h = absurd (omega (arith, l, h))
  parts_have (suc n) t s l h =
      ⊎_elim (λ e. Memᴰ.head (ap part_of (sym e))) (λ k. Memᴰ.tail (parts_have n (suc t) s k (omega arith))) (eq-or-lt_of_le l)

  parts_only : (c : Configuration) (n t : ℕ) → Memᴰ c (parts_from n t i p q) → (c.part < t + n) × (c ≡ part_of c.part)
  unfolding parts_from
  parts_only c zero t d = absurd (Memᴰ.not-nil d)
  parts_only c (suc n) t d =
      ⊎_elim (λ e. let f = ap (λ (x : Configuration). x.part) e in (omega arith, e ∙ ap part_of (sym f)))
      (λ e. let r = parts_only c n (suc t) e in (omega (arith, r.0), r.1))
      (Memᴰ.cases_cons d)

  -- counts ascend through the parts and on, if what follows ascends from the count after them
  parts_ascend : (n t b : ℕ) (rest : List Configuration) → b ≤ q + p + t * q → 1 ≤ q
      → ((d : ℕ) → d ≤ q + p + (t + n) * q → AscendingFrom d (counts rest)) → AscendingFrom b (counts (parts_from n t i p q ++ rest))
  unfolding parts_from
  parts_ascend zero t b rest h o c = c b (omega arith)
  parts_ascend (suc n) t b rest h o c =
      ascending_cons h (parts_ascend n (suc t) (suc (q + p + t * q)) rest (omega arith) o (λ d l. c d (omega arith)))

-- ---- row by row

-- counts ascend from q + p on
pub fine_ascend : {M t u p q : ℕ} {rs : List Row} → Rows t u p q rs → Kept M t u p q → (i n : ℕ) → n ≤ q + p
    → AscendingFrom n (counts (fine_from i p rs))
fine_ascend end k i n b = rw fine_end ascending_nil
fine_ascend (next {t} {u} {p} {q} h r) k i n b =
    rw fine_next (parts_ascend i p q (t / u) 0 n _ (omega arith) k.some (λ d e. fine_ascend r (kept_next k h) (suc i) d (omega arith)))

-- the configuration of label (j, s), where the rows begin with row i
abbrev labelled : (i p : ℕ) → List Row → (j s : ℕ) → Configuration
labelled i p rs j s =
    configuration (get_or (denominators rs) j 0 + get_or (p ∷ denominators rs) j 0 + s * get_or (denominators rs) j 0) (i + j) s

-- every label is there
pub fine_has : {t u p q : ℕ} {rs : List Row} → Rows t u p q rs → (i j s : ℕ) → suc j < length rs → s < get_or (quotients rs) j 0
    → Memᴰ (labelled i p rs j s) (fine_from i p rs)
fine_has end i j s l h = absurd (omega (arith, l))
fine_has (next {t} {u} {p} {q} w r) i zero s l h =
    rw fine_next
    (Memᴰ.append_left _ (Memᴰ.cast (relabelled refl (omega arith) refl) (parts_have i p q (t / u) 0 s (omega arith) (omega (arith, h)))))
fine_has (next {t} {u} {p} {q} w r) i (suc j) s l h =
    rw fine_next
    (Memᴰ.append_right (parts_from (t / u) 0 i p q) (Memᴰ.cast (relabelled refl (omega arith) refl) (fine_has r (suc i) j s (omega (arith, l)) h)))

-- and nothing else
pub record Labelled (i p : ℕ) (rs : List Row) (c : Configuration) : Type 0 where
  pub row_of : ℕ
  pub within : suc row_of < length rs
  pub below : c.part < get_or (quotients rs) row_of 0
  pub is : c ≡ labelled i p rs row_of c.part

pub fine_only : {t u p q : ℕ} {rs : List Row} → Rows t u p q rs → (i : ℕ) (c : Configuration) → Memᴰ c (fine_from i p rs) → Labelled i p rs c
fine_only (end {t} {p} {q}) i c d = absurd (Memᴰ.not-nil (rw (fine_end i p q) at d))
fine_only (next {t} {u} {p} {q} w r) i c d =
    ⊎_elim
    (λ e. let s = parts_only i p q c (t / u) 0 e in
    record { row_of = 0; within = omega (arith, some_row r); below = omega (arith, s.0); is = s.1 ∙ relabelled refl (omega arith) refl })
    (λ e. let b = fine_only r (suc i) c e in
    record { row_of = suc b.row_of; within = omega (arith, b.within); below = b.below; is = b.is ∙ relabelled refl (omega arith) refl })
    (Memᴰ.append_cases (parts_from (t / u) 0 i p q) (rw fine_next at d))

-- ---- the first one and the last one

first_part : (i p q k : ℕ) (rest : List Configuration) → 0 < k → get_or (parts_from k 0 i p q ++ rest) 0 none ≡ configuration (q + p) i 0
unfolding parts_from
first_part i p q zero rest h = absurd (omega (arith, h))
first_part i p q (suc n) rest h = relabelled (omega arith) refl refl

pub fine_first : {t u p q : ℕ} {rs : List Row} → Rows t u p q rs → u < t → 0 < u → (i : ℕ) → get_or (fine_from i p rs) 0 none ≡ configuration (q + p) i 0
fine_first end l h i = absurd (omega (arith, h))
fine_first (next {t} {u} {p} {q} w r) l h i = rw fine_next (first_part i p q (t / u) _ (quotient_positive t u w (omega (arith, l))))

fine_none : {t u p q : ℕ} {rs : List Row} → Rows t u p q rs → (i : ℕ) → u ≡ 0 → fine_from i p rs ≡ []
fine_none (end {t} {p} {q}) i e = fine_end i p q
fine_none (next w r) i e = absurd (omega (arith, e, w))

pub fine_some : {t u p q : ℕ} {rs : List Row} → Rows t u p q rs → (i : ℕ) → u < t → 0 < u → 0 < length (fine_from i p rs)
fine_some end i l h = absurd (omega (arith, h))
fine_some (next {t} {u} w r) i l h = rw (fine_next, length-append, parts_many) (omega (arith, quotient_positive t u w (omega (arith, l))))

last_append : (xs ys : List Configuration) → 0 < length ys → last_of (xs ++ ys) ≡ last_of ys
last_append xs ys h =
    let e : length (xs ++ ys) - 1 ≡ length xs + (length ys - 1) = omega (arith, length-append xs ys) in
    rw (e, get_or-append-add)

last_part : (i p q k : ℕ) → 0 < k → last_of (parts_from k 0 i p q) ≡ configuration (p + k * q) i (k - 1)
last_part i p q zero h = absurd (omega (arith, h))
last_part i p q (suc n) h =
    let e : length (parts_from (suc n) 0 i p q) - 1 ≡ n = omega (arith, parts_many i p q (suc n) 0) in
    rw e (parts_at i p q n 0 ∙ relabelled (omega arith) refl (omega arith))

pub fine_final : {t u p q : ℕ} {rs : List Row} → Rows t u p q rs → u < t → (i j : ℕ) → suc (suc j) ≡ length rs
    → last_of (fine_from i p rs) ≡ configuration (get_or (denominators rs) (suc j) 0) (i + j) (get_or (quotients rs) j 0 - 1)
fine_final end l i j e = absurd (omega (arith, e))
fine_final (next {t} {u} {p} {q} w r) l i zero e =
    rw (fine_next, fine_none r (suc i) (single_row r (omega (arith, e))), append-nil, (first_row r).1)
    (last_part i p q (t / u) (quotient_positive t u w (omega (arith, l))) ∙ relabelled refl (omega arith) refl)
fine_final (next {t} {u} {p} {q} {rs} w r) l i (suc j) e =
    rw fine_next
    (last_append (parts_from (t / u) 0 i p q) (fine_from (suc i) q rs) (fine_some r (suc i) (mod-lt t w) (several_rows r (omega (arith, e))))
    ∙ fine_final r (mod-lt t w) (suc i) j (omega (arith, e))
    ∙ relabelled refl (omega arith) refl)
