-- The digits of a number sum up to it, and those below each row to less than the row's denominator. A list of digits with such sums is the one that division finds, and
-- it is a list with 02's conditions. Assumes nothing.
use mathlib.Core.Path.{◌≡◌, refl, sym, ◌∙◌, ap, subst}
use mathlib.Core.List.{List, [], ◌∷◌, ◌++◌}
use mathlib.Core.Logic.{by_cases}
use Prim.Native.Nat.{ℕ, zero, suc, ◌+◌, ◌*◌, ◌/◌, ◌%◌, ◌≤◌, ◌<◌}
use native.Mathlib.Nat.{mod-lt, div-add-mod', mul-le-mul_right, zero-add}
use native.Mathlib.Decide.{dec_lt, ℕ_discrete}
use native.Mathlib.Omega.{arith}
use lib.ListN.{length, get_or, take, length-append, get_or-append}
use lib.Seq.{get_or-append_seam, take-suc, take_all}
use Rattle.numbers.specs.Sums.{sum}
use Rattle.numbers.proofs.Remainders.{quotient_of_sum, remainder_of_sum}
use Rattle.numbers.proofs.Sums.{sum_last, sum_same}
use Rattle.expansion.specs.Rows.{last, denominator_at, quotient_at, denominator_before, period}
use Rattle.expansion.specs.Promise.{RowsCorrect, RowsBounded}
use Rattle.expansion.proofs.Promises as expansion
use Rattle.ostrowski.specs.Digits.{digits_over, digits_of}
use Rattle.ostrowski.specs.Promise.{Allowed, ListCorrect}

-- ---- over any denominators

module _ (q : ℕ → ℕ) where
  -- the sum of the digits below row n
  abbrev pub below : List ℕ → (n : ℕ) → ℕ
  below d n = sum (λ i. get_or d i 0 * q i) n 0

  below_none : (d : List ℕ) → below d 0 ≡ 0
  unfolding sum
  below_none d = refl

  pub below_next : (d : List ℕ) (n : ℕ) → below d (suc n) ≡ below d n + get_or d n 0 * q n
  below_next d n = sum_last (λ i. get_or d i 0 * q i) n 0 ∙ rw zero-add

  -- the highest digit, and those of what it leaves
  next : (n x : ℕ) → digits_over q (suc n) x ≡ digits_over q n (x % q n) ++ (x / q n ∷ [])
  unfolding digits_over
  next n x = refl

  many : (n x : ℕ) → length (digits_over q n x) ≡ n
  many zero x = unfold digits_over in refl
  many (suc n) x = omega (arith, ap length (next n x), length-append (digits_over q n (x % q n)) (x / q n ∷ []), many n (x % q n))

  lower_digit : (n x i : ℕ) → i < n → get_or (digits_over q (suc n) x) i 0 ≡ get_or (digits_over q n (x % q n)) i 0
  lower_digit n x i l = rw (next n x) (get_or-append (digits_over q n (x % q n)) (x / q n ∷ []) 0 i (omega (arith, many n (x % q n))))

  highest_digit : (n x : ℕ) → get_or (digits_over q (suc n) x) n 0 ≡ x / q n
  highest_digit n x =
      rw (next n x)
      (subst (λ (k : ℕ). get_or (digits_over q n (x % q n) ++ (x / q n ∷ [])) k 0 ≡ x / q n) (many n (x % q n)) (get_or-append_seam (digits_over q n (x % q n)) (x / q n) [] 0))

  module _ (one : q 0 ≡ 1) where
    -- the digits of a number sum up to it, and those below each row to less than its denominator
    digits_sum : (n x : ℕ) → ((i : ℕ) → i < n → 0 < q i) → x < q n
        → (below (digits_over q n x) n ≡ x) × ((i : ℕ) → i ≤ n → below (digits_over q n x) i < q i)
    digits_sum zero x positive l = (omega (arith, below_none (digits_over q 0 x)), λ i h. first i (omega arith))
      where
        first : (i : ℕ) → i ≡ 0 → below (digits_over q 0 x) i < q i
        first i e = rw (e, below_none (digits_over q 0 x), one) (omega arith)
    digits_sum (suc n) x positive l =
        let r : x % q n < q n = mod-lt x (positive n (omega arith)) in
        let h = digits_sum n (x % q n) (λ i k. positive i (omega arith)) r in
        let d = digits_over q (suc n) x in
        let same : (i : ℕ) → i ≤ n → below d i ≡ below (digits_over q n (x % q n)) i =
        λ i k. sum_same (λ j. get_or d j 0 * q j) (λ j. get_or (digits_over q n (x % q n)) j 0 * q j) i 0
        (λ j z m. ap (λ (v : ℕ). v * q j) (lower_digit n x j (omega arith))) in
        let all : below d (suc n) ≡ x =
        omega (arith, below_next d n, same n (omega arith), h.0, ap (λ (v : ℕ). v * q n) (highest_digit n x), div-add-mod' x (q n)) in
        (all, λ i k. by_cases (dec_lt i (suc n)) (λ m. rw (same i (omega arith)) (h.1 i (omega arith))) (λ m. top i (omega arith) all))
      where
        top : (i : ℕ) → i ≡ suc n → below (digits_over q (suc n) x) (suc n) ≡ x → below (digits_over q (suc n) x) i < q i
        top i e all = rw (e, all) l

  -- digits whose sums are below each denominator are those that division finds
  digits_found : (d : List ℕ) (n : ℕ) → n ≤ length d → ((i : ℕ) → i < n → below d i < q i) → digits_over q n (below d n) ≡ take n d
  digits_found d zero l low = unfold digits_over in refl
  digits_found d (suc n) l low =
      let h = low n (omega arith) in
      let e = below_next d n in
      next n (below d (suc n))
      ∙ rw (e, quotient_of_sum (get_or d n 0) h, remainder_of_sum (get_or d n 0) h)
      (ap (λ (xs : List ℕ). xs ++ (get_or d n 0 ∷ [])) (digits_found d n (omega arith) (λ i k. low i (omega arith))) ∙ sym (take-suc d n 0 (omega arith)))

-- ---- over the denominators of an expansion

-- the sum of the digits below row n
abbrev pub sum_below : (M a : ℕ) → List ℕ → (n : ℕ) → ℕ
sum_below M a = below (denominator_at M a)

pub digits_many : (M a x : ℕ) → length (digits_of M a x) ≡ last M a
unfolding digits_of
digits_many M a x = many _ (last M a) x

module _ (M a : ℕ) (small : a < M) where
  -- the sum of the digits below each row is less than its denominator
  abbrev pub Low : List ℕ → Type 0
  Low d = (i : ℕ) → i ≤ last M a → sum_below M a d i < denominator_at M a i

  rows : RowsCorrect M a
  rows = (expansion.promised).rows M a small

  bounded : RowsBounded M a
  bounded = (expansion.promised).bounded M a small

  -- then a list has the conditions
  allowed : (d : List ℕ) → length d ≡ last M a → Low d → Allowed M a d
  allowed d e low =
      record {
        many = e;
        first = λ l. let h = first l in omega arith;
        at_most = at_most;
        zero_below = λ i l f. let h = zero_below i l f in omega arith;
      }
    where
      first : 0 < last M a → get_or d 0 0 < quotient_at M a 0
      first l =
          omega (
            arith,
            low 1 l,
            below_next (denominator_at M a) d 0,
            rows.denominator 0 l,
            rows.first_denominator_before,
            ap (λ (n : ℕ). quotient_at M a 0 * n) rows.first_denominator,
            ap (λ (n : ℕ). get_or d 0 0 * n) rows.first_denominator,
          )

      at_most : (i : ℕ) → i < last M a → get_or d i 0 ≤ quotient_at M a i
      at_most i l =
          by_cases (dec_lt (quotient_at M a i) (get_or d i 0)) (λ h.
          absurd (omega (
            arith,
            low (suc i) l,
            below_next (denominator_at M a) d i,
            rows.denominator i l,
            bounded.denominators_not_falling i (omega arith),
            mul-le-mul_right (denominator_at M a i) h,
          ))) (λ h. omega arith)

      zero_below : (i : ℕ) → suc i < last M a → get_or d (suc i) 0 ≡ quotient_at M a (suc i) → get_or d i 0 ≡ 0
      zero_below i l f =
          by_cases (ℕ_discrete (get_or d i 0) 0) (λ z. z)
          (λ n. absurd (omega (
            arith,
            low (suc (suc i)) l,
            below_next (denominator_at M a) d (suc i),
            below_next (denominator_at M a) d i,
            rows.denominator (suc i) l,
            rows.next_denominator_before i,
            ap (λ (v : ℕ). v * denominator_at M a (suc i)) f,
            mul-le-mul_right (denominator_at M a i) (positive n),
          )))
        where
          positive : (get_or d i 0 ≡ 0 → ⊥) → 1 ≤ get_or d i 0
          positive n = omega arith

  -- and a list that has the conditions has such sums; where a digit is the largest, the sum is even less than the denominator before
  low : (d : List ℕ) → Allowed M a d → Low d
  low d h i l = (both i l).0
    where
      next : (i : ℕ) → i < last M a → sum_below M a d i < denominator_at M a i → (get_or d i 0 ≡ quotient_at M a i → sum_below M a d i < denominator_before M a i)
          → sum_below M a d (suc i) < denominator_at M a (suc i)
      next i l s t =
          by_cases (ℕ_discrete (get_or d i 0) (quotient_at M a i))
          (λ e. omega (arith, t e, below_next (denominator_at M a) d i, rows.denominator i l, ap (λ (v : ℕ). v * denominator_at M a i) e))
          (λ n. omega (
            arith,
            s,
            below_next (denominator_at M a) d i,
            rows.denominator i l,
            mul-le-mul_right (denominator_at M a i) (less i n (h.at_most i l)),
          ))
        where
          less : (i : ℕ) → (get_or d i 0 ≡ quotient_at M a i → ⊥) → get_or d i 0 ≤ quotient_at M a i → suc (get_or d i 0) ≤ quotient_at M a i
          less i n m = omega arith

      both : (i : ℕ) → i ≤ last M a
          → (sum_below M a d i < denominator_at M a i) × (i < last M a → get_or d i 0 ≡ quotient_at M a i → sum_below M a d i < denominator_before M a i)
      both zero l = (
        omega (arith, below_none (denominator_at M a) d, rows.first_denominator),
        λ k e. absurd (omega (arith, h.first k, e)),
      )
      both (suc i) l =
          let b = both i (omega arith) in (
            next i l b.0 (b.1 l),
            λ k e.
                let z : get_or d i 0 ≤ 0 = omega (arith, h.zero_below i k e) in
                omega (arith, b.0, below_next (denominator_at M a) d i, rows.next_denominator_before i, mul-le-mul_right (denominator_at M a i) z),
          )

  module _ (x : ℕ) (within : x < period M a) where
    parts : (sum_below M a (digits_of M a x) (last M a) ≡ x) × Low (digits_of M a x)
    unfolding digits_of
    parts =
        digits_sum (denominator_at M a) rows.first_denominator (last M a) x (λ i l. bounded.denominator_positive i (omega arith))
        (omega (arith, within, ((expansion.promised).period M a small).last_denominator))

    pub digits_sum_to : sum_below M a (digits_of M a x) (last M a) ≡ x
    digits_sum_to = parts.0

    pub digits_low : Low (digits_of M a x)
    digits_low = parts.1

    pub digits_allowed : Allowed M a (digits_of M a x)
    digits_allowed = allowed (digits_of M a x) (digits_many M a x) digits_low

  -- a list that has the conditions is that of its sum
  module _ (d : List ℕ) (h : Allowed M a d) where
    pub digits_are : digits_of M a (sum_below M a d (last M a)) ≡ d
    unfolding digits_of
    digits_are =
        digits_found (denominator_at M a) d (last M a) (omega (arith, h.many)) (λ i l. low d h i (omega arith)) ∙ take_all (last M a) d (omega (arith, h.many))

    pub list_correct : ListCorrect M a d
    list_correct = (
      sum_below M a d (last M a),
      omega (arith, low d h (last M a) (omega arith), ((expansion.promised).period M a small).last_denominator),
      refl,
      digits_are,
    )
