-- The decimal digits of a number: the last one and the digits of the tenth of it; how they are written from the last one down; how many there are.
-- Assumes nothing.
use mathlib.Core.Path.{◌≡◌, sym, ap, ◌∙◌}
use mathlib.Core.Bool.{Bool, true, false}
use mathlib.Core.List.{List, [], ◌∷◌, ◌++◌, append_assoc}
use mathlib.Core.Logic.{by_cases}
use Prim.Native.Nat.{ℕ, zero, suc, ◌+◌, ◌-◌, ◌*◌, ◌/◌, ◌%◌, ◌^◌, ◌≤◌, ◌<◌}
use native.Mathlib.Decide.{dec_lt}
use native.Mathlib.Nat.{not-suc-le-zero, zero-lt-suc, pos_of_ne-zero, pow-suc, one-le-pow, div-lt_iff_lt-mul, le-div_iff_mul-le}
use native.Mathlib.Omega.{arith}
use lib.ListN.{length, set, take, drop, length-append, length-set, length-drop}
use lib.Seq.{take_all}
use borrow.Author.Tests.{lt-ltb, le-ltb}
use Rattle.numbers.proofs.Lists.{drop_set}
use Rattle.text.specs.Text.{digit, decimal_within, decimal}

-- ---- the recurrence

within_small : (f n : ℕ) → n < 10 → decimal_within (suc f) n ≡ digit n ∷ []
unfolding decimal_within
within_small f n h =
    ap (λ (b : Bool). elim b [ true ↦ digit n ∷ [] | false ↦ decimal_within f (n / 10) ++ digit (n % 10) ∷ [] ]) (lt-ltb n 10 h)

within_more : (f n : ℕ) → 10 ≤ n → decimal_within (suc f) n ≡ decimal_within f (n / 10) ++ digit (n % 10) ∷ []
unfolding decimal_within
within_more f n h =
    ap (λ (b : Bool). elim b [ true ↦ digit n ∷ [] | false ↦ decimal_within f (n / 10) ++ digit (n % 10) ∷ [] ]) (le-ltb n 10 h)

-- fuel above the number is enough
enough : (f g n : ℕ) → n < f → n < g → decimal_within f n ≡ decimal_within g n
enough zero g n hf hg = absurd (not-suc-le-zero hf)
enough (suc f) zero n hf hg = absurd (not-suc-le-zero hg)
enough (suc f) (suc g) n hf hg =
    by_cases (dec_lt n 10) (λ h. within_small f n h ∙ sym (within_small g n h))
    (λ h. let e = enough f g (n / 10) (omega arith) (omega arith) in rw (within_more f n (omega arith), within_more g n (omega arith), e))

pub one_digit : (n : ℕ) → n < 10 → decimal n ≡ digit n ∷ []
unfolding decimal
one_digit n h = within_small n n h

pub more_digits : (n : ℕ) → 10 ≤ n → decimal n ≡ decimal (n / 10) ++ digit (n % 10) ∷ []
unfolding decimal
more_digits n h = within_more n n h ∙ rw (enough n (suc (n / 10)) (n / 10) (omega arith) (omega arith))

-- whatever holds of the numbers below ten, and of a number where it holds of its tenth, holds of all
pub by_tenths : (P : ℕ → Type 0) → ((n : ℕ) → n < 10 → P n) → ((n : ℕ) → 10 ≤ n → P (n / 10) → P n) → (n : ℕ) → P n
by_tenths P small more n = go (suc n) n (omega arith)
  where
    go : (f k : ℕ) → k < f → P k
    go zero k h = absurd (not-suc-le-zero h)
    go (suc f) k h = by_cases (dec_lt k 10) (small k) (λ l. more k (omega arith) (go f (k / 10) (omega arith)))

-- the tenth of a number has a digit less
tenth_below : (k n : ℕ) → n < 10 ^ suc k → n / 10 < 10 ^ k
tenth_below k n h = (div-lt_iff_lt-mul (zero-lt-suc 9)).1 (omega (arith, pow-suc 10 k))

-- the byte of a digit x, alone and after the digits of a number that is not 0
module _ (x : ℕ) (low : 48 ≤ x) (high : x ≤ 57) where
  pub byte_alone : decimal (x - 48) ≡ x ∷ []
  byte_alone =
      let d : digit (x - 48) ≡ x = omega arith in
      one_digit (x - 48) (omega arith) ∙ ap (λ (y : ℕ). y ∷ []) d

  pub byte_after : (n : ℕ) → 0 < n → decimal (n * 10 + (x - 48)) ≡ decimal n ++ x ∷ []
  byte_after n p =
      let q : (n * 10 + (x - 48)) / 10 ≡ n = omega arith in
      let r : digit ((n * 10 + (x - 48)) % 10) ≡ x = omega arith in
      more_digits (n * 10 + (x - 48)) (omega arith) ∙ rw (q, r)

-- ---- from the last place down

-- of `size` places those after `first` hold the last digits of n; the digits of `left` are still to come, and fit up to `first`
pub record DigitsAfter (size n : ℕ) (places : List ℕ) (first left : ℕ) : Type 0 where
  pub digits : decimal left ++ drop (suc first) places ≡ decimal n
  pub room : left < 10 ^ suc first
  pub within : first < size
  pub size_kept : length places ≡ size

module _ {size n : ℕ} {places : List ℕ} {first left : ℕ} (w : DigitsAfter size n places first left) where
  -- where two digits or more are left, there is a place before
  pub place_before : 10 ≤ left → 0 < first
  place_before h = pos_of_ne-zero (λ z. omega (arith, rw z at w.room))

  -- the last one that is left is written
  pub digit_written : 10 ≤ left → DigitsAfter size n (set places first (digit (left % 10))) (first - 1) (left / 10)
  digit_written h =
      let e : suc (first - 1) ≡ first = omega (arith, place_before h) in
      let d = digit (left % 10) in
      record {
        digits =
            rw (e, drop_set places first d (omega arith), ← append_assoc (decimal (left / 10)) (d ∷ []) (drop (suc first) places), ← more_digits left h) w.digits;
        room = rw e (tenth_below first left w.room);
        within = omega arith;
        size_kept = length-set places first d ∙ w.size_kept;
      }

  -- the only one that is left is written, and the places from it on have all digits
  pub first_written : left < 10 → take (size - first) (drop first (set places first (digit left))) ≡ decimal n
  first_written h =
      let now = set places first (digit left) in
      take_all (size - first) (drop first now) (omega (arith, length-drop first now, length-set places first (digit left)))
      ∙ rw (drop_set places first (digit left) (omega arith), ← w.digits, one_digit left h)

-- ---- how many

-- a number below a power of ten has no more digits than the power has zeros
pub few_digits : (k n : ℕ) → n < 10 ^ suc k → length (decimal n) ≤ suc k
few_digits zero n h = rw (one_digit n h) (omega arith)
few_digits (suc k) n h =
    by_cases (dec_lt n 10) (λ l. rw (one_digit n l) (omega arith))
    (λ l. rw (more_digits n (omega arith), length-append) (omega (arith, few_digits k (n / 10) (tenth_below (suc k) n h))))

-- and one that is not below it has more
pub many_digits : (k n : ℕ) → 10 ^ k ≤ n → suc k ≤ length (decimal n)
many_digits zero n h =
    by_cases (dec_lt n 10) (λ l. rw (one_digit n l) (omega arith)) (λ l. rw (more_digits n (omega arith), length-append) (omega arith))
many_digits (suc k) n h =
    let some = one-le-pow k 10 (zero-lt-suc 9) in
    rw (more_digits n (omega (arith, some, pow-suc 10 k)), length-append)
    (omega (arith, many_digits k (n / 10) ((le-div_iff_mul-le (zero-lt-suc 9)).1 (omega (arith, pow-suc 10 k)))))
