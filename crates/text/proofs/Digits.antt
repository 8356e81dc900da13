-- What is written for a number are digits that tell it, without a zero in front; and no other digits are such. Assumes nothing.
use mathlib.Core.Path.{◌≡◌, sym, ap, ◌∙◌}
use mathlib.Core.List.{List, [], ◌∷◌, ◌++◌, append_assoc, append-nil}
use mathlib.Core.Logic.{by_cases}
use Prim.Native.Nat.{ℕ, suc, ◌+◌, ◌-◌, ◌*◌, ◌/◌, ◌%◌, ◌<◌}
use native.Mathlib.Decide.{dec_lt}
use native.Mathlib.Nat.{zero-add, zero-lt-suc, pos_of_ne-zero}
use native.Mathlib.Omega.{arith}
use lib.ListN.{length, get_or, length-append, get_or-append}
use lib.Seq.{get_or_at}
use Rattle.text.specs.Text.{digit, decimal}
use Rattle.text.specs.Promise.{decimal_value, Digits, NoZeroInFront, DecimalCorrect}
use Rattle.text.proofs.Decimals.{one_digit, more_digits, by_tenths, byte_alone, byte_after, few_digits, many_digits}
use Rattle.text.proofs.Numbers.{number_reads}

-- ---- digits

digits_and_one : (xs : List ℕ) (d : ℕ) → d < 10 → Digits xs → Digits (xs ++ digit d ∷ [])
digits_and_one xs d h all i l =
    by_cases (dec_lt i (length xs)) (λ k. rw (get_or-append xs (digit d ∷ []) 0 i k) (all i k))
    (λ k. rw (get_or_at xs (digit d) [] 0 i (omega (arith, length-append xs (digit d ∷ [])))) (omega arith))

written_are_digits : (n : ℕ) → Digits (decimal n)
written_are_digits =
    by_tenths (λ n. Digits (decimal n)) (λ n h. rw (one_digit n h) (digits_and_one [] n h (λ i l. absurd (omega arith))))
    (λ n h tenth. rw (more_digits n h) (digits_and_one (decimal (n / 10)) (n % 10) (omega arith) tenth))

-- ---- the first digit

-- there is one, and it is not 0 where the number is not
first : (n : ℕ) → (0 < length (decimal n)) × (0 < n → 48 < get_or (decimal n) 0 0)
first =
    by_tenths (λ n. (0 < length (decimal n)) × (0 < n → 48 < get_or (decimal n) 0 0)) (λ n h. rw (one_digit n h) (omega arith))
    (λ n h tenth. rw (more_digits n h, get_or-append (decimal (n / 10)) (digit (n % 10) ∷ []) 0 0 tenth.0, length-append)
    (omega arith, λ p. tenth.1 (omega arith)))

zero_alone : (n : ℕ) → get_or (decimal n) 0 0 ≡ 48 → length (decimal n) ≡ 1
zero_alone n e = by_cases (dec_lt n 10) (λ h. ap length (one_digit n h)) (λ h. absurd (omega (arith, (first n).1 (omega arith))))

-- ---- the number that is told

told_one_more : (a : ℕ) (xs : List ℕ) (d : ℕ) → decimal_value a (xs ++ digit d ∷ []) ≡ decimal_value a xs * 10 + d
unfolding decimal_value
told_one_more a [] d = omega arith
told_one_more a (x ∷ xs) d = told_one_more (a * 10 + (x - 48)) xs d

written_tell : (n : ℕ) → decimal_value 0 (decimal n) ≡ n
unfolding decimal_value
written_tell =
    by_tenths (λ n. decimal_value 0 (decimal n) ≡ n) (λ n h. rw (one_digit n h) (omega arith))
    (λ n h tenth. omega (arith, tenth, ap (decimal_value 0) (more_digits n h), told_one_more 0 (decimal (n / 10)) (n % 10)))

-- ---- nothing else tells it

-- digits that come after those of a number are the next ones of what they tell together; after a 0 there are none
told_after : (a : ℕ) (xs : List ℕ) → (0 < length xs → 0 < a) → Digits xs → decimal (decimal_value a xs) ≡ decimal a ++ xs
unfolding decimal_value
told_after a [] p all = sym (append-nil (decimal a))
told_after a (x ∷ xs) p all =
    let some : 0 < a = p (zero-lt-suc (length xs)) in
    let byte = all 0 (zero-lt-suc (length xs)) in
    told_after (a * 10 + (x - 48)) xs (λ l. omega arith) (λ i l. all (suc i) (omega arith))
    ∙ rw (byte_after x byte.0 byte.1 a some) (append_assoc (decimal a) (x ∷ []) xs)

as_written : (xs : List ℕ) → Digits xs → NoZeroInFront xs → xs ≡ decimal (decimal_value 0 xs)
unfolding decimal_value
as_written [] all front = absurd (omega (arith, front.0))
as_written (x ∷ xs) all front =
    let byte = all 0 front.0 in
    let some : 0 < length xs → 0 < x - 48 = λ l. pos_of_ne-zero (λ z. omega (arith, front.1 (omega arith))) in
    rw zero-add (sym (told_after (x - 48) xs some (λ i l. all (suc i) (omega arith)) ∙ rw (byte_alone x byte.0 byte.1)))

-- ---- all of it

pub decimal_correct : (n : ℕ) → DecimalCorrect n
decimal_correct n =
    record {
      digits = written_are_digits n;
      no_zero_in_front = ((first n).0, zero_alone n);
      tells = written_tell n;
      unique = λ xs all front e. as_written xs all front ∙ ap decimal e;
      few = λ k h. few_digits k n h;
      at_most_20 = λ h. few_digits 19 n (omega (arith, h));
      many = λ k h. many_digits k n h;
      read_back = λ at rest h. number_reads at n rest h;
    }
