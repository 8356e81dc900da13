-- A number is read from a text exactly where its decimal digits and a line feed stand there. Assumes nothing.
use mathlib.Core.Path.{◌≡◌, sym, ap, ◌∙◌}
use mathlib.Core.Bool.{true}
use mathlib.Core.List.{List, [], ◌∷◌, ◌++◌, append_assoc}
use mathlib.Core.Logic.{◌↔◌, ⊎_elim, by_cases}
use mathlib.Mathlib.Data.Bool.Basic.{dichotomy}
use Prim.Native.Nat.{ℕ, suc, ◌+◌, ◌-◌, ◌*◌, ◌/◌, ◌%◌, ◌^◌, ◌≤◌, ◌<◌}
use native.Mathlib.Decide.{dec_lt}
use native.Mathlib.Numerals.{add-one}
use native.Mathlib.Omega.{arith}
use lib.Dec.{eqb}
use lib.ListN.{length, get_or, drop, length-append, length-drop}
use lib.Seq.{drop-cons, drop-drop}
use borrow.Author.Tests.{lt-ltb, le-leb, ne_eqb, eqb-true}
use Rattle.std.proofs.Common.{Some}
use Rattle.std.proofs.lemmas.Option.{none-some, some_pair_parts}
use Rattle.numbers.proofs.Lists.{after_piece}
use Rattle.text.specs.Text.{digit, decimal}
use Rattle.text.specs.Reading.{is_digit, takes_digit, digits_from, number_from}
use Rattle.text.proofs.Decimals.{one_digit, more_digits, by_tenths, byte_alone, byte_after}
use Rattle.text.proofs.Steps.{digit_within, taken, number_over, no_first, first_digit}

-- ---- where it is read, it stands there

-- after the digits of n, a text completes those of m, and a line feed ends them just before the place end
record Stands (n at : ℕ) (t : List ℕ) (m end : ℕ) : Type 0 where
  rest : List ℕ
  text : decimal n ++ t ≡ decimal m ++ 10 ∷ rest
  place : end + length (decimal n) ≡ suc (at + length (decimal m))
  fits : m < 2 ^ 64

-- one digit more
stands_next : (n at x : ℕ) (xs : List ℕ) {m end : ℕ} → 0 < n → 48 ≤ x → x ≤ 57 → Stands (n * 10 + (x - 48)) (suc at) xs m end → Stands n at (x ∷ xs) m end
stands_next n at x xs p low high g =
    let e = byte_after x low high n p in
    record {
      rest = g.rest;
      text = sym (append_assoc (decimal n) (x ∷ []) xs) ∙ (rw e at g.text);
      place = omega (arith, g.place, ap length e, length-append (decimal n) (x ∷ []));
      fits = g.fits;
    }

stands_from : (n at : ℕ) (t : List ℕ) {m end : ℕ} → n < 2 ^ 64 → digits_from n at t ≡ Some (m, end) → Stands n at t m end
unfolding digits_from
stands_from n at [] h e = absurd (none-some _ e)
stands_from n at (x ∷ xs) {m} {end} h e =
    ⊎_elim
    (λ b. let f = rw b at e in
    ⊎_elim (λ d. absurd (none-some _ (rw d at f)))
    (λ d. let k = taken n x d in stands_next n at x xs k.2 k.0 k.1 (stands_from (n * 10 + (x - 48)) (suc at) xs k.3 (rw d at f)))
    (dichotomy (takes_digit n x)))
    (λ b. let f = rw b at e in
    let p = some_pair_parts n m (suc at) end f in
    record { rest = xs; text = rw (p.0, eqb-true x 10 b); place = omega (arith, ap (λ (k : ℕ). length (decimal k)) p.0); fits = omega arith })
    (dichotomy (eqb x 10))

-- what is written stands at a place of a text, and a line feed, which ends it just before another place
pub record WrittenAt (written t : List ℕ) (at end : ℕ) : Type 0 where
  pub text : drop at t ≡ written ++ 10 ∷ drop end t
  pub within : end ≤ length t

-- where it ends
pub ends_at : {written t : List ℕ} {at end : ℕ} → WrittenAt written t at end → end ≡ suc (at + length written)
ends_at {written} {t} {at} {end} w = omega (arith, w.within, simp (length-append, length-drop) at (ap length w.text))

pub written_at : (written t rest : List ℕ) (at : ℕ) {end : ℕ} → drop at t ≡ written ++ 10 ∷ rest → end ≡ suc (at + length written) → WrittenAt written t at end
written_at written t rest at {end} e f =
    let k : end ≡ at + length written + 1 = omega arith in
    let after : drop end t ≡ rest = rw (k, ← drop-drop 1 (at + length written) t, after_piece t at written (10 ∷ rest) e) in
    record { text = rw after e; within = omega (arith, simp (length-append, length-drop) at (ap length e)) }

number_read : (t : List ℕ) (at : ℕ) {m end : ℕ} → number_from at (drop at t) ≡ Some (m, end) → (m < 2 ^ 64) × WrittenAt (decimal m) t at end
number_read t at {m} e =
    by_cases (dec_lt at (length t))
    (λ l. ⊎_elim (λ d. absurd (none-some _ (sym (no_first at t l d) ∙ e)))
    (λ d. let w = digit_within (get_or t at 0) d in
    let one = byte_alone (get_or t at 0) w.0 w.1 in
    let s = stands_from (get_or t at 0 - 48) (at + 1) (drop (at + 1) t) (omega (arith, w)) (sym (first_digit at t l d) ∙ e) in
    let here : drop at t ≡ get_or t at 0 ∷ drop (at + 1) t = rw (add-one, drop-cons t at 0) in
    (s.fits, written_at (decimal m) t s.rest at (here ∙ (rw one at s.text)) (omega (arith, s.place, ap length one))))
    (dichotomy (is_digit (get_or t at 0))))
    (λ l. absurd (none-some _ (sym (number_over at t (omega arith)) ∙ e)))

-- ---- where it stands, it is read

abbrev Continues : ℕ → Type 0
Continues m = (at : ℕ) (rest : List ℕ) → m < 2 ^ 64 → number_from at (decimal m ++ rest) ≡ digits_from m (at + length (decimal m)) rest

a_digit : (d : ℕ) → d < 10 → is_digit (digit d) ≡ true
a_digit d h = rw (le-leb 48 (48 + d) (omega arith), le-leb (48 + d) 57 (omega arith))

continues_small : (m : ℕ) → m < 10 → Continues m
unfolding number_from
continues_small m h at rest l =
    let d : 48 + m - 48 ≡ m = omega arith in
    rw (one_digit m h, a_digit m h, d, add-one at)

digit_read : (n d at : ℕ) (rest : List ℕ) → 0 < n → d < 10 → n * 10 + d < 2 ^ 64
    → digits_from n at (digit d ∷ rest) ≡ digits_from (n * 10 + d) (suc at) rest
unfolding digits_from takes_digit
digit_read n d at rest p h l =
    let e : 48 + d - 48 ≡ d = omega arith in
    rw (ne_eqb (48 + d) 10 (λ k. omega (arith, k)), a_digit d h, lt-ltb 0 n p, e, lt-ltb (n * 10 + d) (2 ^ 64) l)

continues_more : (m : ℕ) → 10 ≤ m → Continues (m / 10) → Continues m
continues_more m h next at rest l =
    let q = m / 10 in
    let d = m % 10 in
    let e : q * 10 + d ≡ m = omega arith in
    let n : suc (at + length (decimal q)) ≡ at + (length (decimal q) + 1) = omega arith in
    rw (more_digits m h, append_assoc (decimal q) (digit d ∷ []) rest, length-append)
    (next at (digit d ∷ rest) (omega arith) ∙ digit_read q d (at + length (decimal q)) rest (omega arith) (omega arith) (omega arith) ∙ rw (e, n))

pub number_reads : (at m : ℕ) (rest : List ℕ) → m < 2 ^ 64 → number_from at (decimal m ++ 10 ∷ rest) ≡ Some (m, suc (at + length (decimal m)))
unfolding digits_from
number_reads at m rest h = by_tenths Continues continues_small continues_more m at (10 ∷ rest) h

-- ---- both

pub number_iff : (t : List ℕ) (at n end : ℕ) → (number_from at (drop at t) ≡ Some (n, end)) ↔ ((n < 2 ^ 64) × WrittenAt (decimal n) t at end)
number_iff t at n end = (number_read t at, λ h. rw h.1.text (number_reads at n (drop end t) h.0 ∙ ap (λ (k : ℕ). Some (n, k)) (sym (ends_at h.1))))
