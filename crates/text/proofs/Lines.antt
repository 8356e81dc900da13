-- A field is read from a place of a text exactly where its line stands there and its number is in range. Assumes nothing.
use mathlib.Core.Path.{◌≡◌, refl, sym, ap, ◌∙◌}
use mathlib.Core.Bool.{true, false, cond}
use mathlib.Core.List.{List, [], ◌∷◌, ◌++◌, append_assoc}
use mathlib.Core.Logic.{◌↔◌, ⊎_elim}
use mathlib.Mathlib.Data.Bool.Basic.{dichotomy}
use Prim.Native.Nat.{ℕ, zero, suc, ◌+◌, ◌/◌, ◌%◌, ◌^◌, ◌<◌}
use native.Mathlib.Nat.{zero-lt-suc}
use native.Mathlib.Omega.{arith}
use lib.Dec.{ltb}
use lib.IntN.{ℤ, pos, negsuc, nat_abs}
use lib.ListN.{length, drop}
use lib.Seq.{drop-drop}
use borrow.Author.Tests.{lt-ltb, ne_eqb, ltb-true}
use Rattle.std.proofs.Common.{Option, Some, None}
use Rattle.std.proofs.lemmas.Option.{none-some, some_pair_parts}
use Rattle.numbers.proofs.Lists.{after_piece}
use Rattle.text.specs.Text.{bytes, digit, decimal, signed_decimal}
use Rattle.text.specs.Reading.{starts, number_from, field_at, unsigned, opposite, signed_from, signed_field_at}
use Rattle.text.specs.Promise.{LineAt, FieldCorrect}
use Rattle.text.proofs.Decimals.{one_digit, more_digits, by_tenths}
use Rattle.text.proofs.Names.{starts_itself, begins}
use Rattle.text.proofs.Numbers.{WrittenAt, number_iff}

-- ---- a name, and what is written after it

module _ (name t : List ℕ) (at : ℕ) where
  -- a name that stands at a place, and what follows it
  named : starts name (drop at t) ≡ true → drop at t ≡ name ++ drop (at + length name) t
  named e = begins name (drop at t) e ∙ rw drop-drop

  stands : (rest : List ℕ) → drop at t ≡ name ++ rest → starts name (drop at t) ≡ true
  stands rest e = rw e (starts_itself name rest)

  line_iff : (written : List ℕ) (end : ℕ) → ((starts name (drop at t) ≡ true) × WrittenAt written t (at + length name) end) ↔ LineAt name written t at end
  line_iff written end = (
    λ h. record { text = named h.0 ∙ rw h.1.text; within = h.1.within },
    λ l. (stands (written ++ 10 ∷ drop end t) l.text, record { text = after_piece t at name (written ++ 10 ∷ drop end t) l.text; within = l.within }),
  )

  -- a reader that goes on after the name finds a line where it finds what is written
  field_iff : {A R : Type 0} {good : A} (written : List ℕ) (end : ℕ) (read : Option A)
      → (read ≡ Some good) ↔ (R × WrittenAt written t (at + length name) end)
      → (cond (starts name (drop at t)) read None ≡ Some good) ↔ (R × LineAt name written t at end)
  field_iff {good = good} written end read i = (
    λ e. ⊎_elim (λ b. absurd (none-some good (rw b at e))) (λ b. let h = i.0 (rw b at e) in (h.0, (line_iff written end).0 (b, h.1)))
        (dichotomy (starts name (drop at t))),
    λ h. let l = (line_iff written end).1 h.1 in rw l.0 (i.1 (h.0, l.1)),
  )

-- ---- signs

-- a size without a sign
unsigned_from : (f : Option (ℕ × ℕ)) {s : ℤ} {end : ℕ} → unsigned f ≡ Some (s, end) → (n : ℕ) × (f ≡ Some (n, end)) × (s ≡ pos n) × (n < 2 ^ 63)
unsigned_from None e = absurd (none-some _ e)
unsigned_from (Some (n, last)) {s} {end} e =
    ⊎_elim (λ b. absurd (none-some _ (rw b at e))) (λ b. let p = some_pair_parts _ _ _ _ (rw b at e) in (n, cc, cc, ltb-true n (2 ^ 63) b)) (dichotomy (ltb n (2 ^ 63)))

-- a size after a minus sign
opposite_from : (f : Option (ℕ × ℕ)) {s : ℤ} {end : ℕ} → opposite f ≡ Some (s, end) → (n : ℕ) × (f ≡ Some (suc n, end)) × (s ≡ negsuc n) × (suc n < 2 ^ 63)
opposite_from None e = absurd (none-some _ e)
opposite_from (Some (zero, last)) e = absurd (none-some _ e)
opposite_from (Some (suc n, last)) {s} {end} e =
    let k = rw (lt-ltb 0 (suc n) (zero-lt-suc n)) at e in
    ⊎_elim (λ b. absurd (none-some _ (rw b at k))) (λ b. let p = some_pair_parts _ _ _ _ (rw b at k) in (n, cc, cc, ltb-true (suc n) (2 ^ 63) b)) (dichotomy (ltb (suc n) (2 ^ 63)))

-- digits do not begin with a minus sign
no_minus : (n : ℕ) (rest : List ℕ) → starts (bytes "-") (decimal n ++ rest) ≡ false
unfolding starts
no_minus =
    by_tenths (λ n. (rest : List ℕ) → starts (bytes "-") (decimal n ++ rest) ≡ false)
    (λ n h rest. rw (one_digit n h, ne_eqb (48 + n) 45 (λ k. omega (arith, k))))
    (λ n h next rest. rw (more_digits n h, append_assoc (decimal (n / 10)) (digit (n % 10) ∷ []) rest) (next (digit (n % 10) ∷ rest)))

module _ (t : List ℕ) (at : ℕ) where
  signed_read : {s : ℤ} {end : ℕ} → signed_from at t ≡ Some (s, end) → (nat_abs s < 2 ^ 63) × WrittenAt (signed_decimal s) t at end
  unfolding signed_decimal
  signed_read {s} {end} e =
      ⊎_elim (λ b. let u = unsigned_from (number_from at (drop at t)) (rw b at e) in rw u.2 (u.3, ((number_iff t at u.0 end).0 u.1).1))
      (λ b. let o = opposite_from (number_from (at + 1) (drop (at + 1) t)) (rw b at e) in
      let w = ((number_iff t (at + 1) (suc o.0) end).0 o.1).1 in
      rw o.2 (o.3, record { text = named (bytes "-") t at b ∙ ap (λ (l : List ℕ). bytes "-" ++ l) w.text; within = w.within }))
      (dichotomy (starts (bytes "-") (drop at t)))

  signed_reads : (s : ℤ) (end : ℕ) → (nat_abs s < 2 ^ 63) × WrittenAt (signed_decimal s) t at end → signed_from at t ≡ Some (s, end)
  unfolding signed_decimal
  signed_reads (pos n) end h =
      rw (h.1.text, no_minus n (10 ∷ drop end t), ← h.1.text, (number_iff t at n end).1 (omega (arith, h.0), h.1), lt-ltb n (2 ^ 63) h.0)
  signed_reads (negsuc n) end h =
      let rest = decimal (suc n) ++ 10 ∷ drop end t in
      let w : WrittenAt (decimal (suc n)) t (at + 1) end = record { text = after_piece t at (bytes "-") rest h.1.text; within = h.1.within } in
      let read = (number_iff t (at + 1) (suc n) end).1 (omega (arith, h.0), w) in
      rw (stands (bytes "-") t at rest h.1.text, read, lt-ltb 0 (suc n) (zero-lt-suc n), lt-ltb (suc n) (2 ^ 63) h.0)

-- ---- fields

-- nothing is found exactly where there is nothing that could be
not_found : {A : Type 0} (f : Option (A × ℕ)) {P : A → ℕ → Type 0} → ((n : A) (end : ℕ) → (f ≡ Some (n, end)) ↔ P n end)
    → (f ≡ None) ↔ ((n : A) (end : ℕ) → P n end → ⊥)
not_found None read = (λ e n end p. none-some _ ((read n end).1 p), λ none. refl)
not_found (Some (m, last)) read = (λ e. absurd (none-some _ (sym e)), λ none. absurd (none m last ((read m last).0 refl)))

module _ (name t : List ℕ) (at : ℕ) where
  field_read : (n end : ℕ) → (field_at name at t ≡ Some (n, end)) ↔ ((n < 2 ^ 64) × LineAt name (decimal n) t at end)
  unfolding field_at
  field_read n end = field_iff name t at (decimal n) end _ (number_iff t (at + length name) n end)

  signed_field_read : (s : ℤ) (end : ℕ)
      → (signed_field_at name at t ≡ Some (s, end)) ↔ ((nat_abs s < 2 ^ 63) × LineAt name (signed_decimal s) t at end)
  unfolding signed_field_at
  signed_field_read s end =
      field_iff name t at (signed_decimal s) end _ (signed_read t (at + length name), signed_reads t (at + length name) s end)

  pub field_correct : FieldCorrect name t at
  field_correct =
      record {
        read = field_read;
        malformed = not_found (field_at name at t) field_read;
        signed_read = signed_field_read;
        signed_malformed = not_found (signed_field_at name at t) signed_field_read;
      }
