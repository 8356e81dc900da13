-- Numbers, and a signed one behind a name, at the front of what is left of a text, at whatever place that is.
-- Assumes nothing.
use mathlib.Core.Path.{◌≡◌, refl, sym, ap, ◌∙◌}
use mathlib.Core.Bool.{true, cond}
use mathlib.Core.List.{List, [], ◌∷◌}
use Prim.Native.Nat.{ℕ, suc, ◌+◌, ◌-◌}
use native.Mathlib.Omega.{arith}
use lib.Dec.{eqb}
use lib.IntN.{ℤ}
use lib.ListN.{length, take, drop}
use lib.Seq.{drop-drop}
use lib.Pointwise.{pointwise}
use denote.Bor.{Bor}
use Rattle.std.specs.Prelude.{MatchOption}
use Rattle.std.proofs.Common.{Option, Some, None}
use Rattle.text.specs.Reading.{is_digit, starts, digits_from, number_from, opposite, signed_field_at}
use Rattle.text.specs.Reader.{Front, NoFront, signed_number_from}
use Rattle.text.proofs.Names.{starts_is}

-- a number's first digit, and what its other digits tell
pub first_and_more : (x : ℕ) (xs : List ℕ) → is_digit x ≡ true → (told : Option (ℕ × Bor (List ℕ)))
    → MatchOption told (NoFront (digits_from (x - 48)) xs) (λ r. Front (digits_from (x - 48)) xs r.0 r.1.now)
    → MatchOption told (NoFront number_from (x ∷ xs)) (λ r. Front number_from (x ∷ xs) r.0 r.1.now)
unfolding number_from
first_and_more x xs d None none = λ at. rw d (none (suc at))
first_and_more x xs d (Some r) front =
    let place : (at : ℕ) → suc at + front.0 ≡ at + suc front.0 = λ at. omega arith in
    (suc front.0, λ at. rw d (front.1 (suc at) ∙ ap (λ (k : ℕ). Some (r.0, k)) (place at)), front.2)

-- a minus sign and a number
pub minus_and_number : {text after rest : List ℕ} {size : ℕ} {s : ℤ} → pointwise eqb (take 1 text) (45 ∷ []) ≡ true → after ≡ drop 1 text
    → Front number_from after size rest → ((end : ℕ) → opposite (Some (size, end)) ≡ Some (s, end)) → Front signed_number_from text s rest
minus_and_number {text} {after} {rest} {size} {s} minus behind front told =
    let begins : starts (45 ∷ []) text ≡ true = sym (starts_is (45 ∷ []) text) ∙ minus in
    let place : (at : ℕ) → at + 1 + front.0 ≡ at + (1 + front.0) = λ at. omega arith in (
      1 + front.0,
      λ at. rw (begins, ← behind, front.1 (at + 1)) (told (at + 1 + front.0) ∙ ap (λ (k : ℕ). Some (s, k)) (place at)),
      front.2 ∙ rw (behind, drop-drop),
    )

signed_field_is : (name : List ℕ) (at : ℕ) (t : List ℕ)
    → signed_field_at name at t ≡ cond (starts name (drop at t)) (signed_number_from (at + length name) (drop (at + length name) t)) None
unfolding signed_field_at
signed_field_is name at t = rw (drop-drop) refl

-- a name and a signed number behind it
pub name_and_signed_number : (name : List ℕ) {front after rest : List ℕ} {s : ℤ} → pointwise eqb (take (length name) front) name ≡ true
    → after ≡ drop (length name) front → Front signed_number_from after s rest → (at : ℕ) (t : List ℕ) → front ≡ drop at t
    → (end : ℕ) × (signed_field_at name at t ≡ Some (s, end)) × (rest ≡ drop end t)
name_and_signed_number name {front} {after} named behind read at t here =
    let there : after ≡ drop (at + length name) t = behind ∙ rw (here, drop-drop) in (
      at + length name + read.0,
      signed_field_is name at t ∙ rw (← here, ← starts_is name front, named, ← there) (read.1 (at + length name)),
      read.2 ∙ rw (there, drop-drop),
    )
