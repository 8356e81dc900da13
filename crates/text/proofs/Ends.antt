-- A field ends within its text, and so what is left behind it tells where it ends. Assumes nothing.
use mathlib.Core.Path.{◌≡◌, sym, ap}
use mathlib.Core.List.{List}
use Prim.Native.Nat.{ℕ, ◌-◌, ◌≤◌}
use native.Mathlib.Omega.{arith}
use lib.IntN.{ℤ}
use lib.ListN.{length, drop, length-drop}
use Rattle.std.proofs.Common.{Option, Some}
use Rattle.text.specs.Reading.{field_at, signed_field_at}
use Rattle.text.proofs.Lines.{field_correct}

-- what is left behind a value that ends within a text tells where it ends
end_told : {A : Type 0} (f : Option (A × ℕ)) {a : A} {t rest : List ℕ} {place : ℕ}
    → ((end : ℕ) → f ≡ Some (a, end) → end ≤ length t) → place ≡ length t - length rest
    → (end : ℕ) × (f ≡ Some (a, end)) × (rest ≡ drop end t) → Some (a, place) ≡ f
end_told f {a} {t} {rest} {place} within left read =
    let told : place ≡ read.0 =
    omega (arith, left, within read.0 read.1, ap length read.2, length-drop read.0 t) in
    rw told (sym read.1)

module _ (name : List ℕ) (at : ℕ) (t : List ℕ) where
  -- a field ends within the text
  field_within : (n end : ℕ) → field_at name at t ≡ Some (n, end) → end ≤ length t
  field_within n end e = (((field_correct name t at).read n end).0 e).1.within

  signed_field_within : (s : ℤ) (end : ℕ) → signed_field_at name at t ≡ Some (s, end)
      → end ≤ length t
  signed_field_within s end e = (((field_correct name t at).signed_read s end).0 e).1.within

  -- a field that is read at the place, and the place that is told
  pub field_told : {n : ℕ} {rest : List ℕ} {place : ℕ} → place ≡ length t - length rest
      → (end : ℕ) × (field_at name at t ≡ Some (n, end)) × (rest ≡ drop end t)
      → Some (n, place) ≡ field_at name at t
  field_told {n} = end_told (field_at name at t) (field_within n)

  pub signed_field_told : {s : ℤ} {rest : List ℕ} {place : ℕ} → place ≡ length t - length rest
      → (end : ℕ) × (signed_field_at name at t ≡ Some (s, end)) × (rest ≡ drop end t)
      → Some (s, place) ≡ signed_field_at name at t
  signed_field_told {s} = end_told (signed_field_at name at t) (signed_field_within s)
