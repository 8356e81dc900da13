-- What is promised of decimal numbers and of fields. `Promised`, at the end, is all of it; proofs/Promises.antt proves it. Assumes nothing: these are
-- statements.
use Rattle.std.specs.Prelude.{◌≡◌, Some, None, List, [], ◌∷◌, ◌++◌, ◌↔◌, ℕ, suc, ◌+◌, ◌-◌, ◌*◌, ◌^◌, ◌≤◌, ◌<◌, ℤ, pos, negsuc, nat_abs, length, get_or, drop}
use Prim.Native.Char.{Char, code}
use Prim.Native.String.{String, ◌∷◌ as ◌then◌}
use Rattle.text.specs.Text.{bytes, line_feed, decimal, signed_decimal, line}
use Rattle.text.specs.Reading.{number_from, field_at, signed_field_at}
use Rattle.text.specs.Writing.{Wrote}
use Rattle.text.specs.declared.writer.Writer.{Writer}
use Rattle.std.proofs.lemmas.List.Edits.{sets}
use Rattle.numbers.specs.Lists.{place_after}

-- ---- decimal numbers

-- the number that a list of digits tells after so much of it
unfoldable pub decimal_value : (so_far : ℕ) → (digits : List ℕ) → ℕ
decimal_value n [] = n
decimal_value n (x ∷ xs) = decimal_value (n * 10 + (x - 48)) xs

-- each byte is a digit, from 0, the byte 48, to 9, the byte 57
abbrev pub Digits : List ℕ → Type 0
Digits xs = (i : ℕ) → i < length xs → (48 ≤ get_or xs i 0) × (get_or xs i 0 ≤ 57)

-- at least one digit, and the first is 0 only where it is the only one
abbrev pub NoZeroInFront : List ℕ → Type 0
NoZeroInFront xs = (0 < length xs) × (get_or xs 0 0 ≡ 48 → length xs ≡ 1)

-- what is written for n are digits that tell n, without a zero in front; nothing else is
pub record DecimalCorrect (n : ℕ) : Type 0 where
  pub digits : Digits (decimal n)
  pub no_zero_in_front : NoZeroInFront (decimal n)
  pub tells : decimal_value 0 (decimal n) ≡ n
  pub unique : (xs : List ℕ) → Digits xs → NoZeroInFront xs → decimal_value 0 xs ≡ n → xs ≡ decimal n
  -- a number below 10^(k+1) has at most k + 1 digits
  pub few : (k : ℕ) → n < 10 ^ suc k → length (decimal n) ≤ suc k
  -- so that twenty places are enough
  pub at_most_20 : n < 2 ^ 64 → length (decimal n) ≤ 20
  -- a number that is not below 10^k has more than k digits
  pub many : (k : ℕ) → 10 ^ k ≤ n → suc k ≤ length (decimal n)
  -- the reader takes them back to n, with the line feed after them
  pub read_back : (at : ℕ) (rest : List ℕ) → n < 2 ^ 64
      → number_from at (decimal n ++ line_feed ∷ rest) ≡ Some (n, suc (at + length (decimal n)))

-- ---- fields

-- the line of a name and of what is written after it stands at a place of a text, and ends just before another
pub record LineAt (name written t : List ℕ) (at end : ℕ) : Type 0 where
  pub text : drop at t ≡ line name written (drop end t)
  pub within : end ≤ length t

-- a field is read exactly where its line stands and its number is in range, and is malformed exactly where it is not read
pub record FieldCorrect (name t : List ℕ) (at : ℕ) : Type 0 where
  pub read : (n end : ℕ) → (field_at name at t ≡ Some (n, end)) ↔ ((n < 2 ^ 64) × LineAt name (decimal n) t at end)
  pub malformed : (field_at name at t ≡ None) ↔ ((n end : ℕ) → (n < 2 ^ 64) × LineAt name (decimal n) t at end → ⊥)
  pub signed_read : (s : ℤ) (end : ℕ) → (signed_field_at name at t ≡ Some (s, end)) ↔ ((nat_abs s < 2 ^ 63) × LineAt name (signed_decimal s) t at end)
  pub signed_malformed : (signed_field_at name at t ≡ None)
      ↔ ((s : ℤ) (end : ℕ) → (nat_abs s < 2 ^ 63) × LineAt name (signed_decimal s) t at end → ⊥)

-- ---- texts, written out

pub record TextCorrect : Type 0 where
  pub feed : line_feed ≡ 10
  pub nothing : bytes "" ≡ []
  pub byte : (c : Char) (s : String) → bytes (c then s) ≡ code c ∷ bytes s
  pub rising : (n : ℕ) → signed_decimal (pos n) ≡ decimal n
  pub falling : (n : ℕ) → signed_decimal (negsuc n) ≡ bytes "-" ++ decimal (suc n)
  pub line_is : (name written rest : List ℕ) → line name written rest ≡ name ++ (written ++ 10 ∷ rest)

-- ---- writing

-- what a writer is asked to write stands from its place on, as far as there are places, and the rest of the buffer is as it was; its place is then the one after
pub record WritingCorrect (old : Writer) (xs : List ℕ) (new : Writer) : Type 0 where
  pub written : Wrote old xs new
      ↔ ((new.at ≡ place_after old.at xs old.out.now) × (new.out.now ≡ sets old.out.now old.at xs) × (new.out.ghost_name ≡ old.out.ghost_name))

-- all of it
pub record Promised : Type 0 where
  pub decimals : (n : ℕ) → DecimalCorrect n
  pub texts : TextCorrect
  pub writing : (old : Writer) (xs : List ℕ) (new : Writer) → WritingCorrect old xs new
  pub fields : (name t : List ℕ) (at : ℕ) → FieldCorrect name t at
