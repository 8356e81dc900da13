-- What reading at the front of what is left of a text tells, at whatever place that is. Assumes nothing: these are definitions.
use Rattle.std.specs.Prelude.{◌≡◌, cond, Option, Some, None, List, ℕ, ◌+◌, ℤ, drop}
use Rattle.text.specs.Text.{bytes}
use Rattle.text.specs.Reading.{starts, number_from, unsigned, opposite}
use Rattle.text.specs.declared.reader.Reader.{Reader}

-- a value is read at the front of a text, and this is left of it
abbrev pub Front : {A : Type 0} → (reading : ℕ → List ℕ → Option (A × ℕ)) → (text : List ℕ) → A → (rest : List ℕ) → Type 0
Front reading text a rest = (n : ℕ) × ((at : ℕ) → reading at text ≡ Some (a, at + n)) × (rest ≡ drop n text)

-- none is
abbrev pub NoFront : {A : Type 0} → (reading : ℕ → List ℕ → Option (A × ℕ)) → (text : List ℕ) → Type 0
NoFront reading text = (at : ℕ) → reading at text ≡ None

-- a number with or without a minus sign, and a line feed
abbrev pub signed_number_from : (at : ℕ) → (rest : List ℕ) → Option (ℤ × ℕ)
signed_number_from at rest =
    cond (starts (bytes "-") rest) (opposite (number_from (at + 1) (drop 1 rest))) (unsigned (number_from at rest))

-- a number that was read, and where it ends
abbrev pub with_end : Option ℤ → (end : ℕ) → Option (ℤ × ℕ)
with_end (Some s) end = Some (s, end)
with_end None end = None

-- a reader stands at a place of a text: it has what is left from there on
abbrev pub StandsAt : Reader → (at : ℕ) → (text : List ℕ) → Type 0
StandsAt r at text = r.rest.now ≡ drop at text

-- a value is read where a reader stands in a text, and it stands behind the value then
abbrev pub Read : {A : Type 0} → (reading : ℕ → List ℕ → Option (A × ℕ)) → (old : Reader) → A → (new : Reader) → Type 0
Read reading old a new =
    (at : ℕ) (text : List ℕ) → StandsAt old at text → (end : ℕ) × (reading at text ≡ Some (a, end)) × StandsAt new end text

-- none is, and the reader stands where it stood
abbrev pub NotRead : {A : Type 0} → (reading : ℕ → List ℕ → Option (A × ℕ)) → (old new : Reader) → Type 0
NotRead reading old new = ((at : ℕ) (text : List ℕ) → StandsAt old at text → reading at text ≡ None) × (new.rest.now ≡ old.rest.now)
