-- How fields are read, place by place; `at` is a place of the text, and `rest` the text from there on. specs/Promise.antt says what this amounts to:
-- the line of a number in range stands there, or it is malformed. Assumes nothing: these are definitions.
use Rattle.std.specs.Prelude.{Bool, true, false, ◌&&◌, cond, Option, Some, None, List, [], ◌∷◌, ℕ, suc, ◌+◌, ◌-◌, ◌*◌, ◌^◌, leb, ltb, eqb, ℤ, pos, neg_ℤ, length, drop}
use Rattle.text.specs.Text.{bytes, line_feed}

-- a byte is a digit
abbrev pub is_digit : (x : ℕ) → Bool
is_digit x = leb 48 x && leb x 57

-- a text begins with a name
unfoldable pub starts : (name text : List ℕ) → Bool
starts [] t = true
starts (x ∷ xs) [] = false
starts (x ∷ xs) (y ∷ ys) = cond (eqb y x) (starts xs ys) false

-- a byte continues a number of which so much was read: a digit, not after a 0 in front, and the number stays below 2^64
unfoldable pub takes_digit : (so_far x : ℕ) → Bool
takes_digit n x = is_digit x && ltb 0 n && ltb (n * 10 + (x - 48)) (2 ^ 64)

-- the rest continues a number: digits up to a line feed
unfoldable pub digits_from : (so_far at : ℕ) → (rest : List ℕ) → Option (ℕ × ℕ)
digits_from n at [] = None
digits_from n at (x ∷ xs) =
    cond (eqb x line_feed) (Some (n, suc at))
    (cond (takes_digit n x) (digits_from (n * 10 + (x - 48)) (suc at) xs) None)

-- a number of at least one digit and a line feed
unfoldable pub number_from : (at : ℕ) → (rest : List ℕ) → Option (ℕ × ℕ)
number_from at [] = None
number_from at (x ∷ xs) = cond (is_digit x) (digits_from (x - 48) (suc at) xs) None

-- a name, a number and a line feed
unfoldable pub field_at : (name : List ℕ) → (at : ℕ) → (text : List ℕ) → Option (ℕ × ℕ)
field_at name at t =
    cond (starts name (drop at t)) (number_from (at + length name) (drop (at + length name) t)) None

-- a number without a sign: a size below 2^63
abbrev pub unsigned : Option (ℕ × ℕ) → Option (ℤ × ℕ)
unsigned (Some (n, end)) = cond (ltb n (2 ^ 63)) (Some (pos n, end)) None
unsigned None = None

-- a number after a minus sign: a size below 2^63 and not 0
abbrev pub opposite : Option (ℕ × ℕ) → Option (ℤ × ℕ)
opposite (Some (n, end)) =
    cond (ltb 0 n && ltb n (2 ^ 63)) (Some (neg_ℤ (pos n), end)) None
opposite None = None

-- a number with or without a minus sign, and a line feed
abbrev pub signed_from : (at : ℕ) → (text : List ℕ) → Option (ℤ × ℕ)
signed_from at t =
    cond (starts (bytes "-") (drop at t)) (opposite (number_from (at + 1) (drop (at + 1) t))) (unsigned (number_from at (drop at t)))

-- a name, a signed number and a line feed
unfoldable pub signed_field_at : (name : List ℕ) → (at : ℕ) → (text : List ℕ) → Option (ℤ × ℕ)
signed_field_at name at t = cond (starts name (drop at t)) (signed_from (at + length name) t) None
