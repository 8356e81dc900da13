-- What is promised of the range of a list between lo and hi. proofs/Promises.antt proves
-- `Promised`. Assumes nothing: these are statements.
use Rattle.std.specs.Prelude.{◌≡◌, true, ◌↔◌, ℕ, ◌+◌, ◌*◌, ◌≤◌, ◌<◌, length, get_or}
use mathlib.Core.List.{List, Memᴰ}
use Rattle.std.specs.Borrow.{Bor}
use Rattle.range.specs.Range.{ascending, below, start_of, count_of, place_of, range_of, Stretch}

-- of a strictly ascending list and lo ≤ hi: before the range the entries are below lo, in it from
-- lo on and below hi, after it from hi on
pub record RangeCorrect (lo hi : ℕ) (xs : List ℕ) : Type 0 where
  -- empty or not, it starts just after the entries below lo
  pub starts : start_of lo hi xs ≡ below lo xs
  pub before : (i : ℕ) → i < start_of lo hi xs → get_or xs i 0 < lo
  pub inside : (i : ℕ) → start_of lo hi xs ≤ i → i < start_of lo hi xs + count_of lo hi xs
      → (lo ≤ get_or xs i 0) × (get_or xs i 0 < hi)
  pub after : (i : ℕ) → start_of lo hi xs + count_of lo hi xs ≤ i → i < length xs
      → hi ≤ get_or xs i 0
  -- it has the entries of the list between the bounds, and no others
  pub exactly : (x : ℕ) → Memᴰ x (range_of lo hi xs) ↔ (Memᴰ x xs × (lo ≤ x) × (x < hi))

-- what is handed back of a list: where it lies there, and the entries that stand there, in their
-- order
pub record HandedBack (lo hi : ℕ) (xs : List ℕ) : Type 0 where
  pub placed : ((place_of lo hi xs).start ≡ start_of lo hi xs)
      × ((place_of lo hi xs).end ≡ start_of lo hi xs + count_of lo hi xs)
  pub many : length (range_of lo hi xs) ≡ count_of lo hi xs
  pub in_order : (i : ℕ) → i < count_of lo hi xs
      → get_or (range_of lo hi xs) i 0 ≡ get_or xs (start_of lo hi xs + i) 0

-- a part of a list is the stretch of the range exactly where it holds the range and lies in that
-- list where the range starts
abbrev pub Stretches : Type 0
Stretches =
    (lo hi : ℕ) (whole part : Bor (List ℕ))
    → Stretch 8 whole part (start_of lo hi whole.now) (count_of lo hi whole.now)
    ↔ ((part.now ≡ range_of lo hi whole.now)
    × (part.ref_ptr ≡ (whole.ref_ptr.0, start_of lo hi whole.now * 8 + whole.ref_ptr.1)))

-- empty, at the list's start
pub record EmptyAtStart (lo hi : ℕ) (xs : List ℕ) : Type 0 where
  pub start : start_of lo hi xs ≡ 0
  pub count : count_of lo hi xs ≡ 0

pub record Promised : Type 0 where
  -- the test of each entry against the next one tells whether the list ascends strictly
  pub ascending_correct : (xs : List ℕ)
      → (ascending xs ≡ true)
      ↔ ((i j : ℕ) → i < j → j < length xs → get_or xs i 0 < get_or xs j 0)
  pub within : (lo hi : ℕ) (xs : List ℕ) → start_of lo hi xs + count_of lo hi xs ≤ length xs
  pub handed_back : (lo hi : ℕ) (xs : List ℕ) → HandedBack lo hi xs
  pub stretches : Stretches
  pub range : (lo hi : ℕ) (xs : List ℕ)
      → ((i j : ℕ) → i < j → j < length xs → get_or xs i 0 < get_or xs j 0) → lo ≤ hi
      → RangeCorrect lo hi xs
  -- two entries that are equal, or that descend, are enough for that
  pub unordered : (lo hi : ℕ) (xs : List ℕ) (i j : ℕ) → i < j → j < length xs
      → get_or xs j 0 ≤ get_or xs i 0 → EmptyAtStart lo hi xs
  pub crossed : (lo hi : ℕ) (xs : List ℕ) → hi < lo → EmptyAtStart lo hi xs
