-- The range of a list between two bounds (document 01: the cut-out), and what makes a slice a part
-- of another one.
-- Assumes nothing: these are definitions.
use Rattle.std.specs.Prelude.{◌≡◌, Bool, true, ◌&&◌, cond, List, [], ◌∷◌, ℕ, suc, ◌+◌, ◌-◌, ◌*◌, ltb, leb, take, drop}
use Rattle.std.specs.Borrow.{Bor}
use Rattle.std.specs.declared.ops.Range.{Range}

-- whether each entry is less than the next one
unfoldable pub ascending : List ℕ → Bool
ascending [] = true
ascending (x ∷ []) = true
ascending (x ∷ y ∷ xs) = ltb x y && ascending (y ∷ xs)

-- how many entries are below the bound
unfoldable pub below : (bound : ℕ) → List ℕ → ℕ
below b [] = 0
below b (x ∷ xs) = cond (ltb x b) (suc (below b xs)) (below b xs)

-- where the range starts: after the entries below lo; where the list does not ascend strictly or
-- lo is above hi, at the list's start
unfoldable pub start_of : (lo hi : ℕ) → List ℕ → ℕ
start_of lo hi xs = cond (ascending xs && leb lo hi) (below lo xs) 0

-- how many entries it has: those below hi without those below lo; in those two cases none
unfoldable pub count_of : (lo hi : ℕ) → List ℕ → ℕ
count_of lo hi xs = cond (ascending xs && leb lo hi) (below hi xs - below lo xs) 0

-- both, as the call answers them: the first place, and the one after the last
abbrev pub place_of : (lo hi : ℕ) → List ℕ → Range ℕ
place_of lo hi xs =
    record { start = start_of lo hi xs; end = start_of lo hi xs + count_of lo hi xs }

-- the entries of the range
abbrev pub range_of : (lo hi : ℕ) → List ℕ → List ℕ
range_of lo hi xs = take (count_of lo hi xs) (drop (start_of lo hi xs) xs)

-- `part` is the stretch of `whole` that starts at the place `from` and has `count` entries of
-- `size` bytes (8 for a `u64`): it holds what stands there, and it lies there; a pointer is a block
-- of memory and a number of bytes from its beginning
pub record Stretch (size : ℕ) (whole part : Bor (List ℕ)) (from count : ℕ) : Type 0 where
  pub holds : part.now ≡ take count (drop from whole.now)
  pub place : part.ref_ptr ≡ (whole.ref_ptr.0, from * size + whole.ref_ptr.1)
