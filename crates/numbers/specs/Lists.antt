-- Lists of numbers: all that have a property, the values of a function, one after another, and as the front of an array.
-- Assumes nothing: these are definitions.
use Rattle.std.specs.Prelude.{Bool, cond, List, [], ◌∷◌, ◌++◌, ℕ, zero, suc, ◌+◌, ◌-◌, min, max, length, drop, replicate}

-- an array of n places that begins with a list and has zeros after it
unfoldable pub zero_padded : (n : ℕ) → List ℕ → List ℕ
zero_padded n xs = xs ++ replicate (n - length xs) 0

-- of the numbers from x on, as many as are left, those that have a property
unfoldable pub filter_range : (property : ℕ → Bool) → (left x : ℕ) → List ℕ
filter_range p zero x = []
filter_range p (suc n) x = cond (p x) (x ∷ filter_range p n (suc x)) (filter_range p n (suc x))

-- how many of them have it
unfoldable pub count_if : (property : ℕ → Bool) → (left x : ℕ) → ℕ
count_if p zero x = 0
count_if p (suc n) x = cond (p x) 1 0 + count_if p n (suc x)

-- f(i), f(i + 1) and so on, as many as are left
unfoldable pub tabulate : (f : ℕ → ℕ) → (left i : ℕ) → List ℕ
tabulate f zero i = []
tabulate f (suc n) i = f i ∷ tabulate f n (suc i)

-- the same of lists, one after another
unfoldable pub joined : (f : ℕ → List ℕ) → (left i : ℕ) → List ℕ
joined f zero i = []
joined f (suc n) i = f i ++ joined f n (suc i)

-- a list written over the front of another
unfoldable pub overwrite_front : (xs old : List ℕ) → List ℕ
overwrite_front xs old = xs ++ drop (length xs) old

-- the place after a list that is written into a buffer from a place on, as far as there are places
abbrev pub place_after : (at : ℕ) → (xs old : List ℕ) → ℕ
place_after at xs old = min (at + length xs) (max at (length old))
