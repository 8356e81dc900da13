-- The rows of an expansion without fuel: each is followed by the row of the next two remainders, and the last has remainder 0.
-- The laws of the other files go by induction over `Rows`. Assumes nothing.
use mathlib.Core.Path.{◌≡◌, refl, ap}
use mathlib.Core.List.{List, [], ◌∷◌}
use Prim.Native.Nat.{ℕ, zero, suc, ◌+◌, ◌*◌, ◌/◌, ◌%◌, ◌≤◌, ◌<◌}
use native.Mathlib.Nat.{mod-lt, not-suc-le-zero}
use native.Mathlib.Omega.{arith}
use lib.ListN.{length, get_or}
use Rattle.expansion.specs.Rows.{Row, row, rows_from, rows, expansion, remainders, denominators}

-- the rows that follow from the remainders t, u and the denominators p, q
pub data Rows : (t u p q : ℕ) → List Row → Type 0 where
  end : {t p q : ℕ} → Rows t 0 p q (row 0 q 0 ∷ [])
  next : {t u p q : ℕ} {rs : List Row} → 0 < u → Rows u (t % u) q (p + t / u * q) rs → Rows t u p q (row u q (t / u) ∷ rs)

enough : (n t u p q : ℕ) → u < n → Rows t u p q (rows_from n t u p q)
unfolding rows_from
enough zero t u p q h = absurd (not-suc-le-zero h)
enough (suc n) t zero p q h = end
enough (suc n) t (suc u) p q h =
    let r : t % suc u < suc u = mod-lt t (omega arith) in
    next {u = suc u} (omega arith) (enough n (suc u) (t % suc u) q (p + t / suc u * q) (omega arith))

pub unrolled : (t u p q : ℕ) → Rows t u p q (rows t u p q)
unrolled t u p q = enough (suc u) t u p q (omega arith)

pub expansion_unrolled : (M a : ℕ) → Rows M a 0 1 (expansion M a)
unfolding expansion
expansion_unrolled M a = unrolled M a 0 1

-- there is one list of rows for given numbers
unique : {t u p q : ℕ} {rs rs' : List Row} → Rows t u p q rs → Rows t u p q rs' → rs ≡ rs'
unique end end = refl
unique end (next h s) = absurd (not-suc-le-zero h)
unique (next h r) end = absurd (not-suc-le-zero h)
unique (next {t} {u} {p} {q} h r) (next k s) = ap (λ (rs : List Row). row u q (t / u) ∷ rs) (unique r s)

pub rows_next : (t u p q : ℕ) → 0 < u → rows t u p q ≡ row u q (t / u) ∷ rows u (t % u) q (p + t / u * q)
rows_next t u p q h = unique (unrolled t u p q) (next h (unrolled u (t % u) q (p + t / u * q)))

pub rows_end : (t p q : ℕ) → rows t 0 p q ≡ row 0 q 0 ∷ []
rows_end t p q = unique (unrolled t 0 p q) end

pub some_row : {t u p q : ℕ} {rs : List Row} → Rows t u p q rs → 1 ≤ length rs
some_row end = omega arith
some_row (next h r) = omega arith

-- the first row has the remainder u and the denominator q
pub first_row : {t u p q : ℕ} {rs : List Row} → Rows t u p q rs → (get_or (remainders rs) 0 0 ≡ u) × (get_or (denominators rs) 0 0 ≡ q)
first_row end = (refl, refl)
first_row (next h r) = (refl, refl)

-- what holds of the first remainders and denominators, and is kept from each row to the next, holds at every row
pub at_each : (P : (t u p q : ℕ) → Type 0) → ((t u p q : ℕ) → 0 < u → P t u p q → P u (t % u) q (p + t / u * q))
    → {t u p q : ℕ} {rs : List Row} → Rows t u p q rs → P t u p q → (i : ℕ) → i < length rs
    → P (get_or (t ∷ remainders rs) i 0) (get_or (remainders rs) i 0) (get_or (p ∷ denominators rs) i 0) (get_or (denominators rs) i 0)
at_each P keep end h zero l = h
at_each P keep end h (suc i) l = absurd (omega (arith, l))
at_each P keep (next w r) h zero l = h
at_each P keep (next {t} {u} {p} {q} w r) h (suc i) l = at_each P keep r (keep t u p q w h) i (omega (arith, l))
