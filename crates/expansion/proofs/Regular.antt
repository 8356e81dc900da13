-- The regular configurations: one for each row, with counts that ascend from 1 to the last denominator. Assumes nothing.
use mathlib.Core.Path.{◌≡◌, refl, ◌∙◌, ap}
use mathlib.Core.List.{List, [], ◌∷◌}
use Prim.Native.Nat.{ℕ, zero, suc, ◌+◌, ◌-◌, ◌≤◌, ◌<◌}
use native.Mathlib.Nat.{mul-le-mul_right}
use native.Mathlib.Omega.{arith}
use borrow.Author.Tests.{ne_eqb}
use lib.ListN.{length, get_or}
use Rattle.numbers.proofs.Remainders.{quotient_positive, quotient_two}
use Rattle.numbers.proofs.Lists.{AscendingFrom}
use Rattle.numbers.proofs.Lists.AscendingFrom.{ascending_nil, ascending_cons}
use Rattle.expansion.specs.Rows.{Row, row, denominators}
use Rattle.expansion.specs.Configurations.{Configuration, configuration, none, counts, regular_from}
use Rattle.expansion.proofs.Unrolling.{Rows, some_row}
use Rattle.expansion.proofs.Unrolling.Rows.{end, next}
use Rattle.expansion.proofs.Recurrences.{Kept, kept_next}

-- the last of some configurations
abbrev pub last_of : List Configuration → Configuration
last_of cs = get_or cs (length cs - 1) none

-- configurations are equal that agree in count, index and part
pub relabelled : {n n' i i' t t' : ℕ} → n ≡ n' → i ≡ i' → t ≡ t' → configuration n i t ≡ configuration n' i' t'
relabelled e f g = λ j. record { count = e j; index = f j; part = g j }

pub regular_next : (i p u q k : ℕ) (rs : List Row) → 0 < u → regular_from i p (row u q k ∷ rs) ≡ configuration (q + p) i 0 ∷ regular_from (suc i) q rs
unfolding regular_from
regular_next i p u q k rs h = rw (ne_eqb u 0 (λ e. omega (arith, e)))

pub regular_end : (i p q : ℕ) → regular_from i p (row 0 q 0 ∷ []) ≡ configuration q i 0 ∷ []
unfolding regular_from
regular_end i p q = refl

-- as many as there are rows
pub regular_many : {t u p q : ℕ} {rs : List Row} → Rows t u p q rs → (i : ℕ) → length (regular_from i p rs) ≡ length rs
regular_many (end {t} {p} {q}) i = rw regular_end
regular_many (next h r) i = rw regular_next (ap suc (regular_many r (suc i)))

-- the one of a row before the last
pub regular_at : {t u p q : ℕ} {rs : List Row} → Rows t u p q rs → (i j : ℕ) → suc j < length rs
    → get_or (regular_from i p rs) j none ≡ configuration (get_or (denominators rs) j 0 + get_or (p ∷ denominators rs) j 0) (i + j) 0
regular_at end i j l = absurd (omega (arith, l))
regular_at (next h r) i zero l = rw regular_next (relabelled refl (omega arith) refl)
regular_at (next h r) i (suc j) l = rw regular_next (regular_at r (suc i) j (omega (arith, l)) ∙ relabelled refl (omega arith) refl)

-- the one of the last row
pub regular_final : {t u p q : ℕ} {rs : List Row} → Rows t u p q rs → (i j : ℕ) → suc j ≡ length rs
    → get_or (regular_from i p rs) j none ≡ configuration (get_or (denominators rs) j 0) (i + j) 0
regular_final (end {t} {p} {q}) i zero e = rw regular_end (relabelled refl (omega arith) refl)
regular_final end i (suc j) e = absurd (omega (arith, e))
regular_final (next h r) i zero e = absurd (omega (arith, e, some_row r))
regular_final (next h r) i (suc j) e = rw regular_next (regular_final r (suc i) j (omega (arith, e)) ∙ relabelled refl (omega arith) refl)

-- counts ascend from q + p on, or from q in the last row
pub regular_ascend : {M t u p q : ℕ} {rs : List Row} → Rows t u p q rs → Kept M t u p q → (i n : ℕ) → n ≤ q + p → (u ≡ 0 → n ≤ q)
    → AscendingFrom n (counts (regular_from i p rs))
regular_ascend end k i n b z = rw regular_end (ascending_cons (z refl) ascending_nil)
regular_ascend (next {t} {u} {p} {q} h r) k i n b z =
    rw regular_next
    (ascending_cons b
    (regular_ascend r (kept_next k h) (suc i) (suc (q + p))
    (omega (arith, k.some, mul-le-mul_right q (quotient_positive t u h (omega (arith, k.falls)))))
    (λ e. omega (arith, k.some, mul-le-mul_right q (quotient_two t u h k.falls e)))))
