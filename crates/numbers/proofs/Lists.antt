-- Lists that ascend strictly, number by number from a bound on; members and their places; a function of every entry; lists without entries; an array that begins with a list and has zeros after
-- it; what stands from a place on. Assumes nothing.
use mathlib.Core.Path.{◌≡◌, refl, sym, ◌∙◌, ap}
use mathlib.Core.List.Memᴰ
use mathlib.Core.List.{List, [], ◌∷◌, ◌++◌, map, Memᴰ}
use mathlib.Core.Logic.{⊎_elim}
use Prim.Native.Nat.{ℕ, zero, suc, ◌+◌, ◌-◌, ◌≤◌, ◌<◌}
use native.Mathlib.Nat.{suc-sub-suc, sub-zero, zero-sub, not-suc-le-zero}
use native.Mathlib.Omega.{arith}
use lib.ListN.{length, get_or, set, drop, replicate, length-append, length-replicate, length-set, get_or-append}
use lib.Seq.{get_or-append-add, drop-drop, drop_at, drop-cons, drop-set-lt, get_or-set_same}
use Rattle.numbers.specs.Lists.{zero_padded}

-- strictly ascending, by places: of two places the later one holds the larger number
abbrev pub Ascending : List ℕ → Type 0
Ascending xs = (i j : ℕ) → i < j → j < length xs → get_or xs i 0 < get_or xs j 0

-- each number is at least the bound, and larger than the number before it
pub data AscendingFrom : ℕ → List ℕ → Type 0 where
  ascending_nil : {n : ℕ} → AscendingFrom n []
  ascending_cons : {n x : ℕ} {xs : List ℕ} → n ≤ x → AscendingFrom (suc x) xs → AscendingFrom n (x ∷ xs)

at_least : {n : ℕ} {xs : List ℕ} → AscendingFrom n xs → (i : ℕ) → i < length xs → n ≤ get_or xs i 0
at_least ascending_nil i h = absurd (not-suc-le-zero h)
at_least (ascending_cons l c) zero h = l
at_least (ascending_cons l c) (suc i) h = omega (arith, at_least c i (omega arith))

pub ascending : {n : ℕ} {xs : List ℕ} → AscendingFrom n xs → Ascending xs
ascending ascending_nil i j h l = absurd (not-suc-le-zero l)
ascending (ascending_cons b c) i zero h l = absurd (not-suc-le-zero h)
ascending (ascending_cons b c) zero (suc j) h l = at_least c j (omega arith)
ascending (ascending_cons b c) (suc i) (suc j) h l = ascending c i j (omega arith) (omega arith)

-- what stands at a place of a list is one of its members, and every member stands at a place; d is read beyond the list
module _ {A : Type 0} (d : A) where
  pub member_at : (xs : List A) (i : ℕ) → i < length xs → Memᴰ (get_or xs i d) xs
  member_at [] i l = absurd (not-suc-le-zero l)
  member_at (x ∷ xs) zero l = Memᴰ.head refl
  member_at (x ∷ xs) (suc i) l = Memᴰ.tail (member_at xs i (omega arith))

  pub member_place : (x : A) (xs : List A) → Memᴰ x xs → (i : ℕ) × (i < length xs) × (get_or xs i d ≡ x)
  member_place x [] m = absurd (Memᴰ.not-nil m)
  member_place x (y ∷ xs) m =
      ⊎_elim (λ e. (0, omega arith, sym e)) (λ t. let p = member_place x xs t in (suc p.0, omega (arith, p.1), p.2)) (Memᴰ.cases_cons m)

-- a function of every entry, at a place; `get_or-map` says it of every place, with f of the default for the default
pub mapped_at : (f : ℕ → ℕ) (xs : List ℕ) (i : ℕ) → i < length xs → get_or (map f xs) i 0 ≡ f (get_or xs i 0)
mapped_at f [] i h = absurd (not-suc-le-zero h)
mapped_at f (x ∷ xs) zero h = refl
mapped_at f (x ∷ xs) (suc i) h = mapped_at f xs i (omega arith)

-- a list without entries
pub no_entries : (xs : List ℕ) → length xs ≤ 0 → xs ≡ []
no_entries [] h = refl
no_entries (x ∷ xs) h = absurd (not-suc-le-zero h)

pub drop_replicate : (n k : ℕ) → drop {A = ℕ} k (replicate n 0) ≡ replicate {A = ℕ} (n - k) 0
drop_replicate n zero = rw sub-zero
drop_replicate zero (suc k) = rw zero-sub
drop_replicate (suc n) (suc k) = rw suc-sub-suc (drop_replicate n k)

-- what such an array holds, place by place
pub padded_places : (n : ℕ) (xs : List ℕ) → length xs ≤ n → length (zero_padded n xs) ≡ n
unfolding zero_padded
padded_places n xs h =
    omega (arith, length-append xs (replicate (n - length xs) 0), length-replicate {A = ℕ} (n - length xs) 0)

pub zeros_at : (n i : ℕ) → get_or {A = ℕ} (replicate n 0) i 0 ≡ 0
zeros_at zero i = refl
zeros_at (suc n) zero = refl
zeros_at (suc n) (suc i) = zeros_at n i

pub padded_front : (n : ℕ) (xs : List ℕ) (i : ℕ) → i < length xs → get_or (zero_padded n xs) i 0 ≡ get_or xs i 0
unfolding zero_padded
padded_front n xs i h = get_or-append xs (replicate (n - length xs) 0) 0 i h

pub padded_after : (n : ℕ) (xs : List ℕ) (i : ℕ) → length xs ≤ i → get_or (zero_padded n xs) i 0 ≡ 0
unfolding zero_padded
padded_after n xs i h =
    let e : i ≡ length xs + (i - length xs) = omega arith in
    rw e (get_or-append-add xs (replicate (n - length xs) 0) (i - length xs) 0 ∙ zeros_at (n - length xs) (i - length xs))

-- an entry that was written, and what follows it
pub drop_set : (xs : List ℕ) (i x : ℕ) → i < length xs → drop i (set xs i x) ≡ x ∷ drop (suc i) xs
drop_set xs i x h =
    drop-cons (set xs i x) i 0 (omega (arith, length-set xs i x)) ∙ rw (get_or-set_same xs i x 0 h, drop-set-lt (suc i) xs i x (omega arith))

-- what follows a piece that stands at a place
pub after_piece : (t : List ℕ) (at : ℕ) (piece rest : List ℕ) → drop at t ≡ piece ++ rest → drop (at + length piece) t ≡ rest
after_piece t at piece rest e =
    sym (drop-drop (length piece) at t) ∙ ap (drop (length piece)) e ∙ drop_at piece rest (length piece) refl
