-- How many entries of a list are below a bound: at most all of them, and no fewer for a larger
-- bound. In a list that ascends strictly they come first, so that where they end is how many they
-- are. Assumes nothing.
use mathlib.Core.Path.{◌≡◌}
use mathlib.Core.List.{List, [], ◌∷◌}
use mathlib.Core.Logic.{by_cases}
use Prim.Native.Nat.{ℕ, zero, suc, ◌≤◌, ◌<◌}
use native.Mathlib.Decide.{dec_lt}
use native.Mathlib.Nat.{le_refl, not-suc-le-zero}
use native.Mathlib.Omega.{arith}
use lib.Dec.{ltb}
use lib.ListN.{length, get_or}
use Rattle.std.proofs.Common.{true, false}
use Rattle.std.proofs.lemmas.Bool.{ltb-true, ltb-false}
use Rattle.std.proofs.lemmas.List.Sorted.{IsPartitionedBy-ltb, IsNonDecreasingBy-from_default}
use Rattle.std.specs.List.Sorted.{IsPartitionedBy, IsPartitionPoint}
use borrow.Author.Tests.{lt-ltb, le-ltb}
use Rattle.numbers.proofs.Lists.{Ascending}
use Rattle.range.specs.Range.{below}

module _ (b x : ℕ) (xs : List ℕ) where
  pub below_counted : x < b → below b (x ∷ xs) ≡ suc (below b xs)
  unfolding below
  below_counted h = rw (lt-ltb x b h)

  pub below_passed : b ≤ x → below b (x ∷ xs) ≡ below b xs
  unfolding below
  below_passed h = rw (le-ltb x b h)

  pub below_next : below b (x ∷ xs) ≤ suc (below b xs)
  below_next =
      by_cases (dec_lt x b) (λ h. omega (arith, below_counted h))
      (λ h. omega (arith, below_passed (omega arith)))

pub below_at_most_all : (b : ℕ) (xs : List ℕ) → below b xs ≤ length xs
below_at_most_all b [] = unfold below in omega arith
below_at_most_all b (x ∷ xs) = omega (arith, below_next b x xs, below_at_most_all b xs)

pub below_monotone : (a b : ℕ) (xs : List ℕ) → a ≤ b → below a xs ≤ below b xs
below_monotone a b [] l = unfold below in omega arith
below_monotone a b (x ∷ xs) l =
    let most = below_monotone a b xs l in
    by_cases (dec_lt x a)
    (λ h. omega (arith, below_counted a x xs h, below_counted b x xs (omega arith)))
    (λ h. by_cases (dec_lt x b)
    (λ k. omega (arith, below_passed a x xs (omega arith), below_counted b x xs k))
    (λ k. omega (arith, below_passed a x xs (omega arith), below_passed b x xs (omega arith))))

-- ---- the entries below a bound come first

rest_ascends : (x : ℕ) (xs : List ℕ) → Ascending (x ∷ xs) → Ascending xs
rest_ascends x xs a i j h l = a (suc i) (suc j) (omega arith) (omega arith)

module _ (b : ℕ) where
  -- there are no more of them than stand before an entry that is not below the bound
  pub few_below : (xs : List ℕ) → Ascending xs → (i : ℕ) → (i < length xs → b ≤ get_or xs i 0)
      → below b xs ≤ i
  few_below [] a i h = unfold below in omega arith
  few_below (x ∷ xs) a zero h =
      let first : b ≤ x = h (omega arith) in
      let none = few_below xs (rest_ascends x xs a) 0
      (λ l. omega (arith, a 0 1 (omega arith) (omega arith))) in
      omega (arith, below_passed b x xs first, none)
  few_below (x ∷ xs) a (suc i) h =
      let few = few_below xs (rest_ascends x xs a) i (λ l. h (omega arith)) in
      omega (arith, below_next b x xs, few)

  -- and more than stand before one that is
  pub many_below : (xs : List ℕ) → Ascending xs → (i : ℕ) → i < length xs → get_or xs i 0 < b
      → i < below b xs
  many_below [] a i l h = absurd (not-suc-le-zero l)
  many_below (x ∷ xs) a zero l h = omega (arith, below_counted b x xs h)
  many_below (x ∷ xs) a (suc i) l h =
      let many = many_below xs (rest_ascends x xs a) i (omega arith) h in
      omega (arith, below_counted b x xs (omega (arith, h, a 0 (suc i) (omega arith) l)), many)

-- ---- so where they end is how many they are

module _ (b : ℕ) (xs : List ℕ) (a : Ascending xs) where
  rises : (i j : ℕ) → i ≤ j → j < length xs → get_or xs i 0 ≤ get_or xs j 0
  rises i j h l =
      by_cases (dec_lt i j) (λ m. omega (arith, a i j m l))
      (λ m. let e : i ≡ j = omega arith in rw e (le_refl (get_or xs j 0)))

  -- no entry below the bound comes after one that is not
  pub parted : IsPartitionedBy (λ x. ltb x b) xs
  parted = IsPartitionedBy-ltb (λ x. x) xs b (IsNonDecreasingBy-from_default (λ x. x) xs 0 rises)

  pub point_is_below : {n : ℕ} → n ≤ length xs
      → IsPartitionPoint (λ x. ltb x b ≡ true) (λ x. ltb x b ≡ false) xs n → n ≡ below b xs
  point_is_below {n} l p =
      let most = few_below b xs a n (λ k. ltb-false _ _ (p.1 n 0 (omega arith) k)) in
      by_cases (dec_lt (below b xs) n)
      (λ h.
      let k : get_or xs (below b xs) 0 < b = ltb-true _ _ (p.0 (below b xs) 0 (omega arith) h) in
      omega (arith, many_below b xs a (below b xs) (omega arith) k))
      (λ h. omega arith)
