-- The numbers that have a property, in order: which they are, that they ascend, how many they are, that they can be taken piece by piece, also
-- seen from elsewhere; and the values of a function, one after another. Assumes nothing.
use mathlib.Core.Path.{◌≡◌, refl, sym, ◌∙◌, ap, ap₂}
use mathlib.Core.Bool.{Bool, true, false, cond}
use mathlib.Core.List.Memᴰ
use mathlib.Core.List.{List, [], ◌∷◌, ◌++◌, map, Memᴰ}
use mathlib.Core.Logic.{◌↔◌, ⊎_elim}
use Prim.Native.Nat.{ℕ, zero, suc, ◌+◌, ◌*◌, ◌-◌, ◌^◌, ◌≤◌, ◌<◌}
use native.Mathlib.Nat.{eq-or-lt_of_le, zero-add, add-zero, sub-eq-zero_of_le}
use native.Mathlib.Omega.{arith}
use lib.ListN.{length, get_or, length-map}
use lib.Dec.{ltb}
use mir.Val.{bool_byte}
use borrow.Author.Tests.{lt-ltb, ltb-true}
use Rattle.numbers.specs.Lists.{filter_range, count_if, tabulate}
use Rattle.numbers.specs.Promise.{Enumerates}
use Rattle.numbers.proofs.Lists.{AscendingFrom, ascending, mapped_at}
use Rattle.numbers.proofs.Lists.AscendingFrom.{ascending_nil, ascending_cons}

module _ (p : ℕ → Bool) where
  -- nothing is left
  pub filter_none : (x : ℕ) → filter_range p 0 x ≡ []
  unfolding filter_range
  filter_none x = refl

  -- the next number has the property
  pub filter_hit : (left x : ℕ) → p x ≡ true → filter_range p (suc left) x ≡ x ∷ filter_range p left (suc x)
  unfolding filter_range
  filter_hit left x e = rw e

  -- or it has not
  pub filter_miss : (left x : ℕ) → p x ≡ false → filter_range p (suc left) x ≡ filter_range p left (suc x)
  unfolding filter_range
  filter_miss left x e = rw e

  pub filter_few : (left x : ℕ) → length (filter_range p left x) ≤ left
  unfolding filter_range
  filter_few zero x = omega arith
  filter_few (suc n) x =
      let few = filter_few n (suc x) in
      elim (p x) as (λ b. length (cond b (x ∷ filter_range p n (suc x)) (filter_range p n (suc x))) ≤ suc n) [ true ↦ omega arith | false ↦ omega arith ]

  -- one stretch of numbers after another
  pub filter_joined : (n k x : ℕ) → filter_range p (n + k) x ≡ filter_range p n x ++ filter_range p k (x + n)
  unfolding filter_range
  filter_joined zero k x =
      let e : 0 + k ≡ k = omega arith in
      let f : x ≡ x + 0 = omega arith in
      ap₂ (filter_range p) e f
  filter_joined (suc n) k x =
      let e : suc n + k ≡ suc (n + k) = omega arith in
      let f : suc x + n ≡ x + suc n = omega arith in
      let i = filter_joined n k (suc x) ∙ ap (λ (y : ℕ). filter_range p n (suc x) ++ filter_range p k y) f in
      ap (λ (l : ℕ). filter_range p l x) e ∙ elim (p x) as
      (λ b. cond b (x ∷ filter_range p (n + k) (suc x)) (filter_range p (n + k) (suc x))
      ≡ cond b (x ∷ filter_range p n (suc x)) (filter_range p n (suc x)) ++ filter_range p k (x + suc n))
      [ true ↦ ap (λ (l : List ℕ). x ∷ l) i | false ↦ i ]

  -- none of the numbers has the property
  pub filter_empty : (left x : ℕ) → ((y : ℕ) → x ≤ y → y < x + left → p y ≡ false) → filter_range p left x ≡ []
  unfolding filter_range
  filter_empty zero x h = refl
  filter_empty (suc n) x h = rw (h x (omega arith) (omega arith)) (filter_empty n (suc x) (λ y l k. h y (omega arith) (omega arith)))

  -- all of them, where every one has it
  pub filter_full : (left x : ℕ) → ((y : ℕ) → p y ≡ true) → length (filter_range p left x) ≡ left
  filter_full zero x h = ap length (filter_none x)
  filter_full (suc n) x h = ap length (filter_hit n x (h x)) ∙ ap suc (filter_full n (suc x) h)

  -- each is at least where they begin, and larger than the one before
  pub filter_ascends : (left x n : ℕ) → n ≤ x → AscendingFrom n (filter_range p left x)
  unfolding filter_range
  filter_ascends zero x n h = ascending_nil
  filter_ascends (suc l) x n h =
      elim (p x) as (λ b. AscendingFrom n (cond b (x ∷ filter_range p l (suc x)) (filter_range p l (suc x))))
      [ true ↦ ascending_cons h (filter_ascends l (suc x) (suc x) (omega arith)) | false ↦ filter_ascends l (suc x) n (omega arith) ]

  -- a number is among them that is one of those looked at and has the property
  pub filter_has : (left x y : ℕ) → x ≤ y → y < x + left → p y ≡ true → Memᴰ y (filter_range p left x)
  unfolding filter_range
  filter_has zero x y h l e = absurd (omega arith)
  filter_has (suc n) x y h l e =
      ⊎_elim
      (λ (f : x ≡ y). rw (ap p f ∙ e) (Memᴰ.head (sym f)))
      (λ k. let m = filter_has n (suc x) y k (omega arith) e in
      elim (p x) as (λ b. Memᴰ y (cond b (x ∷ filter_range p n (suc x)) (filter_range p n (suc x)))) [ true ↦ Memᴰ.tail m | false ↦ m ])
      (eq-or-lt_of_le h)

  -- and no other
  pub filter_only : (left x y : ℕ) → Memᴰ y (filter_range p left x) → (x ≤ y) × (y < x + left) × (p y ≡ true)
  unfolding filter_range
  filter_only zero x y m = absurd (Memᴰ.not-nil m)
  filter_only (suc n) x y m =
      let after : Memᴰ y (filter_range p n (suc x)) → (x ≤ y) × (y < x + suc n) × (p y ≡ true)
      = λ k. let r = filter_only n (suc x) y k in (omega (arith, r.0), omega (arith, r.1), r.2) in
      (elim (p x) as (λ b. p x ≡ b → Memᴰ y (cond b (x ∷ filter_range p n (suc x)) (filter_range p n (suc x))) → (x ≤ y) × (y < x + suc n) × (p y ≡ true))
      [ true ↦ λ e k. ⊎_elim (λ f. (omega (arith, f), omega (arith, f), ap p f ∙ e)) after (Memᴰ.cases_cons k) | false ↦ λ e k. after k ]) refl m

  -- there are as many as are counted
  pub filter_counted : (left x : ℕ) → length (filter_range p left x) ≡ count_if p left x
  unfolding filter_range count_if
  filter_counted zero x = refl
  filter_counted (suc n) x =
      let e = filter_counted n (suc x) in
      elim (p x) as (λ b. length (cond b (x ∷ filter_range p n (suc x)) (filter_range p n (suc x))) ≡ cond b 1 0 + count_if p n (suc x))
      [ true ↦ omega arith | false ↦ omega arith ]

-- a number is less than another exactly where the test says so
pub less : (n k : ℕ) → (ltb n k ≡ true) ↔ (n < k)
less n k = (ltb-true n k, lt-ltb n k)

-- the numbers below a count that have a property, where P tells which have it
pub enumerates : (p : ℕ → Bool) (P : ℕ → Type 0) (count : ℕ) → count ≤ 1048576 → ((x : ℕ) → (p x ≡ true) ↔ P x)
    → Enumerates (λ x. (x < count) × P x) (count_if p count 0) (filter_range p count 0)
enumerates p P count most tells =
    record {
      exactly = λ x. (
        λ m. let r = filter_only p count 0 x m in (omega (arith, r.1), (tells x).0 r.2),
        λ h. filter_has p count 0 x (omega arith) (omega (arith, h.0)) ((tells x).1 h.1),
      );
      ascending = ascending (filter_ascends p count 0 0 (omega arith));
      fits = λ x m. let r = filter_only p count 0 x m in omega (arith, r.1, most);
      counted = filter_counted p count 0;
    }

-- the same numbers, each larger by as much
pub enumerates_moved : {holds : ℕ → Type 0} {number : ℕ} {xs : List ℕ} (by : ℕ) → Enumerates holds number xs → ((x : ℕ) → holds x → by + x < 2 ^ 64)
    → Enumerates (λ y. (x : ℕ) × (y ≡ by + x) × holds x) number (map (λ x. by + x) xs)
enumerates_moved {holds} {number} {xs} by l fit =
    let moved : ℕ → ℕ = λ x. by + x in
    let many = length-map xs moved in
    record {
      exactly = λ y. (
        λ m. let r = Memᴰ.of_map moved xs m in (r.0, sym r.2, (l.exactly r.0).0 r.1),
        λ h. Memᴰ.cast h.1 (Memᴰ.map moved ((l.exactly h.0).1 h.2)),
      );
      ascending = λ i j h k.
          omega (arith, mapped_at moved xs i (omega (arith, many)), mapped_at moved xs j (omega (arith, many)), l.ascending i j h (omega (arith, many)));
      fits = λ y m. let r = Memᴰ.of_map moved xs m in omega (arith, r.2, fit r.0 ((l.exactly r.0).0 r.1));
      counted = many ∙ l.counted;
    }

-- a test as a number
pub test_number : (b : Bool) → bool_byte b ≡ cond b 1 0
test_number true = refl
test_number false = refl

-- a number kept where a test holds, and else 0, is at most itself
pub kept_most : (n : ℕ) (b : Bool) → n * bool_byte b ≤ n
kept_most n true = omega arith
kept_most n false = omega arith

-- it counts for one at most
pub one_at_most : (b : Bool) → cond b 1 0 ≤ 1
one_at_most true = omega arith
one_at_most false = omega arith

-- a test that counts for one is true
pub counts_one : (b : Bool) → 1 ≤ cond b 1 0 → b ≡ true
counts_one true h = refl
counts_one false h = absurd (omega arith)

-- ---- those of the numbers below n that are not below x

abbrev pub filter_from : (property : ℕ → Bool) → (n x : ℕ) → List ℕ
filter_from p n x = filter_range p (n - x) x

module _ (p : ℕ → Bool) (n x : ℕ) where
  pub from_none : n ≤ x → filter_from p n x ≡ []
  from_none h = rw (sub-eq-zero_of_le h) (filter_none p x)

  module _ (more : x < n) where
    left : n - x ≡ suc (n - suc x)
    left = omega arith

    pub from_hit : p x ≡ true → filter_from p n x ≡ x ∷ filter_from p n (suc x)
    from_hit e = rw left (filter_hit p (n - suc x) x e)

    pub from_miss : p x ≡ false → filter_from p n x ≡ filter_from p n (suc x)
    from_miss e = rw left (filter_miss p (n - suc x) x e)

    pub from_length : length (filter_from p n x) ≡ cond (p x) 1 0 + length (filter_from p n (suc x))
    from_length =
        (elim (p x) as (λ b. p x ≡ b → length (filter_from p n x) ≡ cond b 1 0 + length (filter_from p n (suc x)))
        [ true ↦ λ e. ap length (from_hit e) ∙ omega arith | false ↦ λ e. ap length (from_miss e) ∙ omega arith ]) refl

    -- where all numbers from x on have the property, x has it, and so have all after it
    pub from_full : length (filter_from p n x) ≡ n - x → (p x ≡ true) × (length (filter_from p n (suc x)) ≡ n - suc x)
    from_full e =
        let few = filter_few p (n - suc x) (suc x) in
        let most = one_at_most (p x) in
        (counts_one (p x) (omega (arith, e, from_length, few, most)), omega (arith, e, from_length, few, most))

-- ---- the same property seen from elsewhere

-- what has one property, so much larger, has the other
pub filter_shifted : (p q : ℕ → Bool) (h left x : ℕ) → ((y : ℕ) → y < x + left → p y ≡ q (h + y))
    → map (λ (y : ℕ). h + y) (filter_range p left x) ≡ filter_range q left (h + x)
unfolding filter_range
filter_shifted p q h zero x e = refl
filter_shifted p q h (suc n) x e =
    let f : h + suc x ≡ suc (h + x) = omega arith in
    let i : map (λ (y : ℕ). h + y) (filter_range p n (suc x)) ≡ filter_range q n (suc (h + x))
    = filter_shifted p q h n (suc x) (λ y l. e y (omega arith)) ∙ ap (filter_range q n) f in
    rw (← e x (omega arith), ← i)
    (elim (p x) as
    (λ b. map (λ (y : ℕ). h + y) (cond b (x ∷ filter_range p n (suc x)) (filter_range p n (suc x)))
    ≡ cond b ((h + x) ∷ map (λ (y : ℕ). h + y) (filter_range p n (suc x))) (map (λ (y : ℕ). h + y) (filter_range p n (suc x))))
    [ true ↦ refl | false ↦ refl ])

pub filter_same : (p q : ℕ → Bool) (left x : ℕ) → ((y : ℕ) → y < x + left → p y ≡ q y) → filter_range p left x ≡ filter_range q left x
unfolding filter_range
filter_same p q zero x e = refl
filter_same p q (suc n) x e = rw (e x (omega arith), filter_same p q n (suc x) (λ y l. e y (omega arith)))

-- ---- a function's values one after another

module _ (f : ℕ → ℕ) where
  pub tabulate_length : (n i : ℕ) → length (tabulate f n i) ≡ n
  unfolding tabulate
  tabulate_length zero i = refl
  tabulate_length (suc n) i = ap suc (tabulate_length n (suc i))

  pub tabulate_from : (n k i : ℕ) → i < n → get_or (tabulate f n k) i 0 ≡ f (k + i)
  unfolding tabulate
  tabulate_from zero k i h = absurd (omega arith)
  tabulate_from (suc n) k zero h = ap f (sym (add-zero k))
  tabulate_from (suc n) k (suc i) h =
      let e : suc k + i ≡ k + suc i = omega arith in
      tabulate_from n (suc k) i (omega arith) ∙ ap f e

  pub tabulate_at : (n i : ℕ) → i < n → get_or (tabulate f n 0) i 0 ≡ f i
  tabulate_at n i h = tabulate_from n 0 i h ∙ ap f (zero-add i)

  -- one value more, of n
  pub tabulate_next : (n i : ℕ) → i < n → tabulate f (n - i) i ≡ f i ∷ tabulate f (n - suc i) (suc i)
  unfolding tabulate
  tabulate_next n i h =
      let left : n - i ≡ suc (n - suc i) = omega arith in
      rw left
