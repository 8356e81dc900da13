-- Lists one after another, and pieces of a stretch, each of which ends where the next one begins: every number of the stretch is in exactly one, and what
-- they list is what the stretch lists. Assumes nothing.
use mathlib.Core.Path.{◌≡◌, refl, sym, ◌∙◌, ap, ap₂}
use mathlib.Core.Bool.{Bool}
use mathlib.Core.List.{List, [], ◌++◌, map, map-append}
use mathlib.Core.Logic.{by_cases}
use Prim.Native.Nat.{ℕ, zero, suc, ◌+◌, ◌-◌, ◌≤◌, ◌<◌}
use native.Mathlib.Nat.{zero-add}
use native.Mathlib.Decide.{dec_lt, ℕ_discrete}
use native.Mathlib.Omega.{arith}
use Rattle.numbers.specs.Lists.{filter_range, joined}
use Rattle.numbers.specs.Promise.{Starts, InPiece, PiecesCorrect}
use Rattle.numbers.proofs.Selections.{filter_none, filter_joined}

pub joined_none : (f : ℕ → List ℕ) (i : ℕ) → joined f 0 i ≡ []
unfolding joined
joined_none f i = refl

-- one piece more, of n
pub joined_next : (f : ℕ → List ℕ) (n i : ℕ) → i < n → joined f (n - i) i ≡ f i ++ joined f (n - suc i) (suc i)
unfolding joined
joined_next f n i h =
    let left : n - i ≡ suc (n - suc i) = omega arith in
    rw left

-- a function of every number of lists one after another
pub map_joined : (f : ℕ → ℕ) (g : ℕ → List ℕ) (n i : ℕ) → map f (joined g n i) ≡ joined (λ j. map f (g j)) n i
unfolding joined
map_joined f g zero i = refl
map_joined f g (suc n) i = map-append f (g i) (joined g n (suc i)) ∙ ap (λ (xs : List ℕ). map f (g i) ++ xs) (map_joined f g n (suc i))

-- ---- starts of pieces

module _ (start : ℕ → ℕ) (pieces : ℕ) (next : (i : ℕ) → i < pieces → start i ≤ start (suc i)) where
  -- a later one is not less
  starts_ascend : (i n : ℕ) → i + n ≤ pieces → start i ≤ start (i + n)
  starts_ascend i zero h =
      let e : i + 0 ≡ i = omega arith in
      omega (arith, ap start e)
  starts_ascend i (suc n) h =
      let e : i + suc n ≡ suc (i + n) = omega arith in
      omega (arith, ap start e, next (i + n) (omega arith), starts_ascend i n (omega arith))

  later_start : (i j : ℕ) → i ≤ j → j ≤ pieces → start i ≤ start j
  later_start i j h k =
      let e : i + (j - i) ≡ j = omega arith in
      omega (arith, starts_ascend i (j - i) (omega arith), ap start e)

  -- the numbers of a piece are less than those of a later one
  ordered : (i j : ℕ) → i < j → j < pieces → (x y : ℕ) → InPiece start i x → InPiece start j y → x < y
  ordered i j h k x y p q = omega (arith, p.1, q.0, later_start (suc i) j h (omega arith))

  -- so that a number is in one only
  one_piece : (i j x : ℕ) → i < pieces → j < pieces → InPiece start i x → InPiece start j x → j ≡ i
  one_piece i j x h k p q =
      by_cases (ℕ_discrete j i) (λ e. e)
      (λ n. by_cases (dec_lt i j) (λ l. absurd (omega (arith, ordered i j l k x x p q))) (λ l. absurd (omega (arith, ordered j i (omega arith) h x x q p))))

  -- a number from the first start on and below another start is in a piece before that
  some_piece : start 0 ≡ 0 → (n x : ℕ) → n ≤ pieces → x < start n → (i : ℕ) × (i < n) × InPiece start i x
  some_piece z zero x h l = absurd (omega arith)
  some_piece z (suc n) x h l =
      by_cases (dec_lt x (start n))
      (λ k. let r = some_piece z n x (omega arith) k in (r.0, omega (arith, r.1), r.2)) (λ k. (n, omega arith, (omega arith, l)))

  -- the numbers of so many pieces that have a property are those of the stretch
  pieces_filter : (p : ℕ → Bool) (n i : ℕ) → i + n ≤ pieces
      → joined (λ i. filter_range p (start (suc i) - start i) (start i)) n i ≡ filter_range p (start (i + n) - start i) (start i)
  unfolding joined
  pieces_filter p zero i h =
      let e : i + 0 ≡ i = omega arith in
      let z : start (i + 0) - start i ≡ 0 = omega (arith, ap start e) in
      sym (ap (λ (k : ℕ). filter_range p k (start i)) z ∙ filter_none p (start i))
  pieces_filter p (suc n) i h =
      let e : i + suc n ≡ suc i + n = omega arith in
      let own : start (suc i) ≡ start i + (start (suc i) - start i) = omega (arith, next i (omega arith)) in
      let k : start (i + suc n) - start i ≡ (start (suc i) - start i) + (start (suc i + n) - start (suc i))
      = omega (arith, ap start e, own, starts_ascend (suc i) n (omega arith)) in
      ap (λ (xs : List ℕ). filter_range p (start (suc i) - start i) (start i) ++ xs)
      (pieces_filter p n (suc i) (omega arith) ∙ ap (filter_range p (start (suc i + n) - start (suc i))) own)
      ∙ sym (filter_joined p (start (suc i) - start i) (start (suc i + n) - start (suc i)) (start i))
      ∙ ap (λ (l : ℕ). filter_range p l (start i)) (sym k)

pub pieces_correct : (start : ℕ → ℕ) (pieces total : ℕ) → Starts start pieces total → PiecesCorrect start pieces total
pieces_correct start pieces total c =
    record {
      once = λ x h. let r = some_piece start pieces c.not_after_next c.first pieces x (omega arith) (omega (arith, c.last, h)) in
          (r.0, r.1, r.2, λ j k q. one_piece start pieces c.not_after_next r.0 j x r.1 k r.2 q);
      within = λ i h. omega (arith, later_start start pieces c.not_after_next i pieces h (omega arith), c.last);
      ordered = ordered start pieces c.not_after_next;
      lists = λ p. pieces_filter start pieces c.not_after_next p pieces 0 (omega arith)
          ∙ ap₂ (filter_range p) (omega (arith, c.last, c.first, ap start (zero-add pieces))) c.first;
    }
