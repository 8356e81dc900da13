-- The laws of this crate that others may use beside its promises. What a search reaches from a row on, for a program that goes through the rows: at the row
-- itself, further along it, or in the next row. Where a program stands that draws the rows, and the sign of a row. Assumes nothing.
use mathlib.Core.Path.{◌≡◌, refl, ◌∙◌, ap}
use mathlib.Core.Logic.{◌⊎◌, inl, inr, ⊎_elim}
use Prim.Native.Nat.{ℕ, suc, ◌+◌, ◌*◌, ◌/◌, ◌%◌, ◌≤◌, ◌<◌}
use native.Mathlib.Nat.{mod-lt}
use native.Mathlib.Omega.{arith}
use Rattle.numbers.proofs.Remainders.{quotient_positive}
use Rattle.expansion.specs.Rows.{expansion}
use Rattle.expansion.specs.Configurations.{configuration, regular as all_regular}
use Rattle.expansion.specs.Reached.{Search, configurations_of, reached_in, reached, reached_from}
use Rattle.expansion.specs.Reached.Search.{regular, fine}
use Rattle.expansion.proofs.Unrolling.{unrolled, rows_next, rows_end, some_row}
pub use Rattle.expansion.proofs.Multiples.{row_by_parity}
pub use Rattle.expansion.proofs.Drawing.{AtRow, first_drawn, not_last, is_last, next_drawn}
pub use Rattle.expansion.proofs.Regular.{relabelled}
use Rattle.expansion.proofs.Regular.{regular_next, regular_end, regular_many}
use Rattle.expansion.proofs.Fine.{fine_next, fine_end, fine_some}
use Rattle.expansion.proofs.ConfigurationLaws.{regular_correct, fine_correct, fine_of_rows}
use Rattle.expansion.proofs.Reaching.{reached_here, reached_last, reached_later, parts_passed, part_reached}

-- ---- where the rows begin

-- a step of 0 has one configuration, of one point
pub one_reached : (k : Search) (M a N : ℕ) → a < M → a ≡ 0 → reached k M a N ≡ configuration 1 0 0
unfolding reached configurations_of
one_reached regular M a N l e = rw ((regular_correct M a l).of_zero e) (reached_last _ _)
one_reached fine M a N l e = rw ((fine_correct M a l).of_zero e) (reached_last _ _)

-- any other goes through the rows of its expansion
pub rows_reached : (k : Search) (M a N : ℕ) → a < M → 0 < a → reached k M a N ≡ reached_from k N 0 M a 0 1
unfolding reached reached_from configurations_of all_regular expansion
rows_reached regular M a N l h = refl
rows_reached fine M a N l h = ap (reached_in N) (fine_of_rows M a l h)

-- ---- from a row on

module _ (N i t u p q : ℕ) (falls : u < t) (some : 0 < u) where
  pub regular_on : q + p < N → reached_from regular N i t u p q ≡ reached_from regular N (suc i) u (t % u) q (p + t / u * q)
  unfolding reached_from
  regular_on h =
      let r = unrolled u (t % u) q (p + t / u * q) in
      rw (rows_next t u p q some, regular_next) (reached_later _ _ _ h (omega (arith, regular_many r (suc i), some_row r)))

  -- the row after it is the last
  pub regular_period : q + p < N → t % u ≡ 0 → reached_from regular N i t u p q ≡ configuration (p + t / u * q) (suc i) 0
  unfolding reached_from
  regular_period h e = regular_on h ∙ rw (e, rows_end, regular_end) (reached_last _ _)

  -- the part j of this row: the first not below N, or the last of all
  pub fine_part : (j : ℕ) → j < t / u → (0 < j → p + j * q < N) → (N ≤ q + p + j * q) ⊎ ((suc j ≡ t / u) × (t % u ≡ 0))
      → reached_from fine N i t u p q ≡ configuration (q + p + j * q) i j
  unfolding reached_from
  fine_part j l b f =
      rw (rows_next t u p q some, fine_next)
      (part_reached N i p q (t / u) 0 j _ (omega arith) (omega arith) b
      (⊎_elim inl (λ g. inr (omega (arith, g.0), rw (g.1, rows_end) (fine_end (suc i) q (p + t / u * q)))) f))

  -- every part of this row is below N, and there is another row
  pub fine_on : p + t / u * q < N → 0 < t % u → reached_from fine N i t u p q ≡ reached_from fine N (suc i) u (t % u) q (p + t / u * q)
  unfolding reached_from
  fine_on h k =
      rw (rows_next t u p q some, fine_next)
      (parts_passed N i p q (t / u) 0 _ (omega arith) (fine_some (unrolled u (t % u) q (p + t / u * q)) (suc i) (mod-lt t some) k))

-- where the first configuration of a row is enough, it is the one
pub row_reached : (k : Search) (N i t u p q : ℕ) → u < t → 0 < u → N ≤ q + p → reached_from k N i t u p q ≡ configuration (q + p) i 0
unfolding reached_from
row_reached regular N i t u p q l h n = rw (rows_next t u p q h, regular_next) (reached_here _ _ _ n)
row_reached fine N i t u p q l h n =
    fine_part N i t u p q l h 0 (quotient_positive t u h (omega arith)) (λ k. absurd (omega (arith, k))) (inl (omega arith)) ∙ relabelled (omega arith) refl refl
