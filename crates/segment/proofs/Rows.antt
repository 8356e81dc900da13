-- The rows: which is the last of a search, how the code divides one, and what it makes of it in
-- each step. Assumes nothing.
use mathlib.Core.Path.{◌≡◌, sym, ◌∙◌, ap}
use mathlib.Core.Bool.{Bool, true, false, ◌||◌, cond, or-true, or-false, false≢true}
use mathlib.Core.Logic.{⊎_elim, by_cases}
use Prim.Native.Nat.{ℕ, suc, ◌+◌, ◌-◌, ◌*◌, ◌%◌, ◌^◌, ◌≤◌, ◌<◌}
use native.Mathlib.Nat.{mul-le-mul_right, div-eq_of_lt-le, div-add-mod', eq-zero-or-pos, mod-lt, mod-eq-sub-div-mul}
use native.Mathlib.Decide.{dec_le, ℕ_discrete}
use native.Mathlib.Omega.{arith}
use borrow.Author.Tests.{le-leb, lt-leb, eq-eqb, ne_eqb}
use lib.Dec.{eqb, leb}
use Rattle.numbers.proofs.Remainders.{quotient_positive}
use Rattle.segment.specs.State.{points, quotient, all_cuts, last_cuts, cuts_of, Cutting, Steppable, advanced, row_of, cut_state, in_next_row, finished, ends, regular_next, fine_next}
use Rattle.segment.specs.declared.state.State.{State}
use Rattle.segment.specs.declared.state.Cuts.{Cuts}
use Rattle.segment.specs.declared.state.Nearest.{Nearest}
use Rattle.segment.proofs.Advancing.{cutting}

-- ---- how often the long gaps can be cut, what that leaves, and whether the row is the last

module _ (s : State) (positive : 0 < s.short) where
  -- where the division leaves nothing: once less than the quotient, with the short length left, and
  -- the row is the last
  module _ (falls : s.short ≤ s.long) (e : s.long % s.short ≡ 0) where
    pub cuts_exact : suc (all_cuts s) ≡ quotient s
    cuts_exact =
        let d = div-add-mod' s.long s.short in
        let k : suc (quotient s - 1) ≡ quotient s = omega (arith, quotient_positive s.long s.short positive falls) in
        let m = ap (λ (n : ℕ). n * s.short) k in
        omega (arith, k, div-eq_of_lt-le {k = quotient s - 1} s.short {m = s.long - 1} (omega arith) (omega arith))

    pub rest_exact : s.long - all_cuts s * s.short ≡ s.short
    rest_exact = omega (arith, div-add-mod' s.long s.short, ap (λ (n : ℕ). n * s.short) cuts_exact)

    ends_exact : (N : ℕ) → ends N s ≡ true
    unfolding ends
    ends_exact N = rw (eq-eqb s.short (s.long - all_cuts s * s.short) (sym rest_exact), or-true)

  -- else as often as the quotient, with the remainder left, and the row is the last where it
  -- reaches N
  module _ (some : 0 < s.long % s.short) where
    pub cuts_inexact : all_cuts s ≡ quotient s
    cuts_inexact = let d = div-add-mod' s.long s.short in div-eq_of_lt-le s.short (omega arith) (omega (arith, mod-lt s.long positive))

    pub rest_inexact : s.long - all_cuts s * s.short ≡ s.long % s.short
    rest_inexact = omega (arith, div-add-mod' s.long s.short, ap (λ (n : ℕ). n * s.short) cuts_inexact)

    pub ends_inexact : (N : ℕ) → ends N s ≡ leb N (s.shorts + all_cuts s * s.longs + s.longs)
    unfolding ends
    ends_inexact N = rw (ne_eqb s.short (s.long - all_cuts s * s.short) (λ e. omega (arith, e, rest_inexact, mod-lt s.long positive)), or-false)

  -- so that one after which the search goes on leaves something
  pub leaves_some : s.short ≤ s.long → (N : ℕ) → ends N s ≡ false → 0 < s.long % s.short
  leaves_some falls N h = ⊎_elim (λ e. absurd (false≢true (sym h ∙ ends_exact falls e N))) (λ p. p) (eq-zero-or-pos (s.long % s.short))

-- ---- the steps

-- a comparison with a part of both sides taken off
leb_less : (N l n : ℕ) → l ≤ N → leb (N - l) n ≡ leb N (n + l)
leb_less N l n h =
    by_cases (dec_le (N - l) n) (λ k. le-leb (N - l) n k ∙ sym (le-leb N (n + l) (omega arith)))
    (λ k. lt-leb (N - l) n (omega arith) ∙ sym (lt-leb N (n + l) (omega arith)))

-- the regular step, from all cuts of a row and what is made of them
regular_by : (odd : Bool) (N : ℕ) (s : State) {c : Cuts} {m : Nearest} {done : Bool} → c ≡ cuts_of (all_cuts s) s → m ≡ advanced odd c.number s → done ≡ ends N s
    → in_next_row done (row_of s c m) ≡ regular_next odd N s
unfolding regular_next cut_state
regular_by odd N s e f g = rw (f, e, g)

-- the fine step that ends the search
pub end_step : (odd : Bool) (N : ℕ) (s : State) {row c : Cuts} {m : Nearest} {done : Bool} → done ≡ ends N s → done ≡ true → row ≡ cuts_of (quotient s) s
    → c ≡ cuts_of (last_cuts N s) s → m ≡ advanced odd c.number s → finished (eqb c.number row.number) (row_of s c m) ≡ fine_next odd N s
unfolding fine_next cut_state
end_step odd N s d t r e f = rw (f, e, r, sym d ∙ t)

-- a row as it is divided
module _ {N : ℕ} {s : State} (p : Steppable N s) {c : Cuts} (e : c ≡ cuts_of (quotient s) s) where
  rest_of : c.rest ≡ s.long % s.short
  rest_of = rw e (sym (mod-eq-sub-div-mul s.long s.short))

  number_of : c.number ≡ quotient s
  number_of = rw e

  pub number_positive : 1 ≤ c.number
  number_positive = omega (arith, number_of, quotient_positive s.long s.short p.all.short_positive p.falls)

  -- the last row, with the short length left
  module _ (h : c.rest ≡ 0) where
    exact : s.long % s.short ≡ 0
    exact = sym rest_of ∙ h

    pub last_number : c.number - 1 ≡ all_cuts s
    last_number = omega (arith, number_of, cuts_exact s p.all.short_positive p.falls exact)

    last_all : record { number = c.number - 1; rest = s.short } ≡ cuts_of (all_cuts s) s
    last_all = rw (last_number, rest_exact s p.all.short_positive p.falls exact)

    pub last_row_cutting : Cutting (record { number = c.number - 1; rest = s.short }) s
    last_row_cutting = cutting last_all p.all

    pub last_ends : true ≡ ends N s
    last_ends = sym (ends_exact s p.all.short_positive p.falls exact N)

    pub last_step : (odd : Bool) {m : Nearest} → m ≡ advanced odd (c.number - 1) s
        → in_next_row true (row_of s (record { number = c.number - 1; rest = s.short }) m) ≡ regular_next odd N s
    last_step odd f = regular_by odd N s last_all f last_ends

  -- any other
  module _ (n : c.rest ≡ 0 → ⊥) where
    some : 0 < s.long % s.short
    some = omega (arith, rest_of)

    pub row_number : c.number ≡ all_cuts s
    row_number = number_of ∙ sym (cuts_inexact s p.all.short_positive some)

    row_all : c ≡ cuts_of (all_cuts s) s
    row_all = rw (sym number_of ∙ row_number) at e

    -- it can be cut so often
    pub row_cutting : Cutting c s
    row_cutting = cutting row_all p.all

    pub row_fits : points s + c.number * s.longs ≤ 2 ^ 62
    row_fits = row_cutting.able.fits

    pub row_ends : leb (N - s.longs) (s.shorts + c.number * s.longs) ≡ ends N s
    row_ends =
        rw row_number
        (leb_less N s.longs (s.shorts + all_cuts s * s.longs) (omega (arith, p.below)) ∙ sym (ends_inexact s p.all.short_positive some N))

    pub row_step : (odd : Bool) {m : Nearest} {done : Bool} → m ≡ advanced odd c.number s → done ≡ ends N s
        → in_next_row done (row_of s c m) ≡ regular_next odd N s
    row_step odd = regular_by odd N s row_all

  -- whether the row is the last, by the division alone
  pub divided_ends : eqb (s.long % s.short) 0 || leb (N - s.longs) (s.shorts + quotient s * s.longs) ≡ ends N s
  divided_ends =
      by_cases (ℕ_discrete (s.long % s.short) 0) (λ z. rw (eq-eqb (s.long % s.short) 0 z) (last_ends (rest_of ∙ z)))
      (λ n. rw (ne_eqb (s.long % s.short) 0 n) (rw number_of at (row_ends (λ z. n (sym rest_of ∙ z)))))

  -- one cut may be enough, whichever it is
  pub near_ends : N - s.shorts - s.longs ≤ s.longs → true ≡ ends N s
  near_ends h =
      by_cases (ℕ_discrete c.rest 0) (λ z. last_ends z)
      (λ n. sym (le-leb (N - s.longs) (s.shorts + c.number * s.longs) (omega (arith, h, mul-le-mul_right s.longs number_positive))) ∙ row_ends n)

  -- all cuts, whichever it is
  pub all_number : c.number - cond (eqb c.rest 0) 1 0 ≡ all_cuts s
  all_number =
      by_cases (ℕ_discrete c.rest 0) (λ e. rw (eq-eqb c.rest 0 e) (last_number e)) (λ n. rw (ne_eqb c.rest 0 n) (omega (arith, row_number n)))

  -- one after which the search goes on
  module _ {done : Bool} (d : done ≡ ends N s) (l : done ≡ false) where
    leaves : c.rest ≡ 0 → ⊥
    leaves z = false≢true (sym l ∙ d ∙ sym (last_ends z))

    pub on_cutting : Cutting c s
    on_cutting = row_cutting leaves

    pub on_number : c.number ≡ all_cuts s
    on_number = row_number leaves

    pub on_step : (odd : Bool) {m : Nearest} → m ≡ advanced odd c.number s → in_next_row false (row_of s c m) ≡ fine_next odd N s
    unfolding fine_next
    on_step odd f = rw (sym d ∙ l) (row_step leaves odd f (sym l ∙ d))
