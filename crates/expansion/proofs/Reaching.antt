-- Which of some configurations is reached, step by step, and among the parts of one row. Assumes nothing.
use mathlib.Core.Path.{◌≡◌, refl, ◌∙◌, ap}
use mathlib.Core.List.{List, [], ◌∷◌, ◌++◌}
use mathlib.Core.Logic.{◌⊎◌, inl, inr, ⊎_elim}
use Prim.Native.Nat.{ℕ, zero, suc, ◌+◌, ◌*◌, ◌≤◌, ◌<◌}
use native.Mathlib.Nat.{eq-or-lt_of_le, mul-le-mul_right}
use native.Mathlib.Omega.{arith}
use borrow.Author.Tests.{le-leb, lt-leb}
use lib.ListN.{length, length-append}
use Rattle.expansion.specs.Configurations.{Configuration, parts_from}
use Rattle.expansion.specs.Reached.{reached_in}
use Rattle.expansion.proofs.Fine.{part_of, parts_many}

pub reached_here : (n : ℕ) (c : Configuration) (cs : List Configuration) → n ≤ c.count → reached_in n (c ∷ cs) ≡ c
unfolding reached_in
reached_here n c [] h = refl
reached_here n c (d ∷ cs) h = rw (le-leb n c.count h)

pub reached_last : (n : ℕ) (c : Configuration) → reached_in n (c ∷ []) ≡ c
unfolding reached_in
reached_last n c = refl

pub reached_later : (n : ℕ) (c : Configuration) (cs : List Configuration) → c.count < n → 0 < length cs → reached_in n (c ∷ cs) ≡ reached_in n cs
unfolding reached_in
reached_later n c [] h l = absurd (omega (arith, l))
reached_later n c (d ∷ cs) h l = rw (lt-leb n c.count h)

module _ (n i p q : ℕ) where
  -- of a row whose parts are all below n, none is reached if more follow
  pub parts_passed : (left t : ℕ) (rest : List Configuration) → p + (t + left) * q < n → 0 < length rest
      → reached_in n (parts_from left t i p q ++ rest) ≡ reached_in n rest
  unfolding parts_from
  parts_passed zero t rest h l = refl
  parts_passed (suc k) t rest h l =
      reached_later n (part_of i p q t) (parts_from k (suc t) i p q ++ rest) (omega arith) (simp length-append (omega arith))
      ∙ parts_passed k (suc t) rest (omega arith) l

  -- a part is reached that is the last of all or not below n, if those before it are below n
  pub part_reached : (left t j : ℕ) (rest : List Configuration) → t ≤ j → j < t + left → (t < j → p + j * q < n)
      → (n ≤ q + p + j * q) ⊎ ((suc j ≡ t + left) × (rest ≡ []))
      → reached_in n (parts_from left t i p q ++ rest) ≡ part_of i p q j
  unfolding parts_from
  part_reached zero t j rest l h b f = absurd (omega (arith, l, h))
  part_reached (suc k) t j rest l h b f =
      let more = parts_from k (suc t) i p q ++ rest in
      ⊎_elim
      (λ e. ⊎_elim (λ g. reached_here n (part_of i p q t) more (omega (arith, g, ap (λ (m : ℕ). m * q) e)))
      (λ g. let z : k ≡ 0 = omega (arith, e, g.0) in rw (z, g.1) (reached_last n (part_of i p q t))) f ∙ ap (part_of i p q) e)
      (λ e. reached_later n (part_of i p q t) more (omega (arith, b e, mul-le-mul_right q e)) (simp (length-append, parts_many) (omega (arith, e)))
      ∙ part_reached k (suc t) j rest e (omega (arith, h)) (λ g. b (omega (arith, g))) (⊎_elim inl (λ g. inr (omega (arith, g.0), g.1)) f))
      (eq-or-lt_of_le l)
