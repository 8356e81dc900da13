-- What is said of a number holds of an equal one. Assumes nothing.
use mathlib.Core.Path.{◌≡◌, sym, ◌∙◌}
use mathlib.Core.Logic.{◌↔◌}
use Prim.Native.Nat.{ℕ}

-- when a number is k, seen through an equal number
pub through : {m n k : ℕ} {P : Type 0} → m ≡ n → (n ≡ k) ↔ P → (m ≡ k) ↔ P
through e i = (λ f. i.0 (sym e ∙ f), λ p. e ∙ i.1 p)
