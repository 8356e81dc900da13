-- What a call asks of its numbers, in the order in which it asks it. Each condition has the number of the refusal that is answered where it does
-- not hold; the first such number counts, whatever its size. Assumes nothing: these are definitions.
use Rattle.std.specs.Prelude.{◌≡◌, List, [], ◌∷◌, map, ◌⊎◌, ℕ, zero, suc, ◌<◌}

-- a condition, and the number of the refusal where it does not hold
pub record Condition : Type 1 where
  pub number : ℕ
  pub Holds : Type 0

-- a condition that is decided
pub record Check : Type 1 where
  pub condition : Condition
  pub decided : Dec condition.Holds

abbrev pub condition : (number : ℕ) → (holds : Type 0) → Condition
condition n P = record { number = n; Holds = P }

abbrev pub check : (number : ℕ) → {holds : Type 0} → Dec holds → Check
check n {holds} d = record { condition = condition n holds; decided = d }

-- what is asked, without the decisions
abbrev pub conditions : List Check → List Condition
conditions = map (λ (c : Check). c.condition)

-- the number of the first condition that does not hold, or 0
unfoldable pub first_failing : List Check → ℕ
first_failing [] = 0
first_failing (c ∷ cs) = elim c.decided [ yes h ↦ first_failing cs | no h ↦ c.condition.number ]

-- every condition holds
abbrev pub AllHold : List Condition → Type 0
AllHold [] = Unit
AllHold (c ∷ cs) = c.Holds × AllHold cs

-- the number is that of a condition that does not hold, and every condition before it holds
abbrev pub RefusedBy : List Condition → (number : ℕ) → Type 0
RefusedBy [] n = ⊥
RefusedBy (c ∷ cs) n = ((n ≡ c.number) × (c.Holds → ⊥)) ⊎ (c.Holds × RefusedBy cs n)

-- no condition has the number 0, which stands for no refusal
abbrev pub Numbered : List Condition → Type 0
Numbered [] = Unit
Numbered (c ∷ cs) = (0 < c.number) × Numbered cs

-- what a buffer holds after a call that answers this number: 0 leaves what is new there, and a refusal what was there before
unfoldable pub unless_refused : {A : Type 0} → (number : ℕ) → (new old : A) → A
unless_refused zero new old = new
unless_refused (suc n) new old = old
