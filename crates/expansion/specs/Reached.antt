-- Which configuration either search reaches (document 01: the reached count, with its index or label). Assumes nothing: these are definitions.
use Rattle.std.specs.Prelude.{cond, List, [], ◌∷◌, ℕ, leb}
use Rattle.expansion.specs.Rows.{rows}
use Rattle.expansion.specs.Configurations.{Configuration, none}
use Rattle.expansion.specs.Configurations as configurations

-- the two searches
pub data Search : Type 0 where
  regular : Search
  fine : Search

-- the configurations of a search (01: its rungs)
unfoldable pub configurations_of : Search → (M a : ℕ) → List Configuration
configurations_of regular M a = configurations.regular M a
configurations_of fine M a = configurations.fine M a

-- the first of some configurations whose count is not below n, or the last of them
unfoldable pub reached_in : (n : ℕ) → List Configuration → Configuration
reached_in n [] = none
reached_in n (c ∷ []) = c
reached_in n (c ∷ d ∷ cs) = cond (leb n c.count) c (reached_in n (d ∷ cs))

-- the configuration that a search reaches: the first with at least N points, or that of the period
unfoldable pub reached : Search → (M a N : ℕ) → Configuration
reached k M a N = reached_in N (configurations_of k M a)

-- what is reached from a row on: i its index, t and u the remainders before it and in it, p and q the denominators
unfoldable pub reached_from : Search → (N i t u p q : ℕ) → Configuration
reached_from regular N i t u p q = reached_in N (configurations.regular_from i p (rows t u p q))
reached_from fine N i t u p q = reached_in N (configurations.fine_from i p (rows t u p q))
