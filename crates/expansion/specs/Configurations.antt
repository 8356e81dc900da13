-- Two-length configurations (document 01: rungs): the counts q(i) + q(i-1) + t·q(i), with their labels. Their name is that of 000, Property 1:
-- so many multiples of a, taken modulo M, leave gaps of at most two lengths. That is no part of the definition, and not used in this crate.
-- Assumes nothing: these are definitions.
use Rattle.std.specs.Prelude.{cond, List, [], ◌∷◌, ◌++◌, map, ℕ, zero, suc, ◌+◌, ◌*◌, eqb}
use Rattle.expansion.specs.Rows.{Row, expansion}

-- how many points, and the label (i, t): the index of the row, and which part of its quotient has been added (0 for a regular one)
pub record Configuration : Type 0 where
  pub count : ℕ
  pub index : ℕ
  pub part : ℕ

abbrev pub configuration : (count index part : ℕ) → Configuration
configuration n i t = record { count = n; index = i; part = t }

abbrev pub counts : List Configuration → List ℕ
counts = map (λ (c : Configuration). c.count)

-- in place of a configuration that is not there
abbrev pub none : Configuration
none = configuration 0 0 0

-- from row i on, with p the denominator before it: q(i) + q(i-1) while theta(i) is not 0, then the last denominator
unfoldable pub regular_from : (i p : ℕ) → List Row → List Configuration
regular_from i p [] = []
regular_from i p (r ∷ rs) =
    cond (eqb r.remainder 0) (configuration r.denominator i 0 ∷ [])
    (configuration (r.denominator + p) i 0 ∷ regular_from (suc i) r.denominator rs)

-- the regular configurations of a and M
unfoldable pub regular : (M a : ℕ) → List Configuration
regular M a = regular_from 0 0 (expansion M a)

-- q + p + t·q, for as many t from this one on as are left
unfoldable pub parts_from : (left t i p q : ℕ) → List Configuration
parts_from zero t i p q = []
parts_from (suc n) t i p q = configuration (q + p + t * q) i t ∷ parts_from n (suc t) i p q

-- from row i on: q(i) + q(i-1) + t·q(i) for each t below k(i+1), while theta(i) is not 0
unfoldable pub fine_from : (i p : ℕ) → List Row → List Configuration
fine_from i p [] = []
fine_from i p (r ∷ rs) =
    cond (eqb r.remainder 0) [] (parts_from r.quotient 0 i p r.denominator ++ fine_from (suc i) r.denominator rs)

-- the fine configurations of a and M; where a is 0 the one of a single point
unfoldable pub fine : (M a : ℕ) → List Configuration
fine M a = cond (eqb a 0) (configuration 1 0 0 ∷ []) (fine_from 0 0 (expansion M a))
