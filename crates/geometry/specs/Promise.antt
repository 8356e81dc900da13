-- What is promised of residues and hard arguments, with the letters of document 01: M the unit, a the step, b the start, P the period. proofs/Promises.antt proves
-- `Promised`. Assumes nothing: these are statements.
use Rattle.std.specs.Prelude.{◌≡◌, ℕ, ◌+◌, ◌*◌, ◌%◌, ◌≤◌, ◌<◌, ltb}
use Rattle.numbers.specs.Lists.{count_if}
use Rattle.numbers.specs.Promise.{Enumerates}
use Rattle.expansion.specs.Rows.{period}
use Rattle.geometry.specs.Segment.{Segment, residue, Hard, hard_list}

-- the residue is the number from 0 to M - 1 that differs from b - a·x by a multiple of M; after P arguments residues come again, and not before
pub record ResiduesCorrect (s : Segment) : Type 0 where
  pub in_range : (x : ℕ) → residue s x < s.unit
  pub congruent : (x : ℕ) → (residue s x + s.step * x) % s.unit ≡ s.start
  pub repeats : (x : ℕ) → residue s (x + period s.unit s.step) ≡ residue s x
  pub not_before : (x y : ℕ) → 0 < y → y < period s.unit s.step → residue s (x + y) ≡ residue s x → ⊥

pub record Promised : Type 0 where
  pub residues : (s : Segment) → s.step < s.unit → s.start < s.unit → ResiduesCorrect s
  pub hard_lists : (s : Segment) → s.count ≤ 1048576 → Enumerates (Hard s) (count_if (λ x. ltb (residue s x) s.window) s.count 0) (hard_list s)
