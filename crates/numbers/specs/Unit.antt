-- Which units (document 01: moduli) the calls accept. Assumes nothing: these are definitions.
use Rattle.std.proofs.Math.Logic.Dec
use Rattle.std.specs.Prelude.{ℕ, ◌^◌, ◌≤◌}
use Rattle.std.proofs.Math.Decide.{dec_le}

-- from 2 to 2^62
abbrev pub Ranged : (unit : ℕ) → Type 0
Ranged u = (2 ≤ u) × (u ≤ 2 ^ 62)

unfoldable pub ranged : (unit : ℕ) → Dec (Ranged unit)
unfolding dec_le Dec.and
ranged u = Dec.and (dec_le 2 u) (dec_le u (2 ^ 62))
