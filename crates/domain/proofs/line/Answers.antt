-- `domain::line` meets its contract. Assumes nothing.
use Rattle.std.proofs.Common.{◌≡◌, ◌+◌, ◌-◌, ◌%◌, ℕ, suc, arith}
use native.Mathlib.Nat.{zero-add}
use lib.IntN.{pos}
use Rattle.segment.specs.Accepted.{asked, Accepted}
use Rattle.parabola.specs.Parabola.{line}
use Rattle.domain.proofs.Answers.{line_in_range}
use Rattle.domain.proofs.line.Goals as goal

made : {M a b N w slope : ℕ} → Accepted (asked M a b N w) → slope ≡ (0 + (M - a)) % M
    → record { unit = M; value = b; slope = slope; curve = pos 0; count = N; window = suc (w - 1) } ≡ line (asked M a b N w)
made {M} {a} {w = w} accepted e =
    let window : suc (w - 1) ≡ w = omega (arith, accepted.window_low) in rw (e, zero-add (M - a), window)

pub invariant_of-opposite : goal.invariant_of-opposite
invariant_of-opposite c =
    let s = c.requires in
    record {
      first_below = omega (arith, s.step_below);
      second_below = omega (arith, s.step_below);
      modulus_high = s.unit_within.1;
    }

pub invariant_of-within : goal.invariant_of-within
invariant_of-within c =
    record { in_range = rw (made c.requires c.difference.ensures) (line_in_range c.requires) }

pub returns-clause-made : goal.returns-clause-made
returns-clause-made c = made c.requires c.difference.ensures
