-- `domain::centred` meets its contract. Assumes nothing.
use Rattle.std.proofs.Common.{arith, rules, ◌≡◌, ◌*◌, ◌-◌, suc, min}
use mir.Facts.{to_z-of_z}
use mir.Syntax.{w64}
use mir.Val.{SFits}
use Rattle.parabola.specs.Parabola.{centred}
use Rattle.domain.proofs.centred.Goals as goal

pub invariant_of-value : goal.invariant_of-value
invariant_of-value c =
    let a = c.requires.searchable in
    record {
      first_below = a.value_below;
      second_below = omega (arith, a.window_low, a.window_high);
      modulus_high = a.unit_within.1;
    }

pub returns-clause-made : goal.returns-clause-made
unfolding centred
returns-clause-made c =
    let a = c.requires.searchable in
    let fits : SFits w64 c.args.domain.curve = search rules in
    let w : suc c.min.result ≡ min c.args.domain.modulus (2 * c.args.domain.window - 1) = omega (arith, c.min.ensures, a.window_low, a.window_high) in
    rw (to_z-of_z fits, c.sum.ensures, w)
