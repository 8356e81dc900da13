-- `numbers::remainder` meets its contract. Assumes nothing.
use Rattle.numbers.proofs.Signed.{remainder_zero, remainder_negative, remainder_kept}
use Rattle.numbers.proofs.remainder.Goals as goal

pub returns-then-modulus-eq0 : goal.returns-then-modulus-eq0
returns-then-modulus-eq0 c = remainder_zero c.ranges.number c.if-number-lt0.true c.if-modulus-eq0.true

pub returns-then-number-lt0 : goal.returns-then-number-lt0
returns-then-number-lt0 c = rw c.reduce.ensures (remainder_negative c.ranges.number _ c.if-number-lt0.true)

pub returns : goal.returns
returns c = rw c.reduce-2.ensures (remainder_kept c.ranges.number _ c.if-number-lt0.false)
