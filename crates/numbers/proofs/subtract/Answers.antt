-- `numbers::subtract` meets its contract. Assumes nothing.
use Rattle.std.proofs.Common.{◌<◌, ◌≤◌, arith}
use Rattle.numbers.proofs.Remainders.{subtracted_within, subtracted_around}
use Rattle.numbers.proofs.subtract.Goals as goal

pub returns-then-b-a : goal.returns-then-b-a
returns-then-b-a c =
    let within : c.min-b.result ≤ c.reduce-a.result = omega (arith, c.if-b-a.true) in
    omega (arith, subtracted_within _ _ _ c.reduce-a.ensures c.min-b.ensures within)

pub returns : goal.returns
returns c =
    let around : c.reduce-a.result < c.min-b.result = omega (arith, c.if-b-a.false) in
    omega (arith, subtracted_around _ _ _ c.reduce-a.ensures c.min-b.ensures around)
