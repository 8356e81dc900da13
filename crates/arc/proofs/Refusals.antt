-- A parabola is within the bounds exactly where no number refuses it. Assumes nothing.
use mathlib.Core.Path.{◌≡◌, refl}
use mathlib.Core.Logic.{◌↔◌}
use Prim.Native.Nat.{ℕ, suc}
use native.Mathlib.Omega.{arith}
use Rattle.std.proofs.Common.{Ok, Err}
use Rattle.numbers.specs.Checklist.{conditions, RefusedBy}
use Rattle.numbers.specs.Refusals.{number_of, named, tested}
use Rattle.numbers.specs.declared.refusals.Refusal.{Refusal}
use Rattle.numbers.proofs.Checklists.{AllNumbers, accepts, refuses}
use Rattle.numbers.proofs.Outcomes.{IsNamed, tested_accepted, outcome_refuses}
use Rattle.parabola.specs.Parabola.{Parabola, InRange}
use Rattle.arc.specs.Arc.{checks, refusal}
use Rattle.arc.specs.Promise.{Asked}

pub accepted : (p : Parabola) → (refusal p ≡ 0) ↔ InRange p
unfolding refusal
accepted p = let r = accepts (checks p) (omega arith) in (λ e. let h = r.0 e in omega arith, λ i. r.1 (omega arith))

pub refused : (p : Parabola) (n : ℕ) → (refusal p ≡ suc n) ↔ RefusedBy (Asked p) (suc n)
unfolding refusal
refused p = refuses (checks p)

-- each number of the checklist is that of a refusal
pub all_named : (p : Parabola) → AllNumbers IsNamed (conditions (checks p))
unfolding named
all_named p = (refl, (refl, (refl, (refl, (refl, (refl, tt))))))

pub by_name : (p : Parabola) (r : Refusal) → (tested (refusal p) ≡ Err r) ↔ RefusedBy (Asked p) (number_of r)
unfolding refusal
by_name p r = outcome_refuses (checks p) tt r (all_named p)

-- what is not refused is within the bounds
pub unrefused : (p : Parabola) → tested (refusal p) ≡ Ok tt → InRange p
unrefused p e = (accepted p).0 (tested_accepted (refusal p) e)
