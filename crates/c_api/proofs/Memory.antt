-- What is returned and left in memory after a refusal and after an answer. Assumes nothing.
use Rattle.std.proofs.Common.{◌≡◌, ℕ, suc, Result, Ok, Err, refl, arith}
use Rattle.numbers.specs.Refusals.{number_of, number_in}
use Rattle.numbers.specs.declared.refusals.Refusal.{Refusal}
use Rattle.c_api.specs.Memory.{handed}

module _ {A B : Type 0} (over : A → B) {r : Result A Refusal} (old : B) where
  pub refused : {e : Refusal} → r ≡ Err e → (number_of e ≡ number_in r) × (old ≡ handed over r old)
  refused e = rw e (refl, refl)

  pub shown : {a : A} → r ≡ Ok a → (0 ≡ number_in r) × (over a ≡ handed over r old)
  shown e = rw e (refl, refl)

-- what has a number leaves the memory as it was
pub unchanged : {A B : Type 0} (over : A → B) (r : Result A Refusal) (old : B) {n : ℕ} → number_in r ≡ suc n → handed over r old ≡ old
unchanged over (Ok a) old e = absurd (omega (arith, e))
unchanged over (Err e) old h = refl
