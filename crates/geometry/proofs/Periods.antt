-- Residues beside the period: that they come again after it, that those below it are all different, and that each residue is one of an argument
-- below it. Assumes nothing.
use mathlib.Core.Path.{◌≡◌, sym, ◌∙◌, ap}
use Prim.Native.Nat.{ℕ, ◌+◌, ◌-◌, ◌*◌, ◌/◌, ◌%◌, ◌<◌}
use native.Mathlib.Nat.{mod-eq_of_lt, div-add-mod', dvd-mul_left}
use native.Mathlib.Omega.{arith}
use Rattle.numbers.proofs.Congruences.{same_remainder}
use Rattle.expansion.specs.Rows.{period}
use Rattle.expansion.specs.Promise.{PeriodCorrect}
use Rattle.expansion.proofs.Promises.{promised}
use Rattle.geometry.specs.Segment.{Segment, residue}
use Rattle.geometry.specs.TwoLength.{multiple_mod}
use Rattle.geometry.specs.Promise.{ResiduesCorrect}
use Rattle.geometry.proofs.Residues.{residue_lt, residue_congruent, residue_same, residue_again}

module _ (s : Segment) (below : s.step < s.unit) where
  positive : 0 < s.unit
  positive = omega arith

  of_period : PeriodCorrect s.unit s.step
  of_period = promised.period s.unit s.step below

  congruent : s.start < s.unit → (x : ℕ) → (residue s x + s.step * x) % s.unit ≡ s.start
  congruent h x = same_remainder (residue_congruent s x positive) ∙ mod-eq_of_lt h

  repeats : (x : ℕ) → residue s (x + period s.unit s.step) ≡ residue s x
  repeats x = residue_again s (x + period s.unit s.step) x (unfold multiple_mod in of_period.repeats x)

  not_before : (x y : ℕ) → 0 < y → y < period s.unit s.step → residue s (x + y) ≡ residue s x → ⊥
  not_before x y h l e = of_period.not_before x y h l (unfold multiple_mod in residue_same s (x + y) x positive e)

  pub residues_correct : s.start < s.unit → ResiduesCorrect s
  residues_correct h =
      record { in_range = λ x. residue_lt s x positive; congruent = congruent h; repeats = repeats; not_before = not_before }

  -- two arguments below the period have different residues
  pub distinct : (x y : ℕ) → x < y → y < period s.unit s.step → residue s y ≡ residue s x → ⊥
  distinct x y l h e =
      let w : x + (y - x) ≡ y = omega arith in
      not_before x (y - x) (omega arith) (omega arith) (ap (residue s) w ∙ e)

  -- an argument has the residue of its remainder by the period
  pub residue_of_remainder : (x : ℕ) → residue s (x % period s.unit s.step) ≡ residue s x
  residue_of_remainder x =
      let P = period s.unit s.step in
      let w : x % P + x / P * P ≡ x = omega (arith, div-add-mod' x P) in
      sym
      (residue_again s x (x % P)
      (ap (multiple_mod s.unit s.step) (sym w) ∙ (unfold multiple_mod in (of_period.agree (x % P) (x / P * P)).1 (dvd-mul_left P (x / P)))))
