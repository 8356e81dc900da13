-- The line of a segment has its residues for values. Assumes nothing.
use mathlib.Core.Path.{◌≡◌, refl, ap}
use Prim.Native.Nat.{ℕ, ◌*◌, ◌<◌}
use native.Mathlib.Omega.{arith}
use lib.Dec.{ltb}
use Rattle.numbers.proofs.Congruences.{equals, flip, chain, plus, times, cancel, opposite, same}
use Rattle.numbers.proofs.Selections.{filter_same}
use Rattle.geometry.specs.Segment.{Segment, residue}
use Rattle.geometry.specs.Segment as segment
use Rattle.geometry.proofs.Laws.{residue_lt, residue_congruent}
use Rattle.parabola.specs.Parabola.{value_at, is_hard, hard_list, line}
use Rattle.parabola.specs.Promise.{LineCorrect}
use Rattle.parabola.proofs.Values.{value_below, value_congruent}

module _ (s : Segment) (low : s.step < s.unit) where
  positive : 0 < s.unit
  positive = omega arith

  value : (x : ℕ) → value_at (line s) x ≡ residue s x
  value x =
      same (value_below (line s) positive x) (residue_lt s x positive)
      (cancel (s.step * x)
      (chain (plus (chain (equals (omega arith)) (value_congruent (line s) positive x)) (equals {a = s.step * x} refl))
      (chain (equals (omega arith))
      (chain (plus (equals {a = s.start} refl) (times x (opposite low))) (chain (equals (omega arith)) (flip (residue_congruent s x positive)))))))

  lists : hard_list (line s) ≡ segment.hard_list s
  unfolding hard_list segment.hard_list
  lists =
      filter_same (is_hard (line s)) (segment.is_hard s) s.count 0 (λ y l. unfold is_hard segment.is_hard in ap (λ (v : ℕ). ltb v s.window) (value y))

  pub line_correct : LineCorrect s
  line_correct = record { value = value; lists = lists }
