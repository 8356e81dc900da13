-- Lines that are written one after another. Assumes nothing.
use mathlib.Core.Path.{◌≡◌, refl}
use mathlib.Core.List.{List, [], ◌∷◌, ◌++◌, append_assoc}
use mathlib.Core.Logic.{◌⊎◌, inl, inr}
use Prim.Native.Nat.{ℕ, ◌+◌, ◌≤◌, ◌<◌}
use native.Mathlib.Omega.{arith}
use lib.ListN.{length, get_or, take}
use Rattle.std.proofs.lemmas.List.{take_more, map-append}
use Rattle.domain.specs.Marks.{mark_number, mark_numbers}
use Rattle.domain.specs.declared.marks.Mark.{Mark}
use Rattle.domain.specs.declared.marks.Mark.TheVariants.{Unseen, Clear, Possible, Empty}
use Rattle.text.specs.Text.{bytes, digit, decimal, line}
use Rattle.job.specs.Output.{mark_digits, argument_lines}

-- a line and what follows it
pub line_then : (name written rest : List ℕ) → line name written rest ≡ line name written [] ++ rest
line_then name written rest = simp append_assoc

-- one mark more
pub marks_more : (marks : List Mark) (i : ℕ) → i < length marks
    → mark_digits (mark_numbers (take (i + 1) marks)) ≡ mark_digits (mark_numbers (take i marks)) ++ digit (mark_number (get_or marks i Unseen)) ∷ []
marks_more marks i h = rw (take_more marks i Unseen h, map-append, map-append)

-- a mark is one digit
pub small_mark : (m : Mark) → mark_number m ≤ 3
small_mark = elim [ Unseen ↦ omega arith | Clear ↦ omega arith | Possible ↦ omega arith | Empty ↦ omega arith ]

-- the line of an argument and its value, and what follows it
pub argument_then : (x v : ℕ) (xs vs : List ℕ) → argument_lines (x ∷ xs) (v ∷ vs)
    ≡ (bytes "argument=" ++ (decimal x ++ line (bytes " value=") (decimal v) [])) ++ argument_lines xs vs
unfolding argument_lines
argument_then x v xs vs = simp append_assoc

-- no argument is left, or no value
pub no_lines : (xs vs : List ℕ) → (xs ≡ []) ⊎ (vs ≡ []) → argument_lines xs vs ≡ []
unfolding argument_lines
no_lines [] vs e = refl
no_lines (x ∷ xs) [] e = refl
no_lines (x ∷ xs) (v ∷ vs) (inl e) = cc
no_lines (x ∷ xs) (v ∷ vs) (inr e) = cc
