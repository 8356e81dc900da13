-- A text that begins with a name is that name and the rest, and the other way round.
-- Assumes nothing.
use mathlib.Core.Path.{◌≡◌, refl}
use mathlib.Core.Bool.{true, false≢true}
use mathlib.Core.List.{List, [], ◌∷◌, ◌++◌}
use mathlib.Core.Logic.{⊎_elim}
use mathlib.Mathlib.Data.Bool.Basic.{dichotomy}
use Prim.Native.Nat.{ℕ}
use lib.Dec.{eqb}
use lib.ListN.{length, take, drop}
use lib.Seq.{drop-drop}
use lib.Pointwise.{pointwise}
use borrow.Author.Tests.{eq-eqb, eqb-true}
use Rattle.text.specs.Reading.{starts}

pub starts_itself : (name rest : List ℕ) → starts name (name ++ rest) ≡ true
unfolding starts
starts_itself [] rest = refl
starts_itself (x ∷ xs) rest = rw (eq-eqb x x refl) (starts_itself xs rest)

pub begins : (name t : List ℕ) → starts name t ≡ true → t ≡ name ++ drop (length name) t
unfolding starts
begins [] t h = refl
begins (x ∷ xs) [] h = absurd (false≢true h)
begins (x ∷ xs) (y ∷ ys) h =
    ⊎_elim (λ e. absurd (false≢true (rw e at h))) (λ e. cc (eqb-true y x e, begins xs ys (rw e at h))) (dichotomy (eqb y x))

-- so the library's test of a front tells whether a text begins with a name
pub starts_is : (name t : List ℕ) → pointwise eqb (take (length name) t) name ≡ starts name t
unfolding starts
starts_is [] t = refl
starts_is (x ∷ xs) [] = refl
starts_is (x ∷ xs) (y ∷ ys) = rw (starts_is xs ys) (⊎_elim (λ e. rw e) (λ e. rw e) (dichotomy (eqb y x)))

-- the same of a minus sign
pub minus_is : (t : List ℕ) → pointwise eqb (take 1 t) (45 ∷ []) ≡ starts (45 ∷ []) t
minus_is t = starts_is (45 ∷ []) t

-- and what is behind a name
pub ruleset name_first = (starts_is, drop-drop)
