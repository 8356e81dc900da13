-- The cuts of a row: which can be made, and where they move the point below the start. Assumes
-- nothing.
use mathlib.Core.Path.{◌≡◌, refl}
use Rattle.std.proofs.Math.Bool.{or-true}
use Prim.Native.Nat.{ℕ, ◌+◌, ◌-◌, ◌*◌, ◌/◌, ◌%◌, ◌≤◌, ◌<◌}
use native.Mathlib.Nat.{mul-le-mul_right, min-eq_right, min-le_right, mod-eq-sub-div-mul, div-mul-le_self, div-le_of_le-mul, le-div_iff_mul-le}
use native.Mathlib.Omega.{arith}
use borrow.Author.Tests.{le-leb, lt-leb, le-ltb, lt-ltb}
use Rattle.segment.specs.State.{all_cuts, cuts_to, last_cuts, cuts_of, Cuttable, Cutting, Steppable, nearest, advanced_left, highest_cut, advanced_right}
use Rattle.segment.specs.declared.state.State.{State}
use Rattle.segment.specs.declared.state.Cuts.{Cuts}

-- fewer cuts can be made where more can
pub fewer : {i j : ℕ} {s : State} → i ≤ j → Cuttable j s → Cuttable i s
fewer {s = s} h c = omega (arith, mul-le-mul_right s.short h, mul-le-mul_right s.longs h)

-- cuts that can be made, with what belongs to them
pub cutting : {j : ℕ} {s : State} {c : Cuts} → c ≡ cuts_of j s → Cuttable j s → Cutting c s
cutting e a = rw e (record { able = a; rest_is = refl })

-- those that end a fine search are no more than all
pub last_able : {N : ℕ} {s : State} → Steppable N s → Cuttable (last_cuts N s) s
last_able {N} {s} p = fewer (min-le_right (cuts_to N s) (all_cuts s)) p.all

pub last_cutting : {N : ℕ} {s : State} {c : Cuts} → Steppable N s → c ≡ cuts_of (last_cuts N s) s → Cutting c s
last_cutting p e = cutting e (last_able p)

-- ---- where the point below the start goes

module _ (j : ℕ) (s : State) where
  -- as far as the cuts from the left go, where they are as many as there is room for
  pub moved_left : s.distance / s.short ≤ j
      → record { argument = s.argument + s.distance / s.short * s.longs; distance = s.distance % s.short } ≡ advanced_left j s
  unfolding advanced_left
  moved_left h = rw (min-eq_right {n = s.distance / s.short} {m = j} h, mod-eq-sub-div-mul)

  -- a short gap is not cut from the right
  pub short_gap : s.longs ≤ s.argument → nearest s ≡ advanced_right j s
  unfolding advanced_right
  short_gap h = rw (le-leb s.longs s.argument h)

  -- nor is it moved below what is left of a long one
  pub left_alone : {rest : ℕ} → rest ≡ s.long - j * s.short → s.distance < rest → nearest s ≡ advanced_right j s
  unfolding advanced_right
  left_alone r h = rw (lt-ltb s.distance (s.long - j * s.short) (omega arith), or-true)

  module _ (gap : s.argument < s.longs) {rest : ℕ} (r : rest ≡ s.long - j * s.short) where
    -- in a long gap it comes back else to the highest cut that is not above the start
    pub moved : rest ≤ s.distance → highest_cut j s ≡ advanced_right j s
    unfolding advanced_right
    moved h = rw (lt-leb s.longs s.argument gap, le-ltb s.distance (s.long - j * s.short) (omega arith))

  -- that cut by a division
  pub by_division : {rest : ℕ} → rest ≡ s.long - j * s.short
      → record {
        argument = s.argument + (s.shorts + j * s.longs - (s.distance - rest) / s.short * s.longs);
        distance = (s.distance - rest) % s.short;
      } ≡ highest_cut j s
  unfolding highest_cut
  by_division r = rw (r, mod-eq-sub-div-mul)

-- no more cuts are taken back than are made
pub back_few : {c : Cuts} {s : State} {over : ℕ} → Cutting c s → over ≡ s.distance - c.rest
    → over / s.short * s.longs ≤ c.number * s.longs
back_few {c} {s} {over} p e =
    mul-le-mul_right s.longs (div-le_of_le-mul s.short {n = c.number} (omega (arith, p.able, p.rest_is)))

-- all cuts are enough for every move from the left
pub moves_few : {j : ℕ} {s : State} → j ≡ all_cuts s → Cuttable j s → s.distance / s.short ≤ j
moves_few {s = s} e p =
    rw e ((le-div_iff_mul-le p.short_positive).1 (omega (arith, div-mul-le_self s.distance s.short)))
