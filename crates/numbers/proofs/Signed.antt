-- Signed numbers as the machine reads them back from their bits: what is below 0, and what is left without the sign. Assumes nothing.
use mathlib.Core.Path.{◌≡◌, refl, sym, ◌∙◌, subst}
use mathlib.Core.Bool.{true, false}
use Prim.Native.Nat.{ℕ, zero, suc, ◌-◌, ◌*◌, ◌%◌, ◌≤◌, ◌<◌}
use native.Mathlib.Omega.{arith}
use lib.Dec.{T, leb-suc-zero}
use lib.IntN.{ℤ, pos, negsuc, neg_ℤ, ◌-ℤ◌, ◌*ℤ◌, nat_abs}
use lib.Signed.{lt_z, non_neg}
use mir.Facts.{to_z-of_z, to_z_pos}
use mir.Syntax.{w64}
use mir.Val.{Fits, SFits, to_z, of_z}
use Rattle.numbers.specs.Integers.{◌modulo◌}
use Rattle.numbers.proofs.Integers.{number, sum, same_integer}

-- the number that is read back
abbrev pub read : ℤ → ℤ
read s = to_z w64 (of_z w64 s)

-- -1 - s, where s is negative, is one less than s without its sign
complement : (s : ℤ) → lt_z s (pos 0) ≡ true → negsuc 0 -ℤ s ≡ pos (nat_abs s - 1)
complement (pos n) e = absurd (subst T (sym e ∙ leb-suc-zero n) tt)
complement (negsuc n) e =
    same_integer (sum {z = negsuc 0} {a = 0} {b = 1} (record { balance = refl }) (number (suc n))) (number (nat_abs (negsuc n) - 1)) (omega arith)

-- it fits, and s has a size
complement_small : (s : ℤ) → lt_z s (pos 0) ≡ true → SFits w64 s → (1 ≤ nat_abs s) × SFits w64 (pos (nat_abs s - 1))
complement_small (pos n) e fits = absurd (subst T (sym e ∙ leb-suc-zero n) tt)
complement_small (negsuc n) e fits = (omega arith, record { sfits = omega (arith, fits.sfits) })

kept : (s : ℤ) → lt_z s (pos 0) ≡ false → s ≡ pos (nat_abs s)
kept (pos n) e = refl
kept (negsuc n) e = absurd (subst T e tt)

-- what the machine makes of a number that fits
module _ {s : ℤ} (fits : SFits w64 s) where
  module _ (negative : lt_z (read s) (pos 0) ≡ true) where
    below : lt_z s (pos 0) ≡ true
    below = rw (to_z-of_z fits) at negative

    pub size_positive : 1 ≤ nat_abs s
    size_positive = (complement_small s below fits).0

    pub complement_fits : SFits w64 (negsuc 0 -ℤ read s)
    complement_fits = rw (to_z-of_z fits, complement s below) (complement_small s below fits).1

    pub complement_read : read (negsuc 0 -ℤ read s) ≡ pos (nat_abs s - 1)
    complement_read = to_z-of_z complement_fits ∙ rw (to_z-of_z fits) (complement s below)

    pub complement_most : nat_abs (read (negsuc 0 -ℤ read s)) < 9223372036854775808
    complement_most = rw complement_read (complement_small s below fits).1.sfits

    pub complement_casts : T (non_neg (read (negsuc 0 -ℤ read s))) × Fits w64 (nat_abs (read (negsuc 0 -ℤ read s)))
    complement_casts = (rw complement_read tt, record { fits = omega (arith, complement_most) })

  module _ (not_negative : lt_z (read s) (pos 0) ≡ false) where
    above : lt_z s (pos 0) ≡ false
    above = rw (to_z-of_z fits) at not_negative

    pub kept_casts : T (non_neg (read s)) × Fits w64 (nat_abs (read s))
    kept_casts = rw (to_z-of_z fits) (by s fits above)
      where
        by : (s : ℤ) → SFits w64 s → lt_z s (pos 0) ≡ false → T (non_neg s) × Fits w64 (nat_abs s)
        by (pos n) f e = (tt, record { fits = omega (arith, f.sfits) })
        by (negsuc n) f e = absurd (subst T e tt)

  -- the remainder of a negative number counts down from the modulus
  pub remainder_negative : (M : ℕ) → lt_z (read s) (pos 0) ≡ true → M - 1 - nat_abs (read (negsuc 0 -ℤ read s)) % M ≡ s modulo M
  remainder_negative M e = rw (complement_read e) (by s (below e))
    where
      by : (s : ℤ) → lt_z s (pos 0) ≡ true → M - 1 - (nat_abs s - 1) % M ≡ s modulo M
      by (pos n) e = absurd (subst T (sym e ∙ leb-suc-zero n) tt)
      by (negsuc n) e =
          unfold ◌modulo◌ in
          let k : nat_abs (negsuc n) - 1 ≡ n = omega arith in
          rw k (omega arith)

  pub remainder_zero : {M : ℕ} → lt_z (read s) (pos 0) ≡ true → M ≡ 0 → 0 ≡ s modulo M
  remainder_zero {M} e z = by s (below e)
    where
      by : (s : ℤ) → lt_z s (pos 0) ≡ true → 0 ≡ s modulo M
      by (pos n) e = absurd (subst T (sym e ∙ leb-suc-zero n) tt)
      by (negsuc n) e = unfold ◌modulo◌ in omega (arith, z)

  pub remainder_kept : (M : ℕ) → lt_z (read s) (pos 0) ≡ false → nat_abs (read s) % M ≡ s modulo M
  remainder_kept M e = rw (to_z-of_z fits) (by s (above e))
    where
      by : (s : ℤ) → lt_z s (pos 0) ≡ false → nat_abs s % M ≡ s modulo M
      by (pos n) e = unfold ◌modulo◌ in refl
      by (negsuc n) e = absurd (subst T e tt)

-- ---- products

small_fits : (z : ℤ) → nat_abs z < 9223372036854775808 → SFits w64 z
small_fits (pos n) h = record { sfits = h }
small_fits (negsuc n) h = record { sfits = omega arith }

product_size : (s : ℤ) (y : ℕ) → nat_abs (s *ℤ pos y) ≡ nat_abs s * y
product_size (pos n) y = refl
product_size (negsuc n) y = by (suc n * y)
  where
    by : (k : ℕ) → nat_abs (neg_ℤ (pos k)) ≡ k
    by zero = refl
    by (suc k) = refl

-- a curve times a number, where neither is large
module _ (s : ℤ) (y : ℕ) (size : nat_abs s ≤ 1048576) (most : nat_abs s * y ≤ 576460752303423488) (low : y ≤ 549755813888) where
  factors : read s *ℤ to_z w64 y ≡ s *ℤ pos y
  factors = rw (to_z-of_z (small_fits s (omega arith)), to_z_pos w64 {n = y} (omega arith))

  pub product_fits : SFits w64 (read s *ℤ to_z w64 y)
  product_fits = rw factors (small_fits (s *ℤ pos y) (omega (arith, product_size s y)))

  pub product_read : read (read s *ℤ to_z w64 y) ≡ s *ℤ pos y
  product_read = to_z-of_z product_fits ∙ factors

-- a curve is read as it is
pub curve_read : (s : ℤ) → nat_abs s ≤ 1048576 → read s ≡ s
curve_read s h = to_z-of_z (small_fits s (omega arith))
