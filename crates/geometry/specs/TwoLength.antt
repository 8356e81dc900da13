-- Two-length configurations (000, Property 1): the points a·z mod M, z below u + v, on a circle of length M. The gap above z is p long where z is
-- below v, up to z + u, and q long where not, up to z - v. Assumes nothing: these are definitions.
use Rattle.std.specs.Prelude.{◌≡◌, Bool, true, false, ℕ, ◌+◌, ◌*◌, ◌%◌, ◌≤◌, ◌<◌}
use Rattle.geometry.specs.Segment.{Segment, residue}

-- a·z mod M
unfoldable pub multiple_mod : (M a z : ℕ) → ℕ
multiple_mod M a z = a * z % M

-- u leads p up and v leads q down; of the arguments below u + v, none but 0 leads less than p up, and none less than q down
pub record TwoLength (M a u v p q : ℕ) : Type 0 where
  pub at_u : multiple_mod M a u ≡ p
  pub at_v : multiple_mod M a v + q ≡ M
  pub whole : u * q + v * p ≡ M
  pub positive_u : 0 < u
  pub positive_p : 0 < p
  pub positive_q : 0 < q
  pub low : (z : ℕ) → 0 < z → z < u + v → p ≤ multiple_mod M a z
  pub high : (z : ℕ) → z < u + v → multiple_mod M a z + q ≤ M

-- the same in one form for even and odd rows: `longs` gaps of length `long` and `shorts` of length `short`
pub data Lengths (M a : ℕ) : (odd : Bool) (long short longs shorts : ℕ) → Type 0 where
  even_row : {long short longs shorts : ℕ} → TwoLength M a longs shorts short long → Lengths M a false long short longs shorts
  odd_row : {long short longs shorts : ℕ} → TwoLength M a shorts longs long short → Lengths M a true long short longs shorts

-- the start lies in the gap above x, a point below the count u + v: the gap is p long where x is below v, q long where not
pub record InGap (s : Segment) (u v p q x : ℕ) : Type 0 where
  pub below : x < u + v
  pub left : x < v → residue s x < p
  pub right : v ≤ x → residue s x < q

abbrev pub InGapOf : Segment → (odd : Bool) → (long short longs shorts x : ℕ) → Type 0
InGapOf s false long short longs shorts x = InGap s longs shorts short long x
InGapOf s true long short longs shorts x = InGap s shorts longs long short x

-- where a search stands: a configuration, the point below the start, and that point's residue
pub record Position (s : Segment) (odd : Bool) (long short longs shorts x d : ℕ) : Type 0 where
  pub lengths : Lengths s.unit s.step odd long short longs shorts
  pub gap : InGapOf s odd long short longs shorts x
  pub shows : d ≡ residue s x

-- the argument below a count whose residue is less than that of every other
pub record Least (s : Segment) (n x : ℕ) : Type 0 where
  pub below : x < n
  pub unique : (y : ℕ) → y < n → (y ≡ x → ⊥) → residue s x < residue s y
