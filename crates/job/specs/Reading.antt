-- The text of a job, and how it is read. Assumes nothing: these are definitions.
use Rattle.std.specs.Prelude.{cond, Option, Some, None, List, [], ℕ, ◌^◌, ◌<◌, ltb, nat_abs, length}
use Rattle.domain.specs.declared.Domain.{Domain}
use Rattle.text.specs.Text.{bytes, decimal, signed_decimal, line}
use Rattle.text.specs.Reading.{field_at, signed_field_at}

-- the six lines that every job has, in fixed order
unfoldable pub six_lines : Domain → List ℕ
six_lines d =
    line (bytes "modulus=") (decimal d.modulus)
    (line (bytes "value=") (decimal d.value)
    (line (bytes "slope=") (decimal d.slope)
    (line (bytes "curve=") (signed_decimal d.curve)
    (line (bytes "count=") (decimal d.count)
    (line (bytes "window=") (decimal d.window) [])))))

-- the text of a domain, seven lines: that of its origin, and these
unfoldable pub rendering : Domain → List ℕ
rendering d = line (bytes "origin=") (decimal d.origin) (six_lines d)

-- numbers that a text may name: below 2^64, and the size of the curve below 2^63
pub record InRange (d : Domain) : Type 0 where
  pub origin_fits : d.origin < 2 ^ 64
  pub modulus_fits : d.modulus < 2 ^ 64
  pub value_fits : d.value < 2 ^ 64
  pub slope_fits : d.slope < 2 ^ 64
  pub curve_fits : nat_abs d.curve < 2 ^ 63
  pub count_fits : d.count < 2 ^ 64
  pub window_fits : d.window < 2 ^ 64

-- ---- reading

-- what is read where a field was found, from its number and the place after it
abbrev pub after_field : {A : Type 0} → Option (A × ℕ) → (A → ℕ → Option Domain) → Option Domain
after_field (Some (n, end)) next = next n end
after_field None next = None

-- the last three fields from a place on, and nothing after them
unfoldable pub rest_from : (at origin modulus value slope : ℕ) → (text : List ℕ) → Option Domain
rest_from at origin modulus value slope t =
    after_field (signed_field_at (bytes "curve=") at t) (λ curve a.
    after_field (field_at (bytes "count=") a t) (λ count b.
    after_field (field_at (bytes "window=") b t) (λ window end.
    cond (ltb end (length t)) None
    (Some (record { origin = origin; modulus = modulus; value = value; slope = slope; curve = curve; count = count; window = window })))))

-- six fields from a place on, in fixed order
unfoldable pub lines_from : (at origin : ℕ) → (text : List ℕ) → Option Domain
lines_from at origin t =
    after_field (field_at (bytes "modulus=") at t) (λ modulus a.
    after_field (field_at (bytes "value=") a t) (λ value b.
    after_field (field_at (bytes "slope=") b t) (λ slope c. rest_from c origin modulus value slope t)))

-- the other fields, after that of the origin where it was found, and else from the first place on with origin 0
abbrev pub after_origin : Option (ℕ × ℕ) → (text : List ℕ) → Option Domain
after_origin (Some (origin, end)) t = lines_from end origin t
after_origin None t = lines_from 0 0 t

unfoldable pub reading : (text : List ℕ) → Option Domain
reading t = after_origin (field_at (bytes "origin=") 0 t) t

-- the number of a reading's refusal; 0 where there is none
abbrev pub reading_refusal : Option Domain → ℕ
reading_refusal (Some d) = 0
reading_refusal None = 8
