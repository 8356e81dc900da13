-- A text is read as a job exactly where it is that job's text, with the line of the origin or without, and the job's numbers are in range, line by line; no such text
-- is longer than 193 bytes. Assumes nothing.
use mathlib.Core.Path.{◌≡◌, refl, sym, ap, ap₂, subst, ◌∙◌}
use mathlib.Core.Bool.{Bool, true, false, cond}
use mathlib.Core.List.{List, [], ◌++◌}
use mathlib.Core.Logic.{◌↔◌, ◌⊎◌, inl, inr, by_cases}
use Prim.Native.Nat.{ℕ, suc, ◌+◌, ◌^◌, ◌≤◌, ◌<◌}
use native.Mathlib.Decide.{dec_lt}
use native.Mathlib.Omega.{arith}
use lib.Dec.{ltb}
use lib.IntN.{ℤ, pos, negsuc, nat_abs}
use lib.ListN.{length, get_or, take, drop, length-append, length-drop, drop_of_length-le}
use lib.Seq.{take_all, length-take-le}
use borrow.Author.Tests.{le-ltb, ltb-false}
use Rattle.std.proofs.Common.{Option, Some, None}
use Rattle.std.proofs.lemmas.Option.{none-some}
use Rattle.numbers.proofs.Lists.{after_piece}
use Rattle.domain.specs.declared.Domain.{Domain}
use Rattle.text.specs.Text.{bytes, decimal, signed_decimal, line}
use Rattle.text.specs.Reading.{field_at, signed_field_at}
use Rattle.text.specs.Promise.{LineAt}
use Rattle.text.proofs.Promises.{promised}
use Rattle.job.specs.Reading.{six_lines, rendering, InRange, after_field, after_field, rest_from, lines_from, after_origin, reading}
use Rattle.job.specs.Promise.{ReadingCorrect}
use Rattle.job.proofs.Reports.{line_then}

-- a text is that of a domain: its seven lines, or, where the origin is 0, the last six of them
abbrev TextOf : Domain → (text : List ℕ) → Type 0
TextOf d t = (t ≡ rendering d) ⊎ ((d.origin ≡ 0) × (t ≡ six_lines d))

module _ (t : List ℕ) (d : Domain) where
  -- what is read after the last line: a job, where nothing is left
  abbrev from_end : Domain → (end : ℕ) → Option Domain
  from_end k end = cond (ltb end (length t)) None (Some k)

  -- ---- what is read stands there

  -- where a job is read from a field on, the field's line stands there, and the job is read from its end on
  first : {A C : Type 0} {R : A → Type 0} {written : A → List ℕ} (name : List ℕ) (at : ℕ) (found : Option (A × ℕ)) (next : A → ℕ → Option Domain)
      → ((n : A) (end : ℕ) → (found ≡ Some (n, end)) ↔ (R n × LineAt name (written n) t at end)) → after_field found next ≡ Some d
      → ((n : A) (end : ℕ) → drop at t ≡ line name (written n) (drop end t) → R n → next n end ≡ Some d → C) → C
  first name at (Some (n, end)) next stands e then = let r = (stands n end).0 refl in then n end r.1.text r.0 e
  first name at None next stands e then = absurd (none-some _ e)

  field_first : (name : List ℕ) (at : ℕ) (next : ℕ → ℕ → Option Domain) {C : Type 0} → after_field (field_at name at t) next ≡ Some d
      → ((n end : ℕ) → drop at t ≡ line name (decimal n) (drop end t) → n < 2 ^ 64 → next n end ≡ Some d → C) → C
  field_first name at next = first name at (field_at name at t) next (promised.fields name t at).read

  signed_first : (name : List ℕ) (at : ℕ) (next : ℤ → ℕ → Option Domain) {C : Type 0} → after_field (signed_field_at name at t) next ≡ Some d
      → ((s : ℤ) (end : ℕ) → drop at t ≡ line name (signed_decimal s) (drop end t) → nat_abs s < 2 ^ 63 → next s end ≡ Some d → C) → C
  signed_first name at next = first name at (signed_field_at name at t) next (promised.fields name t at).signed_read

  -- nothing stands after the last line
  nothing_after : (k : Domain) (end : ℕ) → from_end k end ≡ Some d → (k ≡ d) × (drop end t ≡ [])
  nothing_after k end e = go (ltb end (length t)) refl e
    where
      go : (b : Bool) → ltb end (length t) ≡ b → cond b None (Some k) ≡ Some d → (k ≡ d) × (drop end t ≡ [])
      go true b e = absurd (none-some _ e)
      go false b e = (cc, drop_of_length-le t (ltb-false end (length t) b))

  lines_stand : (at origin : ℕ) → origin < 2 ^ 64 → lines_from at origin t ≡ Some d → InRange d × (d.origin ≡ origin) × (drop at t ≡ six_lines d)
  unfolding lines_from rest_from six_lines
  lines_stand at origin origin_fits e =
      field_first (bytes "modulus=") at _ e λ modulus a modulus_line modulus_fits e.
      field_first (bytes "value=") a _ e λ value b value_line value_fits e.
      field_first (bytes "slope=") b _ e λ slope c slope_line slope_fits e.
      signed_first (bytes "curve=") c _ e λ curve f curve_line curve_fits e.
      field_first (bytes "count=") f _ e λ count g count_line count_fits e.
      field_first (bytes "window=") g _ e λ window end window_line window_fits e.
      let k : Domain = record { origin = origin; modulus = modulus; value = value; slope = slope; curve = curve; count = count; window = window } in
      let last = nothing_after k end e in
      subst (λ (i : Domain). InRange i × (i.origin ≡ origin) × (drop at t ≡ six_lines i)) last.0 (
        omega arith,
        refl,
        modulus_line ∙ ap (line (bytes "modulus=") (decimal modulus))
            (value_line ∙ ap (line (bytes "value=") (decimal value))
            (slope_line ∙ ap (line (bytes "slope=") (decimal slope))
            (curve_line ∙ ap (line (bytes "curve=") (signed_decimal curve))
            (count_line ∙ ap (line (bytes "count=") (decimal count))
            (window_line ∙ ap (line (bytes "window=") (decimal window)) last.1))))),
      )

  -- after the line of the origin, or from the first place on
  read_stands : reading t ≡ Some d → InRange d × TextOf d t
  unfolding reading rendering
  read_stands e = go (field_at (bytes "origin=") 0 t) refl e
    where
      go : (f : Option (ℕ × ℕ)) → field_at (bytes "origin=") 0 t ≡ f → after_origin f t ≡ Some d → InRange d × TextOf d t
      go (Some (origin, end)) f e =
          let r = ((promised.fields (bytes "origin=") t 0).read origin end).0 f in
          let s = lines_stand end origin r.0 e in
          (s.0, inl (r.1.text ∙ ap₂ (λ (o : ℕ) (rest : List ℕ). line (bytes "origin=") (decimal o) rest) (sym s.1) s.2))
      go None f e = let s = lines_stand 0 0 (omega arith) e in (s.0, inr (s.1, s.2))

  -- ---- what stands there is read

  -- where a line stands, and what follows it
  line_stands : (name written rest : List ℕ) (at : ℕ) → drop at t ≡ line name written rest
      → (end : ℕ) × (LineAt name written t at end) × (drop end t ≡ rest)
  line_stands name written rest at e =
      let piece = line name written [] in
      let f : drop at t ≡ piece ++ rest = e ∙ line_then name written rest in
      let after : drop (at + length piece) t ≡ rest = after_piece t at piece rest f in
      let within : at + length piece ≤ length t = simp length-append (omega (arith, simp (length-append, length-drop) at (ap length f))) in
      (at + length piece, record { text = e ∙ ap (line name written) (sym after); within = within }, after)

  -- where a field's line stands and a job is read from its end on, the job is read from the field on
  then_read : {A R : Type 0} (name written rest : List ℕ) (at : ℕ) (n : A) (found : Option (A × ℕ)) (next : A → ℕ → Option Domain)
      → ((end : ℕ) → (found ≡ Some (n, end)) ↔ (R × LineAt name written t at end)) → R → drop at t ≡ line name written rest
      → ((end : ℕ) → drop end t ≡ rest → next n end ≡ Some d) → after_field found next ≡ Some d
  then_read name written rest at n found next stands h e then =
      let r = line_stands name written rest at e in rw ((stands r.0).1 (h, r.1)) (then r.0 r.2)

  field_next : (name rest : List ℕ) (at n : ℕ) (next : ℕ → ℕ → Option Domain) → n < 2 ^ 64 → drop at t ≡ line name (decimal n) rest
      → ((end : ℕ) → drop end t ≡ rest → next n end ≡ Some d) → after_field (field_at name at t) next ≡ Some d
  field_next name rest at n next = then_read name (decimal n) rest at n (field_at name at t) next ((promised.fields name t at).read n)

  signed_next : (name rest : List ℕ) (at : ℕ) (s : ℤ) (next : ℤ → ℕ → Option Domain) → nat_abs s < 2 ^ 63
      → drop at t ≡ line name (signed_decimal s) rest → ((end : ℕ) → drop end t ≡ rest → next s end ≡ Some d)
      → after_field (signed_field_at name at t) next ≡ Some d
  signed_next name rest at s next = then_read name (signed_decimal s) rest at s (signed_field_at name at t) next ((promised.fields name t at).signed_read s)

  ends_there : (end : ℕ) → drop end t ≡ [] → from_end d end ≡ Some d
  ends_there end e = rw (le-ltb end (length t) (omega (arith, ap length e, length-drop end t)))

  lines_read : (at : ℕ) → InRange d → drop at t ≡ six_lines d → lines_from at d.origin t ≡ Some d
  unfolding lines_from rest_from six_lines
  lines_read at r e =
      field_next (bytes "modulus=") _ at d.modulus _ r.modulus_fits e λ a e.
      field_next (bytes "value=") _ a d.value _ r.value_fits e λ b e.
      field_next (bytes "slope=") _ b d.slope _ r.slope_fits e λ c e.
      signed_next (bytes "curve=") _ c d.curve _ r.curve_fits e λ f e.
      field_next (bytes "count=") _ f d.count _ r.count_fits e λ g e.
      field_next (bytes "window=") _ g d.window _ r.window_fits e ends_there

  -- no line of an origin stands where the six lines begin
  no_origin : t ≡ six_lines d → field_at (bytes "origin=") 0 t ≡ None
  unfolding six_lines
  no_origin e =
      (promised.fields (bytes "origin=") t 0).malformed.1
      (λ n end h. let first = ap (λ (l : List ℕ). get_or l 0 0) (sym e ∙ h.1.text) in omega (arith, first))

  stands_read : InRange d → TextOf d t → reading t ≡ Some d
  unfolding reading rendering
  stands_read r (inl e) =
      let s = line_stands (bytes "origin=") (decimal d.origin) (six_lines d) 0 e in
      ap (λ (f : Option (ℕ × ℕ)). after_origin f t) (((promised.fields (bytes "origin=") t 0).read d.origin s.0).1 (r.origin_fits, s.1))
      ∙ lines_read s.0 r s.2
  stands_read r (inr e) =
      ap (λ (f : Option (ℕ × ℕ)). after_origin f t) (no_origin e.1) ∙ subst (λ (o : ℕ). lines_from 0 o t ≡ Some d) e.0 (lines_read 0 r e.1)

-- ---- a text that is no job's

no_job : (t : List ℕ) → ((d : Domain) → InRange d → TextOf d t → ⊥) → reading t ≡ None
no_job t none = go (reading t) refl
  where
    go : (r : Option Domain) → reading t ≡ r → r ≡ None
    go (Some d) e = let s = read_stands t d e in absurd (none d s.0 s.1)
    go None e = refl

-- ---- how long a job's text is

twenty_digits : (n : ℕ) → n < 2 ^ 64 → length (decimal n) ≤ 20
twenty_digits n h = (promised.decimals n).few 19 (omega arith)

-- nineteen digits and a minus sign
curve_length : (s : ℤ) → nat_abs s < 2 ^ 63 → length (signed_decimal s) ≤ 20
unfolding signed_decimal
curve_length (pos n) h = twenty_digits n (omega arith)
curve_length (negsuc n) h = omega (arith, (promised.decimals (suc n)).few 18 (omega arith))

six_short : (d : Domain) → InRange d → length (six_lines d) ≤ 165
unfolding six_lines
six_short d r =
    simp length-append
    (omega (
      arith,
      twenty_digits d.modulus r.modulus_fits,
      twenty_digits d.value r.value_fits,
      twenty_digits d.slope r.slope_fits,
      curve_length d.curve r.curve_fits,
      twenty_digits d.count r.count_fits,
      twenty_digits d.window r.window_fits,
    ))

text_short : (d : Domain) (t : List ℕ) → InRange d → TextOf d t → length t ≤ 193
unfolding rendering
text_short d t r (inl e) =
    rw e (simp length-append (omega (arith, twenty_digits d.origin r.origin_fits, six_short d r)))
text_short d t r (inr e) = omega (arith, ap length e.1, six_short d r)

-- a job with the longest text: its largest numbers have twenty digits, and its curve nineteen and a minus sign
abbrev largest : ℕ
largest = 18446744073709551615

abbrev longest_job : Domain
longest_job = record { origin = largest; modulus = largest; value = largest; slope = largest; curve = negsuc 9223372036854775806; count = largest; window = largest }

longest_lines : length (six_lines longest_job) ≡ 165
unfolding six_lines signed_decimal
longest_lines =
    simp length-append
    (omega (
      arith,
      twenty_digits largest (omega arith),
      (promised.decimals largest).many 19 (omega arith),
      (promised.decimals 9223372036854775807).few 18 (omega arith),
      (promised.decimals 9223372036854775807).many 18 (omega arith),
    ))

longest_text : length (rendering longest_job) ≡ 193
unfolding rendering
longest_text =
    simp length-append (omega (arith, longest_lines, twenty_digits largest (omega arith), (promised.decimals largest).many 19 (omega arith)))

-- a text that is longer is no job's
too_long : (t : List ℕ) → 193 < length t → reading t ≡ None
too_long t h = no_job t (λ d r e. omega (arith, text_short d t r e))

front_decides : (t : List ℕ) (n : ℕ) → 194 ≤ n → reading (take n t) ≡ reading t
front_decides t n h =
    by_cases (dec_lt n (length t))
    (λ l. too_long (take n t) (omega (arith, length-take-le n t (omega arith))) ∙ sym (too_long t (omega arith)))
    (λ l. ap reading (take_all n t (omega arith)))

-- ---- all of it

pub reading_correct : ReadingCorrect
reading_correct =
    record {
      read = λ t d. (read_stands t d, λ p. stands_read t d p.0 p.1);
      malformed = λ t. (λ e d r s. none-some _ (sym e ∙ stands_read t d r s), no_job t);
      both = λ d r z. (stands_read (rendering d) d r (inl refl), stands_read (six_lines d) d r (inr (z, refl)));
      numbers = λ d. (refl, refl);
      short = λ t d e. let s = read_stands t d e in text_short d t s.0 s.1;
      six_short = six_short;
      longest_text = (longest_job, omega arith, longest_text, longest_lines);
      front_decides = front_decides;
    }
