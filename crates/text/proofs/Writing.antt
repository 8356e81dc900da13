-- Bytes that are written as far as there are places; and pieces that are written one after another.
-- Assumes nothing.
use mathlib.Core.Path.{◌≡◌, refl, sym, ap}
use mathlib.Core.List.{List, [], ◌∷◌, ◌++◌, append-nil}
use Prim.Native.Nat.{ℕ, ◌+◌, ◌-◌, ◌≤◌, min}
use native.Mathlib.Omega.{arith}
use lib.ListN.{length, take, drop, length-drop, length-take}
use lib.Seq.{sets, sets-eq, length-sets}
use Rattle.std.proofs.Common.{take-append-drop, ◌∙◌}
use mathlib.Core.Logic.{by_cases}
use native.Mathlib.Decide.{dec_le}
use Rattle.std.proofs.lemmas.Grind.{common_steps}
use borrow.Rule.Slice.PartMut.{put_mid}
use Rattle.numbers.specs.Lists.{place_after}
use Rattle.numbers.proofs.Buffers.{clip_restate, clip_begin, clip_list, clip_done, clip_full}
use Rattle.text.specs.Text.{line_feed, line}
use Rattle.text.specs.Writing.{Wrote}
use Rattle.text.specs.declared.writer.Writer.{Writer}

-- ---- bytes

-- the bytes that have a place, n of them, are written; nothing is where the place is beyond the
-- end. `first` is `start`, in whatever form the code has it
pub front_written : (bytes old part : List ℕ) (at start first n : ℕ) → start ≡ min at (length old)
    → first ≡ start → n ≡ min (length bytes) (length old - start) → part ≡ take n bytes
    → put_mid first (start + n - first) old part ≡ sets old at bytes
front_written bytes old part at start first n s f m p =
    let l : length (take n bytes) ≡ n = omega (arith, length-take n bytes) in
    let now : put_mid start (start + n - start) old part ≡ sets old start (take n bytes) =
    rw (p, sets-eq (take n bytes) old start (omega arith)) (grind (arith, common_steps)) in
    rw f (now ∙ by_cases (dec_le at (length old))
    (λ h. let same : start ≡ at = omega arith in
    let cut = clip_restate (sym (take-append-drop n bytes)) (clip_begin bytes old at) in
    let front = clip_list (take n bytes) (drop n bytes) cut (the_place h, refl) in
    rw same (clip_full front (omega (arith, length-drop n bytes, length-sets old at (take n bytes)))).1)
    (λ h. let none : n ≡ 0 = omega arith in
    rw none (clip_full (clip_begin bytes old at) (omega arith)).1))
  where
    the_place : at ≤ length old → at + n ≡ place_after at (take n bytes) old
    the_place h = omega (arith, length-take n bytes)

-- ---- one after another

pub wrote_more : {old mid new : Writer} (xs ys : List ℕ) → Wrote old xs mid → Wrote mid ys new → Wrote old (xs ++ ys) new
wrote_more {old} xs ys v w =
    let begun = clip_restate (ap (λ (l : List ℕ). xs ++ l) (sym (append-nil ys))) (clip_begin (xs ++ ys) old.out.now old.at) in
    let done = clip_done (clip_list ys [] (clip_list xs (ys ++ []) begun (v.place, v.bytes)) (w.place, w.bytes)) in
    record { place = done.0; bytes = done.1; same_buffer = w.same_buffer ∙ v.same_buffer }

-- ---- a line

-- a line, by the contracts of the calls that write its name, what follows it, and the line feed
pub line_written : (name written old : List ℕ) (at : ℕ) {named filled new : List ℕ}
    {after_name after_written end : ℕ}
    → (after_name ≡ place_after at name old) × (named ≡ sets old at name)
    → (after_written ≡ place_after after_name written named)
    × (filled ≡ sets named after_name written)
    → (end ≡ place_after after_written (line_feed ∷ []) filled)
    × (new ≡ sets filled after_written (line_feed ∷ []))
    → (end ≡ place_after at (line name written []) old) × (new ≡ sets old at (line name written []))
line_written name written old at n w f =
    let begun = clip_begin (line name written []) old at in
    let named = clip_list name (written ++ line_feed ∷ []) begun n in
    clip_done (clip_list (line_feed ∷ []) [] (clip_list written (line_feed ∷ []) named w) f)
