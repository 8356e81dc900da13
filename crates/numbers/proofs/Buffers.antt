-- A buffer that is written piece by piece: what is there, and what is still to come, make the goal. Also one that is written from the last place down.
-- Assumes nothing.
use mathlib.Core.Path.{◌≡◌, refl, sym, ◌∙◌, ap, subst}
use mathlib.Core.List.{List, [], ◌∷◌, ◌++◌}
use mathlib.Core.Logic.{by_cases}
use Prim.Native.Nat.{ℕ, suc, ◌+◌, ◌-◌, ◌≤◌, ◌<◌, min, max}
use native.Mathlib.Nat.{zero-add, add-zero, add-suc, suc-add}
use native.Mathlib.Numerals.{add-one}
use native.Mathlib.Decide.{dec_le, ℕ_discrete}
use native.Mathlib.Omega.{arith}
use lib.ListN.{length, get_or, set, take, drop, replicate, length-append, length-drop, length-replicate, length-set, get_or-append}
use lib.Seq.{set_out, sets, sets-eq, length-sets, get_or-append-add, get_or-drop, get_or-set_same, get_or-set_other, ext_get_or, take-append_seam}
use Rattle.numbers.specs.Lists.{zero_padded, overwrite_front, place_after}
use Rattle.numbers.specs.Promise.{BufferCorrect}
use Rattle.numbers.proofs.Lists.{Ascending, no_entries, drop_replicate}

-- the list `goal` goes into the buffer `old` from the place `from` on; of it `rest` is still to be written into the buffer `now`, from the place
-- `at` on
pub record Writing (goal old : List ℕ) (from : ℕ) (rest now : List ℕ) (at : ℕ) : Type 0 where
  pub to_come : sets now at rest ≡ sets old from goal
  pub place : at + length rest ≡ from + length goal
  pub length_kept : length now ≡ length old

-- nothing is written yet
pub begin : (goal old : List ℕ) (from : ℕ) → Writing goal old from goal old from
begin goal old from = record { to_come = refl; place = refl; length_kept = refl }

-- one list written after another
written_after : (xs ys l : List ℕ) (i : ℕ) → sets l i (xs ++ ys) ≡ sets (sets l i xs) (i + length xs) ys
written_after [] ys l i = rw add-zero
written_after (x ∷ xs) ys l i = written_after xs ys (set l i x) (suc i) ∙ rw (add-suc, suc-add)

module _ {goal old : List ℕ} {from : ℕ} {now : List ℕ} {at : ℕ} where
  -- the same with what is still to come in another form
  pub restate : {rest rest' : List ℕ} → rest ≡ rest' → Writing goal old from rest now at → Writing goal old from rest' now at
  restate e w = rw e at w

  -- an entry is written
  pub write_one : {x : ℕ} {rest : List ℕ} → Writing goal old from (x ∷ rest) now at → Writing goal old from rest (set now at x) (at + 1)
  write_one {x} w =
      record {
        to_come = rw (add-one at) w.to_come;
        place = omega (arith, w.place);
        length_kept = length-set now at x ∙ w.length_kept;
      }

  -- a list is written, as a function says that answers the place after it
  pub write_list : (xs rest : List ℕ) {now' : List ℕ} {at' : ℕ} → Writing goal old from (xs ++ rest) now at
      → (at' ≡ at + length xs) × (now' ≡ sets now at xs) → Writing goal old from rest now' at'
  write_list xs rest w e =
      rw (e.0, e.1)
      (record {
        to_come = sym (written_after xs rest now at) ∙ w.to_come;
        place = omega (arith, w.place, length-append xs rest);
        length_kept = length-sets now at xs ∙ w.length_kept;
      })

  -- nothing is left
  pub done : Writing goal old from [] now at → (at ≡ from + length goal) × (now ≡ sets old from goal)
  done w = (omega (arith, w.place), w.to_come)

  -- there is room for what is left
  pub room : {rest : List ℕ} → Writing goal old from rest now at → from + length goal ≤ length old → at + length rest ≤ length now
  room w h = omega (arith, w.place, w.length_kept)

-- ---- from the last place down

-- a buffer has what the goal has, from a place on
pub record AgreesFrom (goal now : List ℕ) (place : ℕ) : Type 0 where
  pub length_same : length now ≡ length goal
  pub agrees : (i : ℕ) → place ≤ i → get_or now i 0 ≡ get_or goal i 0

-- an entry is written before them
pub write_before : {goal now : List ℕ} {place x : ℕ} → AgreesFrom goal now (suc place) → place < length goal → x ≡ get_or goal place 0
    → AgreesFrom goal (set now place x) place
write_before {goal} {now} {place} {x} w h e =
    record {
      length_same = length-set now place x ∙ w.length_same;
      agrees = λ i l. by_cases (ℕ_discrete i place) (here i) (λ n. get_or-set_other now place i x 0 n ∙ w.agrees i (omega arith));
    }
  where
    here : (i : ℕ) → i ≡ place → get_or (set now place x) i 0 ≡ get_or goal i 0
    here i f = rw f (get_or-set_same now place x 0 (omega (arith, w.length_same)) ∙ e)

-- all of it is written
pub all_written : {goal now : List ℕ} → AgreesFrom goal now 0 → now ≡ goal
all_written {goal} {now} w = ext_get_or 0 now goal w.length_same (λ i l. w.agrees i (omega arith))

-- ---- as far as there are places

-- the same where what has no place is left out
pub record Clipped (goal old : List ℕ) (from : ℕ) (rest now : List ℕ) (at : ℕ) : Type 0 where
  pub to_come : sets now at rest ≡ sets old from goal
  pub place : place_after at rest now ≡ place_after from goal old

pub clip_restate : {goal old : List ℕ} {from : ℕ} {rest rest' now : List ℕ} {at : ℕ} → rest ≡ rest' → Clipped goal old from rest now at
    → Clipped goal old from rest' now at
clip_restate e w = rw e at w

pub clip_begin : (goal old : List ℕ) (from : ℕ) → Clipped goal old from goal old from
clip_begin goal old from = record { to_come = refl; place = refl }

-- beyond the last place nothing is written
sets_out : (xs l : List ℕ) (i : ℕ) → length l ≤ i → sets l i xs ≡ l
sets_out [] l i h = refl
sets_out (x ∷ xs) l i h = sets_out xs (set l i x) (suc i) (omega (arith, length-set l i x)) ∙ set_out l i x h

-- so that the next list may begin at the last place or at where it would have begun
clipped_after : (xs ys l : List ℕ) (i : ℕ) → sets l i (xs ++ ys) ≡ sets (sets l i xs) (place_after i xs l) ys
clipped_after xs ys l i =
    let k = length-sets l i xs in
    written_after xs ys l i
    ∙ by_cases (dec_le (i + length xs) (max i (length l))) (λ h. ap (λ (j : ℕ). sets (sets l i xs) j ys) (omega arith))
    (λ h. sets_out ys (sets l i xs) (i + length xs) (omega arith) ∙ sym (sets_out ys (sets l i xs) (place_after i xs l) (omega arith)))

place_twice : (i m n l : ℕ) → min (min (i + m) (max i l) + n) (max (min (i + m) (max i l)) l) ≡ min (i + (m + n)) (max i l)
place_twice i m n l = omega arith

place_after_both : (xs ys l : List ℕ) (i : ℕ) → place_after (place_after i xs l) ys (sets l i xs) ≡ place_after i (xs ++ ys) l
place_after_both xs ys l i = rw (length-sets l i xs, length-append xs ys) (place_twice i (length xs) (length ys) (length l))

-- a list is written, as a function says that answers the place after it
pub clip_list : (xs rest : List ℕ) {goal old : List ℕ} {from : ℕ} {now now' : List ℕ} {at at' : ℕ} → Clipped goal old from (xs ++ rest) now at
    → (at' ≡ place_after at xs now) × (now' ≡ sets now at xs) → Clipped goal old from rest now' at'
clip_list xs rest {now = now} {at = at} w e =
    rw (e.0, e.1)
    (record {
      to_come = sym (clipped_after xs rest now at) ∙ w.to_come;
      place = place_after_both xs rest now at ∙ w.place;
    })

-- an entry is written at a place that there is
pub clip_one : {goal old : List ℕ} {from x : ℕ} {rest now : List ℕ} {at : ℕ} → Clipped goal old from (x ∷ rest) now at → at < length now
    → Clipped goal old from rest (set now at x) (at + 1)
clip_one {x = x} {rest = rest} w h = clip_list (x ∷ []) rest w (omega arith, refl)

-- nothing is left
pub clip_done : {goal old : List ℕ} {from : ℕ} {now : List ℕ} {at : ℕ} → Clipped goal old from [] now at → (at ≡ place_after from goal old) × (now ≡ sets old from goal)
clip_done w = (omega (arith, w.place), w.to_come)

-- nothing is left that has a place
pub clip_full : {goal old : List ℕ} {from : ℕ} {rest now : List ℕ} {at : ℕ} → Clipped goal old from rest now at → min (length rest) (length now - at) ≡ 0
    → (at ≡ place_after from goal old) × (now ≡ sets old from goal)
clip_full {rest = rest} {now = now} {at = at} w h =
    by_cases (dec_le (length now) at) (λ l. (omega (arith, w.place), sym (sets_out rest now at l) ∙ w.to_come))
    (λ l. clip_done (clip_restate (no_entries rest (omega arith)) w))

pub clip_length : {goal old : List ℕ} {from : ℕ} {rest now : List ℕ} {at : ℕ} → Clipped goal old from rest now at → length now ≡ length old
clip_length {goal} {old} {from} {rest} {now} {at} w =
    omega (arith, ap length w.to_come, length-sets now at rest, length-sets old from goal)

-- ---- written from the first place on

pub written_front : (xs old : List ℕ) → length xs ≤ length old → sets old 0 xs ≡ overwrite_front xs old
unfolding overwrite_front
written_front xs old h = sets-eq xs old 0 (omega arith) ∙ rw zero-add

-- from the first place on, with room for all
pub clip_front : (xs old : List ℕ) {n : ℕ} {new : List ℕ} → length xs ≤ length old → (n ≡ place_after 0 xs old) × (new ≡ sets old 0 xs)
    → (n ≡ length xs) × (new ≡ overwrite_front xs old)
clip_front xs old h e = (omega (arith, e.0), e.1 ∙ written_front xs old h)

-- into an array of zeros
pub written_zeros : (n : ℕ) (xs : List ℕ) → length xs ≤ n → sets (replicate n 0) 0 xs ≡ zero_padded n xs
unfolding zero_padded overwrite_front
written_zeros n xs h =
    written_front xs (replicate n 0) (omega (arith, length-replicate {A = ℕ} n 0)) ∙ ap (λ (l : List ℕ). xs ++ l) (drop_replicate n (length xs))

-- what such a list holds, place by place
pub front_correct : (xs old : List ℕ) → length xs ≤ length old → BufferCorrect xs old (overwrite_front xs old)
unfolding overwrite_front
front_correct xs old h =
    record {
      places = omega (arith, length-append xs (drop (length xs) old), length-drop (length xs) old);
      room = h;
      front = λ i l. get_or-append xs (drop (length xs) old) 0 i l;
      after = after;
    }
  where
    after : (i : ℕ) → length xs ≤ i → get_or (xs ++ drop (length xs) old) i 0 ≡ get_or old i 0
    after i l =
        let e : length xs + (i - length xs) ≡ i = omega arith in
        subst (λ (j : ℕ). get_or (xs ++ drop (length xs) old) j 0 ≡ get_or old j 0) e
        (get_or-append-add xs (drop (length xs) old) (i - length xs) 0 ∙ get_or-drop (length xs) old (i - length xs) 0)

-- a list that ascends does so there
pub front_ascends : {xs old new : List ℕ} → BufferCorrect xs old new → Ascending xs → (i j : ℕ) → i < j → j < length xs → get_or new i 0 < get_or new j 0
front_ascends b a i j h l = omega (arith, a i j h l, b.front i (omega arith), b.front j l)

-- and taken off again
pub front_taken : (xs old : List ℕ) → take (length xs) (overwrite_front xs old) ≡ xs
unfolding overwrite_front
front_taken xs old = take-append_seam xs (drop (length xs) old)
