-- All that is promised of the definitions that other crates' promises cite. Assumes nothing.
use mathlib.Core.Path.{refl}
use mathlib.Core.Bool.{Bool}
use mathlib.Core.Logic.{inl, inr, ⊎_elim}
use Prim.Native.Nat.{ℕ}
use native.Mathlib.Nat.{mod-zero}
use native.Mathlib.Omega.{arith}
use Rattle.numbers.specs.Checklist.{unless_refused}
use Rattle.numbers.specs.Integers.{◌modulo◌}
use Rattle.numbers.specs.Lists.{count_if, tabulate, joined}
use Rattle.numbers.specs.Sums.{sum, alternating_sum}
use Rattle.numbers.specs.Promise.{ConditionsCorrect, SelectionCorrect, BuffersCorrect, Promised}
use Rattle.numbers.proofs.Checklists.{refuses, accepts}
use Rattle.numbers.proofs.Integers.{mod_below, mod_multiple}
use Rattle.numbers.proofs.Outcomes.{refusals_correct}
use Rattle.numbers.proofs.Selections.{filter_none, filter_hit, filter_miss}
use Rattle.numbers.proofs.Parity.{parity_correct}
use Rattle.numbers.proofs.Pieces.{joined_none, pieces_correct}
use Rattle.numbers.proofs.Buffers.{front_correct}

conditions_correct : ConditionsCorrect
conditions_correct =
    record {
      none = λ n h. h;
      fails = λ k n P cs f. (λ h. ⊎_elim (λ l. l.0) (λ r. absurd (f r.0)) h, λ e. inl (e, f));
      passes = λ k n P cs p. (λ h. ⊎_elim (λ l. absurd (l.1 p)) (λ r. r.1) h, λ h. inr (p, h));
      checks_none = refl;
      checks_more = λ k d cs. refl;
      nothing_asked = tt;
      all_hold = λ k P cs. (λ h. h, λ h. h);
      nothing_numbered = tt;
      numbered = λ k P cs. (λ h. h, λ h. h);
    }

selection_correct : (property : ℕ → Bool) → SelectionCorrect property
unfolding count_if
selection_correct p =
    record {
      none_left = filter_none p;
      taken = filter_hit p;
      passed = filter_miss p;
      none_counted = λ x. refl;
      counted = λ n x e. rw e (omega arith);
      not_counted = λ n x e. rw e (omega arith);
    }

buffers_correct : BuffersCorrect
unfolding unless_refused
buffers_correct =
    record {
      front = front_correct;
      accepted = λ new old. refl;
      refused = λ n new old. refl;
      room = λ at xs old h. omega arith;
      no_room = λ at xs old l h. omega arith;
      beyond = λ at xs old h. omega arith;
    }

pub promised : Promised
unfolding ◌modulo◌
promised =
    record {
      conditions_are = conditions_correct;
      checklists = λ cs. record { refuses = refuses cs; accepts = accepts cs };
      refusals = refusals_correct;
      remainders = λ z M. record { in_range = λ positive. mod_below positive z; multiple = λ positive. mod_multiple positive z };
      remainders_by_zero = λ n. (mod-zero n, omega arith);
      selections = selection_correct;
      sequences = unfold tabulate joined in record { no_value = λ f i. refl; value_more = λ f n i. refl; no_list = joined_none; list_more = λ f n i. refl };
      sums =
          unfold sum alternating_sum in
          record { no_term = λ f i. refl; term_more = λ f n i. refl; alternating_none = λ f i. refl; alternating_more = λ f n i. refl };
      parity = parity_correct;
      pieces = pieces_correct;
      buffers = buffers_correct;
    }
