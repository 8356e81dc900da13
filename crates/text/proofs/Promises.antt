-- The promises of specs/Promise.antt. Assumes nothing.
use mathlib.Core.Path.{refl}
use Rattle.text.specs.Text.{signed_decimal}
use Rattle.text.specs.Promise.{TextCorrect, Promised}
use Rattle.text.proofs.Digits.{decimal_correct}
use Rattle.text.proofs.Lines.{field_correct}

text_correct : TextCorrect
unfolding signed_decimal
text_correct = record { feed = refl; nothing = refl; byte = λ c s. refl; rising = λ n. refl; falling = λ n. refl; line_is = λ name written rest. refl }

pub promised : Promised
promised =
    record {
      decimals = decimal_correct;
      texts = text_correct;
      writing = λ old xs new. record {
        written = (λ w. (w.place, w.bytes, w.same_buffer), λ h. record { place = h.0; bytes = h.1; same_buffer = h.2 });
      };
      fields = field_correct;
    }
