-- What the two searches answer, and the verdict of the regular one alone. Assumes nothing: these are definitions.
use Rattle.std.specs.Prelude.{ℕ, zero, suc, Result}
use Rattle.numbers.specs.Refusals.{outcome}
use Rattle.numbers.specs.declared.refusals.Refusal.{Refusal}
use Rattle.expansion.specs.Reached.Search.{regular, fine}
use Rattle.geometry.specs.Segment.{Segment}
use Rattle.segment.specs.Accepted.{asked, refusal}
use Rattle.segment.specs.Search.{reached_in, argument, distance, verdict}
use Rattle.segment.specs.declared.Verdict.{Verdict}
use Rattle.segment.specs.declared.Verdict.TheVariants.{Possible}
use Rattle.segment.specs.declared.Regular.{Regular}
use Rattle.segment.specs.declared.Fine.{Fine}

-- what the regular search shows of a segment: the quotients drawn are the index of the configuration reached
unfoldable pub regular_shown : Segment → Regular
regular_shown s =
    record {
      count = (reached_in regular s).count;
      quotients = (reached_in regular s).index;
      distance = distance regular s;
      argument = argument regular s;
      verdict = verdict regular s;
    }

-- what the fine search shows of a segment
unfoldable pub fine_shown : Segment → Fine
fine_shown s =
    record {
      count = (reached_in fine s).count;
      index = (reached_in fine s).index;
      part = (reached_in fine s).part;
      distance = distance fine s;
      argument = argument fine s;
      verdict = verdict fine s;
    }

-- the regular search's answer for modulus, step, start, count and window
unfoldable pub regular_answer : (M a b N w : ℕ) → Result Regular Refusal
regular_answer M a b N w = outcome (refusal (asked M a b N w)) (regular_shown (asked M a b N w))

-- the fine search's
unfoldable pub fine_answer : (M a b N w : ℕ) → Result Fine Refusal
fine_answer M a b N w = outcome (refusal (asked M a b N w)) (fine_shown (asked M a b N w))

-- the verdict of the regular search alone: possible where a number refuses
unfoldable pub regular_verdict_with : (number : ℕ) → Segment → Verdict
regular_verdict_with zero s = verdict regular s
regular_verdict_with (suc n) s = Possible

unfoldable pub regular_verdict : (M a b N w : ℕ) → Verdict
regular_verdict M a b N w = regular_verdict_with (refusal (asked M a b N w)) (asked M a b N w)
