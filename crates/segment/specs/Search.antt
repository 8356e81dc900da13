-- What either search shows, by document 01. Assumes nothing: these are definitions.
use Rattle.std.specs.Prelude.{cond, ℕ, zero, suc, leb, ltb}
use Rattle.expansion.specs.Configurations.{Configuration}
use Rattle.expansion.specs.Reached.{Search, reached}
use Rattle.geometry.specs.Segment.{Segment, residue}
use Rattle.segment.specs.declared.Verdict.{Verdict}
use Rattle.segment.specs.declared.Verdict.TheVariants.{Clear, Possible}

-- the configuration that a search reaches in a segment
abbrev pub reached_in : Search → Segment → Configuration
reached_in k s = reached k s.unit s.step s.count

-- of the best so far and of as many arguments from x on as are left, the one of least residue; the first of equals
unfoldable pub least_from : (left x best : ℕ) → Segment → ℕ
least_from zero x best s = best
least_from (suc n) x best s = least_from n (suc x) (cond (ltb (residue s x) (residue s best)) x best) s

-- the argument that is shown: the one of least residue below the count reached
unfoldable pub argument : Search → Segment → ℕ
argument k s = least_from (reached_in k s).count 0 0 s

-- its residue
unfoldable pub distance : Search → Segment → ℕ
distance k s = residue s (argument k s)

-- clear where the distance is at least the window, else possible
unfoldable pub verdict_at : (distance window : ℕ) → Verdict
verdict_at d w = cond (leb w d) Clear Possible

-- the verdict of a search
abbrev pub verdict : Search → Segment → Verdict
verdict k s = verdict_at (distance k s) s.window
