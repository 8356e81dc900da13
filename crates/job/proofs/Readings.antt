-- What a reader of a job's text finds first: the line of the origin, or none. Assumes nothing.
use mathlib.Core.Path.{◌≡◌, ◌∙◌}
use mathlib.Core.List.{List}
use Prim.Native.Nat.{ℕ}
use Rattle.std.specs.Option.{unwrap_or}
use Rattle.std.specs.Prelude.{MatchOption}
use Rattle.std.proofs.Common.{Option, Some, None}
use Rattle.domain.specs.declared.Domain.{Domain}
use Rattle.text.specs.declared.reader.Reader.{Reader}
use Rattle.text.specs.Text.{bytes}
use Rattle.text.specs.Reading.{field_at}
use Rattle.text.specs.Reader.{StandsAt, Read, NotRead}
use Rattle.job.specs.Reading.{lines_from, reading}

-- where the six lines are read after the line of the origin, or else from the first place on with
-- origin 0, the job is read
pub after_first : (t : List ℕ) (found : Option ℕ) (old new : Reader) (origin : ℕ) {job : Option Domain}
    → MatchOption found (NotRead (field_at (bytes "origin=")) old new) (λ n. Read (field_at (bytes "origin=")) old n new) → old.rest.now ≡ t
    → origin ≡ unwrap_or found 0 → ((at : ℕ) (text : List ℕ) → StandsAt new at text → job ≡ lines_from at origin text) → job ≡ reading t
unfolding reading
after_first t None old new origin read whole is lines =
    let none : field_at (bytes "origin=") 0 t ≡ None = read.0 0 t whole in
    rw none (rw is at (lines 0 t (read.1 ∙ whole)))
after_first t (Some n) old new origin read whole is lines =
    let first = read 0 t whole in
    rw first.1 (rw is at (lines first.0 t first.2))
