-- The laws of this crate that others may use beside its promise: the two verdicts differ, and which it is; what an accepted segment is answered.
-- Assumes nothing.
pub use Rattle.segment.proofs.Showing.{apart, verdict_iff}
pub use Rattle.segment.proofs.Answers.{regular_shows, fine_shows, verdict_shows}
