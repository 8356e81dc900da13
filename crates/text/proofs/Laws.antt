-- The laws of this crate that others may use beside its promise. Assumes nothing.
pub use Rattle.text.proofs.Decimals.{one_digit}
pub use Rattle.text.proofs.Writing.{line_written, wrote_more}
