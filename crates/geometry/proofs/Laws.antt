-- The laws of this crate that others may use beside its promise. Assumes nothing.
pub use Rattle.geometry.proofs.Residues.{multiple_lt, multiple_zero, multiple_low, multiple_high, residue_lt, residue_congruent, residue_start}
pub use Rattle.geometry.proofs.TwoLength.{first, unit_positive, p_below, far_up, far_down, cut_q, cut_p}
pub use Rattle.geometry.proofs.Lengths.{start, cut, whole, short_positive, long_positive, longs_positive, within_period, equal_period}
pub use Rattle.geometry.proofs.Positions.{first_position, turned, distance_below, least, cut_even, stay_odd, move_odd}
pub use Rattle.geometry.proofs.Periods.{distinct, residue_of_remainder}
