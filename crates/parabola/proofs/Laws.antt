-- The laws of this crate that others may use beside its promise. Assumes nothing.
pub use Rattle.parabola.proofs.Values.{triangle_twice, square_most, triangle_square, value_congruent, value_is, slope_congruent, slope_is, second_is}
pub use Rattle.parabola.proofs.Bounds.{positive, triangle_most, arc_most, rise_most, spread_most, list_most}
