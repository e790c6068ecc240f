-- What the crates above cite of slices and parts of arrays, and of arrays put together.
pub use Rattle.hic_word.proofs.HighParts.{IsBelow-more, first_part, later_part}
pub use Rattle.hic_word.proofs.SliceLaws.{slice_changes, slices_are_changed, slices_nest, value_after-slice}
pub use Rattle.hic_word.proofs.Slices.{IsBelow-slice, glue, glue-slices, parts_are_joined, raise, slice_past, slice_whole, slices_are_parts}
