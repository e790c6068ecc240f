-- What the crates above cite of arrays and their canonical form.
pub use Rattle.hic_word.proofs.Changes.{changes_are_made}
pub use Rattle.hic_word.proofs.Decode.{enc-injective, small-numbers}
pub use Rattle.hic_word.proofs.Differences.{differences_are_exact}
pub use Rattle.hic_word.proofs.Extensional.{at_first, not_zero}
unfoldable pub use Rattle.hic_word.proofs.Fits.{EntriesFit, EntryFits, LineFits}
pub use Rattle.hic_word.proofs.Fits.{EntryFits-part, EntryFits-root_entry, made_fits, part_plain, sorted_array, value_at, values_of_array}
pub use Rattle.hic_word.proofs.Heights.{height_positive}
pub use Rattle.hic_word.proofs.LeastHeight.{heights_are_least}
pub use Rattle.hic_word.proofs.LineHeights.{height_of_some}
pub use Rattle.hic_word.proofs.Needed.{lines_are_needed, lines_tell_heights, paths_are_short}
pub use Rattle.hic_word.proofs.Ordered.{at_high, next_is_least, ordered, values_tell_arrays}
pub use Rattle.hic_word.proofs.Raised.{entries_are_raised, packs_are_small, parts_are_parts, paths_are_places}
pub use Rattle.hic_word.proofs.Same.{same_refl, same_true, value_refl, value_true}
pub use Rattle.hic_word.proofs.Soles.{Each, Each-slices, Each-sole, alone-alone, next-alone}
pub use Rattle.hic_word.proofs.Widths.{by_width, greatest_room, two_words}
