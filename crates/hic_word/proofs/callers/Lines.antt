-- What the crates above cite of the line values of arrays and of stored lines.
pub use Rattle.hic_word.proofs.ArrayVisits.{array_low, closed_all, fits_all, stored_all}
pub use Rattle.hic_word.proofs.Counts.{Valued}
pub use Rattle.hic_word.proofs.Distinct.{Apart-distinct, In-distinct, distinct-In}
pub use Rattle.hic_word.proofs.Exact.{balanced_is_exact}
pub use Rattle.hic_word.proofs.Falls.{falls}
pub use Rattle.hic_word.proofs.Found.{found_here, found_later}
pub use Rattle.hic_word.proofs.Keys.{KeysRise, entry_line, find_has, keys_rise, tied}
pub use Rattle.hic_word.proofs.Rank.{In-top_rank, top_rank}
unfoldable pub use Rattle.hic_word.proofs.Rank.{rank}
pub use Rattle.hic_word.proofs.Valued.{all_stored, in_valued, length_valued, valued_apart, valued_in}
pub use Rattle.hic_word.proofs.Visits.{In-flat, In-left, In-parts, In-right, flat-In, rank_some, visit_head, visits_enough, visits_step}
pub use Rattle.hic_word.proofs.Whole.{visits_are_whole}
