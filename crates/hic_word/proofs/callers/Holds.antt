-- What the crates above cite of counts and holds: what single steps make of them, what calls exchange, and words held in
-- groups.
pub use Rattle.hic_word.proofs.Bounded.{counts_are_bounded}
pub use Rattle.hic_word.proofs.CallExchanges.{freeing_gives_up, hold_takes_word, intern_takes_line, nothing_takes_word}
pub use Rattle.hic_word.proofs.Counting.{count-without_hold, count_after, count_none, get-inserted, get-removed, hit-other, hit-same, is_there, names-append, names-cons, names-none, names-some, there_is, times-append, times-cons, times-here}
pub use Rattle.hic_word.proofs.Exchanging.{alike_beside, among_after, among_first, among_last, exchanges_before, exchanges_behind, exchanges_nothing, exchanges_regrouped, exchanges_reshapes, exchanges_then, fewer_keep, more_keep, reshapes_before, reshapes_behind, reshapes_then, turned_alike}
pub use Rattle.hic_word.proofs.Freeing.{holds_are_given_up, lines_outlast_holds}
pub use Rattle.hic_word.proofs.Groups.{but_at, group_exchanged, replaced, taken_length, taken_out}
pub use Rattle.hic_word.proofs.Holding.{empty_memory_holds_nothing, held_first, held_later, held_words_are_counted, holding_is_by_counts}
pub use Rattle.hic_word.proofs.Interned.{hold_raises, interned_counts, interned_there, interned_within, new_or_there, others_kept}
pub use Rattle.hic_word.proofs.Interning.{interned_line_is_held}
