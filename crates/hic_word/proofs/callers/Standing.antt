-- What the crates above cite of what words and lines stand for, in one memory and in two.
pub use Rattle.hic_word.proofs.HeldLive.{first_live, held_word_live}
pub use Rattle.hic_word.proofs.Holding.{id_live, standing_words_are_live}
pub use Rattle.hic_word.proofs.Interning.{unique_new}
pub use Rattle.hic_word.proofs.Kept.{IdFor-within, WordsFor-within, standing_grows, stands_at}
pub use Rattle.hic_word.proofs.StandOn.{live_words_stand_on, words_stand_on}
pub use Rattle.hic_word.proofs.Standing.{entries_tell_parts, words_tell_values}
pub use Rattle.hic_word.proofs.StayReached.{reached_lines_stay}
pub use Rattle.hic_word.proofs.Tells.{line_of, mixed, one_entries, one_id, one_inner, one_value, one_words, same_line}
