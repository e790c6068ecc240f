-- What the crates above cite of the bits of words.
pub use Rattle.hic_word.proofs.Bits.{digits_are_read, nodes_are_read}
pub use Rattle.hic_word.proofs.Children.{id_of_kind, node_id}
pub use Rattle.hic_word.proofs.Digits.{digits_value_below}
pub use Rattle.hic_word.proofs.Interning.{node_names}
pub use Rattle.hic_word.proofs.Tells.{bits_is, height_is, id_fits, kind_is}
