-- The door of the crate: the lemmas that the crates above may cite, by what they speak of.
pub mod Forms
pub mod Slices
pub mod Bits
pub mod Standing
pub mod Holds
pub mod Lines
