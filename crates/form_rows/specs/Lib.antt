pub mod Covers
pub mod Numbers
pub mod PlainRoots
pub mod Usable
pub mod OneLine
