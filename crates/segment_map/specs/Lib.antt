pub mod Segments
pub mod Merging
pub mod MergeRows
