pub mod Rooted
pub mod MergeLaws
