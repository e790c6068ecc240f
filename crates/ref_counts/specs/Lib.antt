pub mod Live
pub mod Links
