pub mod Keeping
pub mod NumberChanges
pub mod Walking
pub mod Rooting
pub mod Using
pub mod FirstCursor
pub mod Loading
