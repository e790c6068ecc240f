pub mod Value
pub mod Form
pub mod Sole
pub mod Lines
