pub mod Texts
pub mod Listing
pub mod Walks
pub mod Words
pub mod Numbering
pub mod UnderWay
pub mod Rows
