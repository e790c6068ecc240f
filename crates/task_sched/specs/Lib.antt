pub mod Limits
pub mod Items
pub mod Faults
pub mod Grammar
pub mod Pick
pub mod Order
pub mod InRow
pub mod Rows
