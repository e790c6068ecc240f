pub mod Puts
pub mod Lone
pub mod Charges
pub mod Trades
pub mod Gains
pub mod Settled
pub mod Rows
