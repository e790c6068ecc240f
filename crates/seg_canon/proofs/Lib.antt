pub mod Filling
pub mod Pieces
pub mod Packing
pub mod Folding
pub mod Opening
pub mod RootParts
pub mod Quarters
pub mod Growing
