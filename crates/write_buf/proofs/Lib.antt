pub mod PairLaws
mod PlaceLaws
mod SearchLaws
pub mod ValuePairs
