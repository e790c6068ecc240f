pub mod Seen
pub mod SlotCounts
pub mod OneLine
pub mod DeadIds
pub mod EmptyStore
pub mod StoreSteps
pub mod GivenUp
pub mod PlainLines
