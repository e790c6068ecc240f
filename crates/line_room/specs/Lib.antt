pub mod Room
pub mod RoomLaws
pub mod PartLaws
pub mod MemoryLaws
