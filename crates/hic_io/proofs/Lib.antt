pub mod CallLaws
pub mod MemLaws
pub mod FileLaws
pub mod ReadLaws
