pub mod Batch
pub mod Told
pub mod Whole
