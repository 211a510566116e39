pub mod Chunks
pub mod Counters
pub mod FieldBytes
pub mod Priorities
