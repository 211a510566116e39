pub mod Edit
pub mod Labels
pub mod Samples
