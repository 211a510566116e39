pub mod Entries
pub mod Fronts
pub mod Kept
