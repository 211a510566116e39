pub mod Counted
pub mod Outcome
pub mod Run
pub mod Shorten
