pub mod Holding
pub mod Leading
pub mod Reaching
pub mod Searching
