pub mod Digits
pub mod Durations
pub mod Laws
pub mod Timestamps
