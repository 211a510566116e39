pub mod Put
pub mod Read
pub mod Whole
