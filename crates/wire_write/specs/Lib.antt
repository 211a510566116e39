pub mod Put
pub mod Shortest
