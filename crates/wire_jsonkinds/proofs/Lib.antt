pub mod Bits
pub mod ClosedNumbers
