pub mod Borrowing
pub mod Counting
pub mod FixedTexts
pub mod PackedLaws
pub mod Packing
