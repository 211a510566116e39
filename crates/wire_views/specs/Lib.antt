pub mod Entries
pub mod FixedLists
pub mod FixedNumbers
pub mod Passing
pub mod Rows
pub mod Spans
pub mod SpelledOnce
pub mod Tokens
