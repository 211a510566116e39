pub mod Entries
pub mod Totals
