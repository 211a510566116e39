-- Lemmas on tables.
pub mod Tables
pub mod Found
pub mod Open
pub mod Unknown
pub mod Declaring
pub mod Counts
pub mod Refused
