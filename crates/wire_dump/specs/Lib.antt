-- The text of records.
pub mod Lines
pub mod Places
pub mod Dumps
pub mod Refused
pub mod Dumped
pub mod Front
pub mod Parts
pub mod Frames
pub mod Shortened
pub mod Laws
pub mod Input
pub mod Names
pub mod Numbers
pub mod Shows
pub mod Shown
