pub mod Missing
pub mod Nested
pub mod Parsing
pub mod Path
pub mod Seen
