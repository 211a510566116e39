pub mod Prefixes
pub mod OneNext
pub mod InChunks
pub mod Extents
