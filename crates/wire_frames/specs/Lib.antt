pub mod Encoding
pub mod Extent
pub mod Frames
pub mod Laws
pub mod Messages
pub mod Prefix
pub mod Stops
pub mod Stream
