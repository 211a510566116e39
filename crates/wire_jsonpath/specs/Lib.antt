pub mod Items
pub mod Laws
pub mod Path
pub mod Places
pub mod Seen
