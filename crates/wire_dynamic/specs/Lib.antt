-- Descriptor sets as data.
pub mod Table
pub mod Errors
pub mod Features
pub mod Declares
pub mod Gained
pub mod DeclaresFault
pub mod Fields
pub mod Messages
pub mod Enums
pub mod Extensions
pub mod Places
pub mod Refusals
pub mod Schemas
pub mod Walks
pub mod Told
