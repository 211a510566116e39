pub mod Payloads
pub mod StringLaws
pub mod Values
