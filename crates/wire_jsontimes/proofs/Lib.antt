pub mod Calendar
pub mod DurationBack
pub mod Reading
pub mod Taken
pub mod TimestampBack
