pub mod Failures
pub mod Known
pub mod Results
pub mod Shortening
