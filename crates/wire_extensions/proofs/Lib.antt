pub mod Agreeing
pub mod Folding
pub mod OneRecord
pub mod Records
pub mod Results
pub mod Storing
