pub mod ReportSample
pub mod Station
pub mod StationLists
pub mod StationPower
