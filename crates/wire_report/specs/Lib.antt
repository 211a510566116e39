pub mod Report
pub mod ReportLevel
pub mod ReportOrigin
pub mod ReportOriginStays
pub mod ReportSample
pub mod ReportSampleStays
pub mod ReportStays
