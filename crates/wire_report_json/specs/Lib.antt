pub mod ReportJson
pub mod ReportLevelJson
pub mod ReportOriginJson
pub mod ReportSampleJson
