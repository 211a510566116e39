pub mod ReportInCShows
pub mod ReportLabelsEntryInCShows
pub mod ReportLastEntryInCShows
pub mod ReportOriginInCShows
pub mod ReportSampleInCShows
