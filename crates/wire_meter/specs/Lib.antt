pub mod Meter
pub mod MeterStays
