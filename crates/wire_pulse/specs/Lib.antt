pub mod Pulse
pub mod PulseStays
