pub mod AxisInCShows
pub mod MotorInCShows
pub mod PartInCShows
