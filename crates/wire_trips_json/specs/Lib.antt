pub mod HaltJson
pub mod MeansJson
pub mod SeatJson
pub mod SideJson
pub mod TripJson
pub mod TripPaidJson
