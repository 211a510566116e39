pub mod Extension
pub mod Laws
pub mod ReadBack
