pub mod ClosedEnums
pub mod NumberedEnums
