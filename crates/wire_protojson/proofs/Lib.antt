pub mod EnumValues
pub mod Firsts
pub mod Floats
pub mod NumberTexts
pub mod PlainNumbers
pub mod ReadBack
pub mod Refusing
pub mod Texts
