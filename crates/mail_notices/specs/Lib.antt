pub mod About
pub mod Text
