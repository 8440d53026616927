pub mod Calendar
pub mod Digits
mod LowerKeys
pub mod Numbers
pub mod Offered
