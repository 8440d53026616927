pub mod Parts
pub mod Check
