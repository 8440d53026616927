pub mod Causing
pub mod Parts
pub mod Saying
pub mod Turning
