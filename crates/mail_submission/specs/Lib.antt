pub mod Base
pub mod Fits
pub mod Submission
