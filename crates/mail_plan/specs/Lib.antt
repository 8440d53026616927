pub mod Fits
pub mod Planning
pub mod Means
