pub mod Load
pub mod Summaries
