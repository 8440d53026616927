pub mod Telling
pub mod Stepping
pub mod Running
pub mod Never
