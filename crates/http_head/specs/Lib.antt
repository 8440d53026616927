pub mod Paths
pub mod Fields
pub mod Routes
pub mod Checks
pub mod Deeds
pub mod Targets
pub mod Heads
pub mod Progress
