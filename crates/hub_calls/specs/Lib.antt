pub mod Benches
pub mod Refusals
