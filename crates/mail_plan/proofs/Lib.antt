mod Chains
pub mod Once
mod Opened
pub mod Offered
