pub mod Growth
pub mod Organisation
pub mod Plan
pub mod Releasing
pub mod Meaning
