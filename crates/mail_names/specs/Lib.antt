pub mod Dates
pub mod Gates
pub mod Key
pub mod Lines
pub mod Names
pub mod Steps
