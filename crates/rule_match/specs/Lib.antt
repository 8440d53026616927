pub mod Applies
pub mod Header
pub mod Words
