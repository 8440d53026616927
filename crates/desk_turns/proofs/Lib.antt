pub mod Closed
pub mod Lists
pub mod Moves
pub mod Offered
pub mod Steps
pub mod Unions
