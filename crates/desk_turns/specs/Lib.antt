pub mod Calls
pub mod Ends
pub mod History
pub mod Plays
pub mod Rule
pub mod Desks
