pub mod Calls
pub mod Tray
