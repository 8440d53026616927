pub mod Printable
pub mod Made
pub mod Offered
