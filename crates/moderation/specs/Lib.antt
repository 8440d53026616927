pub mod Approval
pub mod Events
