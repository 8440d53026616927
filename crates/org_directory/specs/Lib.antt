pub mod Drafts
pub mod Lines
pub mod Marks
pub mod Membership
pub mod Reading
pub mod Register
