pub mod Lines
pub mod Message
pub mod Faults
pub mod Edits
pub mod Enclose
pub mod Reading
pub mod Boundary
pub mod ReadOf
