pub mod Moments
mod MemoryModel
mod FolderNames
pub mod Offered
