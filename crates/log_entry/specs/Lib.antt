pub mod Entries
pub mod EntryText
pub mod Reading
