pub mod LineFeeds
pub mod TargetLemmas
pub mod Insertions
pub mod Readings
pub mod Numbers
pub mod Staying
pub mod Pieces
pub mod Determined
