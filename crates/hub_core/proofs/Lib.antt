pub mod Changing
pub mod Places
pub mod Removing
pub mod Waits
pub mod Found
pub mod Sending
pub mod Opened
pub mod Agreeing
pub mod Prescribed
pub mod Settled
pub mod Named
pub mod Categorised
pub mod Spent
pub mod Unique
pub mod Releasing
pub mod Room
pub mod First
pub mod Noted
pub mod Repeating
pub mod Keeping
pub mod Comparing
pub mod Matching
pub mod Holding
pub mod Deciding
pub mod Telling
pub mod Judging
pub mod Tasks
mod Reporting
mod Planned
mod Journaled
pub mod Offered
