pub mod HubSetup
pub mod Points
pub mod Answers
pub mod Run
