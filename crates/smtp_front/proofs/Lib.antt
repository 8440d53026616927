pub mod Trimming
pub mod Parting
pub mod Cutting
pub mod Holding
pub mod Settling
pub mod Turning
pub mod Draining
pub mod Ending
