pub mod Cases
pub mod Headers
pub mod InForce
pub mod Lists
pub mod Standing
