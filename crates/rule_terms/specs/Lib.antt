pub mod Forms
pub mod Lists
pub mod Parts
pub mod Terms
pub mod Actions
pub mod Rules
pub mod Reading
