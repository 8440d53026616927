pub mod Numbers
mod Standing
pub mod Forms
mod Parts
mod ByKind
pub mod Offered
