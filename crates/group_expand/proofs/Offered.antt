-- What crates above cite of these proofs.
pub use Rattle.group_expand.proofs.Growth.{closed-stay, first-filter, leaves-stay}
