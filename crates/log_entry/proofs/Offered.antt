-- What crates above cite of these proofs.
pub use Rattle.log_entry.proofs.Forms.{one_entry}
pub use Rattle.log_entry.proofs.Numbers.{le64_of, le64_same, length-le64}
