-- What crates above cite of these proofs.
pub use Rattle.mail_plan.proofs.Once.{joined-distinct}
