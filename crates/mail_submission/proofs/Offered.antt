-- What crates above cite of these proofs.
pub use Rattle.mail_submission.proofs.Made.{made_of}
