-- What crates above cite of these proofs.
pub use Rattle.journal_report.proofs.Listing.{go_on, lists, one_lists}
