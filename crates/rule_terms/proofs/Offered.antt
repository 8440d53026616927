-- What crates above cite of these proofs.
pub use Rattle.rule_terms.proofs.DeedForms.{book-form}
