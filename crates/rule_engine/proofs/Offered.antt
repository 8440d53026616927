-- What crates above cite of these proofs.
pub use Rattle.rule_engine.proofs.Growing.{fate-grows}
pub use Rattle.rule_engine.proofs.Placing.{is_text-new, is_text-with, place_of-later, place_of-new}
