-- What crates above cite of these proofs: a hub's planner meets its laws.
pub use Rattle.categorizer.proofs.First.{starts}
pub use Rattle.categorizer.proofs.Journaling.{reported}
pub use Rattle.categorizer.proofs.Keeping.{own_texts, lawful, targets_once, gates_once, sent_once, met_once}
