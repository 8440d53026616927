-- What crates above cite of these proofs.
pub use Rattle.queue_store.proofs.Adding.{before_may, one_of}
pub use Rattle.queue_store.proofs.Finishing.{partly_more}
pub use Rattle.queue_store.proofs.Runs.{behind_reached, settled_behind}
pub use Rattle.queue_store.proofs.Settling.{may_now}
pub use Rattle.queue_store.proofs.Turning.{finished, grown_state, tried_along, tried_within, unfinished}
