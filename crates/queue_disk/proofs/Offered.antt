-- What crates above cite of these proofs.
pub use Rattle.queue_disk.proofs.Beginning.{begins_more, ends_shut}
pub use Rattle.queue_disk.proofs.Pending.{all-append, file_of, place_of}
pub use Rattle.queue_disk.proofs.Whole.{one_log, same_payload}
