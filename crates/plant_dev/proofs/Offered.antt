-- What crates above cite of these proofs.
pub use Rattle.plant_dev.proofs.MemoryModel.{no_name_twice_more}
pub use Rattle.plant_dev.proofs.Moments.{durable_reads, goes_on, joins, reads_more, reads_on, started, stays_honest, stays_more, stays_not, weakens}
