-- What crates above cite of these proofs.
pub use Rattle.port_io.proofs.Pieces.{Appends-nothing, Appends-twice, Consumes-end, Consumes-kept, Consumes-nothing, Consumes-twice}
