-- What crates above cite of these proofs.
pub use Rattle.hub_core.proofs.Agreeing.{mail-there, waiting_accepted}
pub use Rattle.hub_core.proofs.Matching.{same_input}
pub use Rattle.hub_core.proofs.Prescribed.{history-push, older, prescribed, standing-push}
pub use Rattle.hub_core.proofs.Sending.{found_named}
