-- What crates above cite of these proofs.
pub use Rattle.desk_turns.proofs.Lists.{leads_more, start_from}
pub use Rattle.desk_turns.proofs.Steps.{begun_holds, begun_leads, called}
