-- What stands behind a refusal.
use Rattle.std.proofs.Common.{ℕ, ◌≤◌, Result, arith}
use Rattle.hub_calls.specs.Refusals.{HasCauses}
use Rattle.hub_calls.specs.declared.fault.HubFault.{HubFault}

-- its causes in the last of several calls are causes in all of them
pub causes_in_all : {A : Type 0} (answer : Result A HubFault) (disks disks_then disks_now shelves shelves_then shelves_now : ℕ) → disks ≤ disks_then → shelves ≤ shelves_then
    → HasCauses disks_then disks_now shelves_then shelves_now answer → HasCauses disks disks_now shelves shelves_now answer
causes_in_all answer disks disks_then disks_now shelves shelves_then shelves_now later later' causes = record {
  disk = λ is. let rose = causes.disk is in omega arith;
  shelf = λ is. let rose = causes.shelf is in omega arith;
  disks_later = let h = causes.disks_later in omega arith;
  shelves_later = let h = causes.shelves_later in omega arith;
}
