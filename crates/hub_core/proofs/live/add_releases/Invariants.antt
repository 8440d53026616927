use Rattle.std.proofs.Common.{◌≡◌, ◌++◌, drop}
use Rattle.hub_core.specs.Standing.{waiting_from}
use Rattle.hub_core.proofs.live.add_releases.Given as goal

abbrev pub invariant-loop-release : goal.invariant-loop-release
invariant-loop-release l =
    l.names.items ++ waiting_from l.submission l.release (drop l.release l.stages) ≡ l.fn.names.items ++ waiting_from l.submission 0 l.stages
