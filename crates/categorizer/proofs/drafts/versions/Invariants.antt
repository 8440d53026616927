use Rattle.std.proofs.Common.{◌≡◌, ◌++◌, drop, map}
use Rattle.categorizer.specs.Releasing.{version_of}
use Rattle.categorizer.proofs.drafts.versions.Given as goal

abbrev pub invariant-loop-send : goal.invariant-loop-send
invariant-loop-send l = l.drafts ++ map version_of (drop l.send-index l.sends) ≡ map version_of l.sends
