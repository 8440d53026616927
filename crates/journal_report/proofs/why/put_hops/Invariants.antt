-- The keys so far have been added.
use Rattle.std.proofs.Common.{◌≡◌, ◌++◌, take}
use Rattle.std.specs.List.{flat_map}
use Rattle.journal_report.specs.Why.{hop}
use Rattle.journal_report.proofs.why.put_hops.Given as goal

abbrev pub invariant-loop-key : goal.invariant-loop-key
invariant-loop-key l = l.into ≡ l.fn.into ++ flat_map hop (take l.key-index l.keys)
