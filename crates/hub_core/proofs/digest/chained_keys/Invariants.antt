use Rattle.std.proofs.Common.{◌≡◌, fold, drop}
use Rattle.hub_core.specs.Repeats.{chained}
use Rattle.hub_core.proofs.digest.chained_keys.Given as goal

abbrev pub invariant-loop-key : goal.invariant-loop-key
invariant-loop-key l = fold chained l.digest (drop l.key-index l.keys) ≡ fold chained l.fn.digest l.keys
