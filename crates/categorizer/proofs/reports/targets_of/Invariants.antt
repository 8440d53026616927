use Rattle.std.proofs.Common.{◌≡◌, ◌++◌, drop, map}
use Rattle.categorizer.specs.declared.parts.Send.{Send}
use Rattle.categorizer.proofs.reports.targets_of.Given as goal

abbrev pub invariant-loop-send : goal.invariant-loop-send
invariant-loop-send l = l.targets ++ map (λ (send : Send). send.target) (drop l.send-index l.sends) ≡ map (λ (send : Send). send.target) l.sends
