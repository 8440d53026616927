use Rattle.std.proofs.Common.{◌≡◌, map, Bor}
use Rattle.hub_core.specs.declared.waiting.WaitingItem.{WaitingItem}
use Rattle.hub_core.specs.Waiting.{names_now}
use Rattle.hub_core.proofs.waiting.names_now.Given as goal

abbrev pub invariant-loop-item : goal.invariant-loop-item
invariant-loop-item l = l.names.items ≡ names_now (map (λ (item : Bor WaitingItem). item.now) l.yielded)
