use Rattle.std.proofs.Common.{◌≡◌, fold, map, Bor}
use Rattle.hub_core.specs.declared.waiting.WaitingItem.{WaitingItem}
use Rattle.hub_core.specs.Standing.{with_item}
use Rattle.hub_core.proofs.state.add_items.Given as goal

abbrev pub invariant-loop-item : goal.invariant-loop-item
invariant-loop-item g l = l.epochs.items ≡ fold (with_item l.lives) l.fn.epochs.items (map (λ (item : Bor WaitingItem). item.now) l.yielded)
