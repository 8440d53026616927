use Rattle.std.proofs.Common.{◌≡◌, ◌++◌, drop}
use Rattle.std.specs.Option.{option_map}
use Rattle.pickup_box.specs.PickupOf.{keys_of}
use Rattle.pickup_box.proofs.pickup.keys_of.Given as goal

abbrev pub invariant-loop-text : goal.invariant-loop-text
invariant-loop-text l = keys_of l.texts ≡ option_map (λ more. l.keys ++ more) (keys_of (drop l.text-index l.texts))
