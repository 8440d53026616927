use Rattle.std.proofs.Common.{◌≡◌, ◌++◌, take}
use Rattle.pickup_box.specs.Header.{all_addresses}
use Rattle.pickup_box.proofs.pickup.add_all.Given as goal

abbrev pub invariant-loop-field : goal.invariant-loop-field
invariant-loop-field l = l.texts.items ≡ l.initial.texts.items ++ all_addresses l.name (take l.field-index l.fields)
