use Rattle.std.proofs.Common.{◌≡◌, ◌++◌, take}
use Rattle.std.specs.Prelude.{filter}
use Rattle.pickup_box.specs.FileNames.{is_new}
use Rattle.pickup_box.proofs.file_names.add_new.Given as goal

abbrev pub invariant-loop-name : goal.invariant-loop-name
invariant-loop-name l = l.all.items ≡ l.initial.all.items ++ filter is_new (take l.name-index l.names)
