use Rattle.std.proofs.Common.{◌≡◌, take}
use Rattle.pickup_box.specs.Folder.{names_of}
use Rattle.pickup_box.proofs.listing.names_of.Given as goal

abbrev pub invariant-loop-name : goal.invariant-loop-name
invariant-loop-name l = l.names.items ≡ names_of (take l.name-index l.files)
