use Rattle.std.proofs.Common.{take}
use Rattle.plant_dev.specs.Shelf.{NamesIn}
use Rattle.plant_dev.proofs.history.names_of.Given as goal

abbrev pub invariant-loop-item : goal.invariant-loop-item
invariant-loop-item l = NamesIn l.folder (take l.item-index l.shelf) l.names.items
