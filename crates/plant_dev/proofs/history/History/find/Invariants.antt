use Rattle.std.proofs.Common.{◌≡◌, ℕ, ◌<◌, slice_index_or}
use Rattle.plant_dev.specs.declared.plant.Stored.{Stored}
use Rattle.plant_dev.proofs.history.History.find.Given as goal

abbrev pub invariant-loop-item : goal.invariant-loop-item
invariant-loop-item l = (k : ℕ) (x : Stored) → k < l.item-index → slice_index_or l.self.shelf.items k x ≡ x → x.folder ≡ l.folder → x.name ≡ l.name → ⊥
