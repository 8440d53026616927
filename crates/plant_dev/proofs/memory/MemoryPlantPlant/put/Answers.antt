use Rattle.std.proofs.Common.{◌≡◌, inr, refl, sym, ◌∙◌, subst, Err}
use Rattle.plant_dev.specs.declared.failures.Failing.{Failing}
use Rattle.plant_dev.specs.declared.failures.Failing.TheVariants as failing
use Rattle.plant_dev.specs.declared.plant.ShelfFault.TheVariants.{Failed}
use Rattle.plant_dev.specs.declared.plant.Stored.{Stored}
use Rattle.plant_dev.specs.Disk.{State, Shelves}
use Rattle.plant_dev.specs.Failures.{failing_by}
use Rattle.plant_dev.specs.History.{first_of, image_of, past_of}
use Rattle.plant_dev.specs.Shelf.{Puts, item_of}
use Rattle.plant_dev.specs.MemoryState.{folder_plans}
use Rattle.plant_dev.specs.MemoryFailures.{PutsAsPlanned}
use Rattle.plant_dev.proofs.MemoryModel.{added_to, shelves_by}
use Rattle.plant_dev.proofs.memory.MemoryPlantPlant.put.Goals as goal

puts_stored : (how : Failing) (item : Stored) (old after : State) → failing.Stored ≡ how → Shelves (Puts item) old after → PutsAsPlanned how item (Err Failed) old after
puts_stored how item old after is puts = subst (λ (h : Failing). PutsAsPlanned h item (Err Failed) old after) is (refl, λ failed. puts)

pub returns-in-Ok-clause-puts : goal.returns-in-Ok-clause-puts
returns-in-Ok-clause-puts c honest =
    let h = c.args.self.now.history in
    added_to (first_of h) _ (image_of h) _ (past_of h) _ _ _ (item_of c.args.folder.now c.args.name.now c.args.bytes.now) h.shelf_kept c.in-Ok.ensures.first c.in-Ok.ensures.added

pub returns-in-Ok-put-clause-puts : goal.returns-in-Ok-put-clause-puts
returns-in-Ok-put-clause-puts c honest =
    let h = c.args.self.now.history in
    let item = item_of c.args.folder.now c.args.name.now c.args.bytes.now in
    shelves_by (Puts item) _ _ _ (λ a b puts. inr puts)
    (added_to (first_of h) _ (image_of h) _ (past_of h) _ _ _ item h.shelf_kept c.in-Ok-put.ensures.first c.in-Ok-put.ensures.added)

pub returns-in-Ok-put-clause-by_folder : goal.returns-in-Ok-put-clause-by_folder
returns-in-Ok-put-clause-by_folder c goes =
    let h = c.args.self.now.history in
    let item = item_of c.args.folder.now c.args.name.now c.args.bytes.now in
    puts_stored (failing_by (folder_plans c.args.self.now) c.args.folder.now) item _ _ (sym c.in-Stored.is ∙ c.how.ensures)
    (added_to (first_of h) _ (image_of h) _ (past_of h) _ _ _ item h.shelf_kept c.in-Ok-put.ensures.first c.in-Ok-put.ensures.added)
