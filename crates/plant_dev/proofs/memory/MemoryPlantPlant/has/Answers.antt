use Rattle.plant_dev.specs.History.{first_of, image_of, past_of}
use Rattle.plant_dev.specs.MemoryState.{rest_of}
use Rattle.plant_dev.proofs.MemoryModel.{settled}
use Rattle.plant_dev.proofs.memory.MemoryPlantPlant.has.Goals as goal

pub returns-clause-settles : goal.returns-clause-settles
returns-clause-settles c honest =
    let h = c.args.self.now.history in
    settled (first_of h) (image_of h) (past_of h) (rest_of c.args.self.now) c.args.folder.now c.args.name.now h.shelf_kept
