use Rattle.plant_dev.proofs.MemoryModel.{sync_to}
use Rattle.plant_dev.proofs.memory.MemoryPlantPlant.sync.Goals as goal

pub returns-in-Ok-clause-reads : goal.returns-in-Ok-clause-reads
returns-in-Ok-clause-reads c honest =
    sync_to _ _ _ _ _ _ _ _ c.in-Ok.ensures.first c.in-Ok.ensures.image c.in-Ok.ensures.past
