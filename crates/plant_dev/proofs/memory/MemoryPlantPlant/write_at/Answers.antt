use Rattle.plant_dev.proofs.MemoryModel.{writes_to}
use Rattle.plant_dev.proofs.memory.MemoryPlantPlant.write_at.Goals as goal

pub returns-in-Ok-clause-writes : goal.returns-in-Ok-clause-writes
returns-in-Ok-clause-writes c honest =
    writes_to _ _ _ _ _ _ _ _ _ _ c.in-Ok.ensures.first c.in-Ok.ensures.image c.in-Ok.ensures.past
