-- What a crash leaves, as far as the steps have been gone through.
use Rattle.std.specs.Prelude.{◌≡◌, List}
use Rattle.plant_dev.specs.declared.step.Step.{Step}
use Rattle.plant_dev.specs.declared.replay.Replay.{Replay}
use Rattle.plant_dev.specs.Disk.{Image}
use Rattle.plant_dev.specs.Memory.{file_after, IsImage}

pub record HasReplayed (first : Image) (past : List Step) (r : Replay) : Type 0 where
  pub read : r.read.items ≡ file_after first.file past
  pub image : IsImage first past (record { file = r.left.items; shelf = r.shelf.items })
