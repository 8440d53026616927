-- What a plant in memory keeps, as contracts see it.
use Rattle.std.specs.Prelude.{List, reverse, take}
use Rattle.plant_dev.specs.declared.step.Step.{Step}
use Rattle.plant_dev.specs.declared.history.History.{History}
use Rattle.plant_dev.specs.Disk.{Image}
use Rattle.plant_dev.specs.Memory.{first_file_of}

-- what it began with
abbrev pub first_of : History → Image
first_of h = record { file = first_file_of h.first_file h.file; shelf = take h.first_items h.shelf.items }

-- what it reads as
abbrev pub image_of : History → Image
image_of h = record { file = h.file.items; shelf = h.shelf.items }

-- its steps, the newest first
abbrev pub past_of : History → List Step
past_of h = reverse h.steps.items
