-- How puts into a folder of a plant in memory are to fail.
use Rattle.std.specs.Prelude.{ℕ, if◌then◌else◌, List, [], ◌∷◌, bytes_eq}
use Rattle.plant_dev.specs.declared.failures.Failing.{Failing}
use Rattle.plant_dev.specs.declared.failures.Failing.TheVariants as failing
use Rattle.plant_dev.specs.declared.failures.FolderPlan.{FolderPlan}

-- how puts into this folder fail, by the plans, the newest first
abbrev pub failing_by : List FolderPlan → List ℕ → Failing
failing_by [] folder = failing.Never
failing_by (plan ∷ plans) folder = if bytes_eq plan.folder folder then plan.how else failing_by plans folder
