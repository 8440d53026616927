use Rattle.std.proofs.Common.{reverse, take}
use Rattle.plant_dev.specs.Replay.{HasReplayed}
use Rattle.plant_dev.proofs.replay.replayed.Given as goal

abbrev pub invariant-loop-step : goal.invariant-loop-step
invariant-loop-step l = HasReplayed (record { file = l.file; shelf = l.shelf }) (reverse (take l.step-index l.steps)) l.replay
