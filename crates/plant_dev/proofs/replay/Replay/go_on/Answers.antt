use Rattle.std.proofs.Common.{◌≡◌, ◌∷◌, ◌∙◌, sym, subst, rules}
use Rattle.plant_dev.specs.declared.step.Step.{Step}
use Rattle.plant_dev.specs.Replay.{HasReplayed}
use Rattle.plant_dev.proofs.MemoryModel.{replay_sync}
use Rattle.plant_dev.proofs.replay.Replay.go_on.Goals as goal

pub returns-in_ok-self-in-Sync : goal.returns-in_ok-self-in-Sync
returns-in_ok-self-in-Sync c first past replayed =
    let r = c.args.self.now in
    let left = c.in_ok-self-in-Sync.field-0 in
    let copy : left.items ≡ r.read.items = search rules in
    subst (λ (s : Step). HasReplayed first (s ∷ past) (record { read = r.read; left = left; shelf = r.shelf })) (sym c.in-Sync.is)
    (record {
      read = replayed.read;
      image = (replay_sync first past left.items r.left.items r.shelf.items (copy ∙ replayed.read) replayed.image, copy ∙ replayed.read);
    })
