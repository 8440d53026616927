use Rattle.std.proofs.Common.{reverse, rules, take}
use Rattle.plant_dev.proofs.MemoryModel.{no_name_twice_left}
use Rattle.plant_dev.proofs.history.History.crash.Goals as goal

pub new-requires : goal.new-requires
new-requires c =
    let h = c.args.self.now in
    no_name_twice_left _ _ (reverse h.steps.items) h.shelf.items (take h.first_items h.shelf.items) _ c.in_ok-left.ensures.image
    h.no_name_twice h.shelf_kept (search rules) (search rules)
