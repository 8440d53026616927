use Rattle.std.proofs.Common.{◌++◌, [], ◌∷◌}
use Rattle.plant_dev.proofs.Offered.{stays_honest}
use Rattle.queue_disk.proofs.Pending.{first_moments, both_moments}
use Rattle.queue_disk.proofs.log.Log.append.Goals as goal

pub returns-in_err-add-clause-any_moment : goal.returns-in_err-add-clause-any_moment
returns-in_err-add-clause-any_moment g c h t honest was =
    first_moments (g.P.Plant.state c.args.plant.now) (g.P.Plant.state c.add.new.plant) h (t ++ c.args.entry.now ∷ []) (c.add.ensures.any_moment h t honest was)

pub returns-in_err-settle-clause-any_moment : goal.returns-in_err-settle-clause-any_moment
returns-in_err-settle-clause-any_moment g c h t honest was =
    let s0 = g.P.Plant.state c.args.plant.now in
    let s1 = g.P.Plant.state c.add.new.plant in
    let s2 = g.P.Plant.state c.settle.new.plant in
    let more = t ++ c.args.entry.now ∷ [] in
    let added = c.in_ok-add.ensures.added h t c.args.entry.now c.in_ok-framed.ensures.bytes honest was in
    both_moments s0 s1 s2 h more (c.add.ensures.any_moment h t honest was) (c.settle.ensures.any_moment h more (stays_honest s0 s1 c.add.ensures.stays honest) added)

pub returns-clause-any_moment : goal.returns-clause-any_moment
returns-clause-any_moment g c h t honest was =
    let s0 = g.P.Plant.state c.args.plant.now in
    let s1 = g.P.Plant.state c.add.new.plant in
    let s2 = g.P.Plant.state c.settle.new.plant in
    let more = t ++ c.args.entry.now ∷ [] in
    let added = c.in_ok-add.ensures.added h t c.args.entry.now c.in_ok-framed.ensures.bytes honest was in
    both_moments s0 s1 s2 h more (c.add.ensures.any_moment h t honest was) (c.settle.ensures.any_moment h more (stays_honest s0 s1 c.add.ensures.stays honest) added)
