use Rattle.categorizer.proofs.holds.object_approvers.Goals as goal

pub moderators-requires : goal.moderators-requires
moderators-requires c = c.is_sound.ensures.placed c.in-Some.place c.object.result.now c.object.ensures
