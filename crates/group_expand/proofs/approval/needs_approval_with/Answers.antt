use Rattle.group_expand.proofs.approval.needs_approval_with.Goals as goal

pub is_cleared-requires-clause-range : goal.is_cleared-requires-clause-range
is_cleared-requires-clause-range c = c.is_sound.ensures.placed c.args.id c.object-object.result.now c.object-object.ensures
