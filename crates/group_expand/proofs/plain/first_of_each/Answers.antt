use Rattle.group_expand.proofs.Listing.{first-more}
use Rattle.group_expand.proofs.plain.first_of_each.Goals as goal

pub loop-way-preserved : goal.loop-way-preserved
loop-way-preserved c =
    first-more c.loop-way.first c.add_new.new.first c.loop-way.yielded c.in-Some.way c.loop-way.invariant c.in_ok-add_new.ensures
