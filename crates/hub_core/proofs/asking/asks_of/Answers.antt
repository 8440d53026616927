use Rattle.std.proofs.Common.{◌∙◌, ap, sym}
use Rattle.mail_plan.specs.Planning.{have_moderators}
use Rattle.hub_core.proofs.Holding.{have-first}
use Rattle.hub_core.proofs.asking.asks_of.Goals as goal

pub asking_of-requires-clause-some : goal.asking_of-requires-clause-some
asking_of-requires-clause-some c =
    (have-first c.in-Some.hold c.next.new.self.rest.items (ap have_moderators (sym c.in-Some.ensures.steps.0) ∙ c.loop-hold.invariant.0)).0

pub asking_of-requires-clause-few : goal.asking_of-requires-clause-few
asking_of-requires-clause-few c =
    (have-first c.in-Some.hold c.next.new.self.rest.items (ap have_moderators (sym c.in-Some.ensures.steps.0) ∙ c.loop-hold.invariant.0)).1
