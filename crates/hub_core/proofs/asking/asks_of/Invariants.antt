use Rattle.std.proofs.Common.{◌≡◌, ◌++◌, true, map}
use Rattle.mail_plan.specs.Planning.{have_moderators}
use Rattle.hub_core.specs.Approvals.{asking_of}
use Rattle.hub_core.proofs.asking.asks_of.Given as goal

abbrev pub invariant-loop-hold : goal.invariant-loop-hold
invariant-loop-hold l =
    (have_moderators l.hold-iterator.rest.items ≡ true)
    × (l.asks.items ++ map (asking_of l.made) l.hold-iterator.rest.items ≡ map (asking_of l.made) l.fn.holds.items)
