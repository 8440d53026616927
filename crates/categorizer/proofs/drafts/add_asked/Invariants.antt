use Rattle.std.proofs.Common.{◌≡◌, ◌++◌, drop, map}
use Rattle.categorizer.specs.Releasing.{request_to}
use Rattle.categorizer.proofs.drafts.add_asked.Given as goal

abbrev pub invariant-loop-moderator : goal.invariant-loop-moderator
invariant-loop-moderator l = l.drafts ++ map (request_to l.text) (drop l.moderator-index l.moderators) ≡ l.fn.drafts ++ map (request_to l.text) l.moderators
