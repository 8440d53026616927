use Rattle.std.proofs.Common.{◌≡◌}
use Rattle.hub_core.specs.Mail.{expired_mail}
use Rattle.hub_core.proofs.Changing.{changed_to}
use Rattle.hub_core.proofs.remembered.expire_lives.Given as goal

abbrev pub invariant-loop-live : goal.invariant-loop-live
invariant-loop-live g l = l.live-items ≡ changed_to (expired_mail l.moment) l.live-index l.fn.lives.items
