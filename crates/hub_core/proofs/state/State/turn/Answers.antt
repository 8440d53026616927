use Rattle.std.proofs.Common.{ap, sym, ◌∙◌}
use Rattle.hub_core.specs.Standing.{live_bytes}
use Rattle.hub_core.proofs.Room.{bytes-expired}
use Rattle.hub_core.proofs.state.State.turn.Goals as goal

pub invariant_of-self-2 : goal.invariant_of-self-2
invariant_of-self-2 g c = (
  c.is_moment.ensures.last c.if-not-is_moment.false,
  c.self.invariant.1 ∙ sym (bytes-expired _ c.self.inside.live) ∙ ap live_bytes (sym c.expire.ensures),
)
