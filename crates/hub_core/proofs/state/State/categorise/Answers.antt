use Rattle.std.proofs.Common.{◌-◌, ap, sym, ◌∙◌}
use Rattle.hub_core.specs.Standing.{live_bytes}
use Rattle.hub_core.proofs.Room.{bytes-asks}
use Rattle.hub_core.proofs.state.State.categorise.Goals as goal

pub invariant_of-self-2 : goal.invariant_of-self-2
invariant_of-self-2 g c = (
  c.self.invariant.0,
  c.self.invariant.1 ∙ sym (bytes-asks c.args.release c.in_ok-asks.asks.items (c.args.number - 1) c.self.inside.live) ∙ ap live_bytes (sym c.categorise.ensures),
)
