use Rattle.std.proofs.Common.{◌∷◌, Some, arith, sym, ap, ◌∙◌, subst}
use Rattle.atomic_table.specs.Table.{rest}
use Rattle.desk_turns.proofs.Moves.{gives_home}
use Rattle.desk_turns.proofs.Steps.{same_stage, same_hand, same_lead, made}
use Rattle.desk_turns.proofs.desk.Desk.give_home.Goals as goal

pub store-requires : goal.store-requires
store-requires g c =
    let t = c.args.self.now.table.shared in
    let size = c.args.self.now.sized.0 in
    let e = c.exchange.ensures in
    let m = c.requires.made in
    let does = g.C.Deeds.does in
    let holding = same_stage e.3 ∙ c.requires.holding.0 in
    let hand = same_hand e.3 ∙ ap (λ l. (0, Some c.args.value) ∷ rest l) c.requires.holding.1 in (
      e.0 ∙ c.requires.own.0,
      omega arith,
      gives_home does t.key.calls t.key.first.value t.table_id.slots c.exchange.new.seat.id c.exchange.new.seat.me _ m.0 c.args.value m.1 g.N.Naming.names holding hand (same_lead does m.0 e.3 m.2) m.3
          (subst (λ n. g.N.Naming.names n m.1) (sym e.1) m.4),
    )

pub returns-clause-made : goal.returns-clause-made
returns-clause-made g c =
    let t = c.args.self.now.table.shared in
    made g.C.Deeds.does g.N.Naming.names t.table_id.slots c.args.token.now.me c.exchange.new.seat.me c.store.new.seat.me c.args.value c.requires.holding.0 c.requires.holding.1 c.exchange.ensures.3 c.store.ensures.2
