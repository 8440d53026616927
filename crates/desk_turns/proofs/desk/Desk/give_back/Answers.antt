use Rattle.std.proofs.Common.{◌<◌, arith, subst}
use Rattle.desk_turns.proofs.Moves.{gives_back}
use Rattle.desk_turns.proofs.desk.Desk.give_back.Goals as goal

pub fetch_add-requires : goal.fetch_add-requires
fetch_add-requires g c =
    let desk = c.args.self.now in
    let t = desk.table.shared in
    let size = desk.sized.0 in
    let small : t.key.calls < 18446744073709551616 = subst (λ n. n < 18446744073709551616) desk.calls_is desk.fit in
    (c.requires.own, omega arith, gives_back g.C.Deeds.does t.key.calls t.key.first.value t.table_id.slots c.args.token.now.id c.args.token.now.me c.requires.returned.0 small c.requires.returned.1)
