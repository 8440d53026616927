use Rattle.std.proofs.Common.{[], ◌∷◌, ◌++◌, Some, sym, ap, ◌∙◌, subst}
use Rattle.atomic_table.specs.Table.{opening}
use Rattle.desk_turns.specs.Rule.{Kept, newcomer}
use Rattle.desk_turns.proofs.Moves.{opens}
use Rattle.desk_turns.proofs.desk.Desk.open.Goals as goal

pub new-requires : goal.new-requires
new-requires g c =
    let does = g.C.Deeds.does in
    let slots = c.push_reserved.ensures.items ∙ ap (λ l. l ++ Some c.args.value ∷ []) c.in-Ok.ensures.items in
    subst (λ l. Kept does c.args.calls c.of.result.value (opening (0 ∷ 0 ∷ 0 ∷ []) l (newcomer c.args.calls c.of.result.value))) (sym slots)
    (subst (λ x. Kept does c.args.calls x (opening (0 ∷ 0 ∷ 0 ∷ []) (Some c.args.value ∷ []) (newcomer c.args.calls x))) (sym c.of.ensures)
    (opens does c.args.calls c.args.value))
