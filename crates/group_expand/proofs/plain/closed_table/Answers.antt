use Rattle.std.proofs.Common.{◌≡◌, ◌++◌, ◌∷◌, [], option_copied}
use Rattle.group_expand.specs.Expansion.{is_closed}
use Rattle.org_directory.specs.Register.{key_at}
use Rattle.group_expand.proofs.Table.{table-more}
use Rattle.group_expand.proofs.plain.closed_table.Goals as goal

pub loop-id-preserved : goal.loop-id-preserved
loop-id-preserved c =
    let items : c.push.new.self.items ≡ c.loop-id.table.items ++ c.in_ok-is_shut.field-0 ∷ [] = cc (c.in_ok-push.ensures.items, c.push.ensures.items) in
    table-more c.loop-id.table.items c.push.new.self.items c.in_ok-is_shut.field-0 c.loop-id.id
    (λ p. is_closed c.args.directory.now (option_copied c.args.sender) c.args.opened.now (key_at c.args.directory.now p))
    items c.loop-id.invariant.0 c.loop-id.invariant.1 c.in_ok-is_shut.ensures
