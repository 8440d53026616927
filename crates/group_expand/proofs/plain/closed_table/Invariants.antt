use Rattle.std.proofs.Common.{◌≡◌, ◌<◌, ℕ, length, get_or, false, option_copied}
use Rattle.org_directory.specs.Register.{key_at}
use Rattle.group_expand.specs.Expansion.{is_closed}
use Rattle.group_expand.proofs.plain.closed_table.Given as goal

abbrev pub invariant-loop-id : goal.invariant-loop-id
invariant-loop-id l =
    (length l.table.items ≡ l.id)
    × ((p : ℕ) → p < l.id → get_or l.table.items p false ≡ is_closed l.directory (option_copied l.sender) l.opened (key_at l.directory p))
