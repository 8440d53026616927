use Rattle.std.proofs.Common.{◌≡◌, ◌-◌, ◌++◌, ◌<◌, length, drop}
use Rattle.std.specs.Prelude.{All}
use Rattle.std.specs.List.{flat_map}
use Rattle.org_directory.specs.Register.{keys_at}
use Rattle.group_expand.specs.Routes.{shut_by, web_of}
use Rattle.group_expand.specs.Ways.{ways}
use Rattle.group_expand.proofs.plain.+add_ways.Given as goal

abbrev pub invariant-loop-member : goal.invariant-loop-member
invariant-loop-member l =
    (All (λ p. p < length l.directory.objects) l.member-items)
    × (l.found ++ flat_map (ways (web_of l.directory (shut_by l.directory l.table)) (l.room - 1) l.behind) (keys_at l.directory (drop l.member-index l.member-items))
    ≡ l.fn.found ++ ways (web_of l.directory (shut_by l.directory l.table)) l.room l.passed l.key)

abbrev pub decreases-add_ways : goal.decreases-add_ways
decreases-add_ways l = l.room
