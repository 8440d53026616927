use Rattle.std.proofs.Common.{◌≡◌, ◌+◌, ◌++◌, [], length, drop}
use Rattle.std.specs.List.{flat_map}
use Rattle.group_expand.specs.Routes.{all_ways, shut_by, web_of}
use Rattle.group_expand.specs.Ways.{ways}
use Rattle.group_expand.proofs.plain.all_ways.Given as goal

abbrev pub invariant-loop-root : goal.invariant-loop-root
invariant-loop-root l =
    (l.room ≡ length l.directory.objects + 1)
    × (l.found ++ flat_map (ways (web_of l.directory (shut_by l.directory l.table)) (length l.directory.objects + 1) []) (drop l.root-index l.roots)
    ≡ all_ways l.directory (shut_by l.directory l.table) l.roots)
