use Rattle.std.proofs.Common.{◌≡◌, Some, drop}
use Rattle.std.specs.List.{list_any}
use Rattle.org_directory.specs.Membership.{is_in}
use Rattle.org_directory.specs.Register.{keys_at}
use Rattle.group_expand.specs.Groups.{KnowsGroups}
use Rattle.group_expand.proofs.approval.is_in_some.Given as goal

abbrev pub invariant-loop-place : goal.invariant-loop-place
invariant-loop-place l =
    (list_any (λ g. is_in l.directory g l.sender) (keys_at l.directory (drop l.place-index l.bypass)) ≡ list_any (λ g. is_in l.directory g l.sender) (keys_at l.directory l.bypass))
    × KnowsGroups l.directory (Some l.sender) l.groups
