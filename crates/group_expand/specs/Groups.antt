-- What is known of a sender's groups.
use Rattle.std.specs.Prelude.{◌≡◌, ℕ, Bool, List, get_or, Option, Some, None}
use Rattle.org_directory.specs.Register.{Register, key_at}
use Rattle.org_directory.specs.Membership.{is_in}
use Rattle.group_expand.specs.declared.groups.Groups.{Groups}

-- Each answer that is known is the true one. The null sender asks no group.
abbrev pub KnowsGroups : Register → Option (List ℕ) → Groups → Type 0
KnowsGroups reg None groups = Unit {0}
KnowsGroups reg (Some sender) groups =
    (p : ℕ) (b : Bool) → get_or groups.known.items p None ≡ Some b → b ≡ is_in reg (key_at reg p) sender
