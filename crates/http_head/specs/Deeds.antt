-- What a route and its path mean.
use Rattle.std.specs.Prelude.{◌≡◌, ℕ, Bool, true, false, List, codes, Option, Some, None, Result, Ok, Err}
use Rattle.mail_names.specs.Key.{key_of}
use Rattle.mail_names.specs.Names.{name_text, approval_text, IsItemName, IsApprovalName}
use Rattle.mail_names.specs.declared.key.NameFault.{NameFault}
use Rattle.mail_names.specs.declared.name.ItemName.{ItemName}
use Rattle.mail_names.specs.declared.name.ApprovalName.{ApprovalName}
use Rattle.moderation.specs.declared.approval.Verdict.{Verdict}
use Rattle.moderation.specs.declared.approval.Verdict.TheVariants as verdicts
use Rattle.http_head.specs.declared.route.Route.{Route}
use Rattle.http_head.specs.declared.route.Route.TheVariants as routes
use Rattle.http_head.specs.declared.deed.Deed.{Deed}
use Rattle.http_head.specs.declared.deed.Deed.TheVariants as deeds
use Rattle.http_head.specs.Paths.{path_part}

-- a key, if the octets read to one
abbrev pub read_key : Result (List ℕ) NameFault → Option (List ℕ)
read_key (Ok key) = Some key
read_key (Err e) = None

-- the word of a verdict, in lower case
abbrev pub verdict_word : Verdict → List ℕ
verdict_word verdicts.Approve = codes "approve"
verdict_word verdicts.Reject = codes "reject"

-- GET /folders/{key}/{name}
pub record AsksItem (target : List ℕ) (folder : List ℕ) (name : ItemName) : Type 0 where
  pub folder_is : read_key (key_of (path_part 2 target)) ≡ Some folder
  pub name_is : name_text name ≡ path_part 3 target
  pub fits : IsItemName name

-- POST /approvals/{name}/{verdict}/{by}
pub record AsksDecision (target : List ℕ) (approval : ApprovalName) (verdict : Verdict) (by : List ℕ) : Type 0 where
  pub approval_is : approval_text approval ≡ path_part 2 target
  pub fits : IsApprovalName approval
  pub verdict_is : verdict_word verdict ≡ path_part 3 target
  pub by_is : read_key (key_of (path_part 4 target)) ≡ Some by

-- The deed that a route and its path mean: each part of the path is the key, name or verdict that its place wants.
abbrev pub Means : Route → List ℕ → Deed → Type 0
Means routes.Queue target deed = deed ≡ deeds.Queue
Means routes.Approvals target deed = deed ≡ deeds.Approvals
Means routes.Ended target deed = deed ≡ deeds.Ended
Means routes.Folder target deed =
    (folder : List ℕ) × (read_key (key_of (path_part 2 target)) ≡ Some folder) × (deed ≡ deeds.Folder folder)
Means routes.Item target deed =
    (folder : List ℕ) × (name : ItemName) × AsksItem target folder name × (deed ≡ deeds.Item folder name)
Means routes.Directory target deed = deed ≡ deeds.Directory
Means routes.Rules target deed = deed ≡ deeds.Rules
Means routes.Decide target deed =
    (approval : ApprovalName) × (verdict : Verdict) × (by : List ℕ)
    × AsksDecision target approval verdict by × (deed ≡ deeds.Decide approval verdict by)
Means routes.Turn target deed = deed ≡ deeds.Turn
Means routes.Stop target deed = deed ≡ deeds.Stop

-- This deed is meant, or none is.
abbrev pub IsMeant : Route → List ℕ → Option Deed → Type 0
IsMeant route target (Some deed) = Means route target deed
IsMeant route target None = (deed : Deed) → Means route target deed → ⊥

-- The path of the route has a key.
abbrev pub has_key : Route → Bool
has_key routes.Queue = false
has_key routes.Approvals = false
has_key routes.Ended = false
has_key routes.Folder = true
has_key routes.Item = true
has_key routes.Directory = false
has_key routes.Rules = false
has_key routes.Decide = true
has_key routes.Turn = false
has_key routes.Stop = false
