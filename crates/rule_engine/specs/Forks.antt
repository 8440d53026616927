-- Leaves by the edits that are done for them.
use Rattle.std.specs.Prelude.{ℕ, ◌+◌, ◌==◌, ◌&&◌, Bool, if◌then◌else◌, List, [], ◌∷◌, ◌++◌, map, fold}
use Rattle.std.specs.Cmp.Lexicographic.{pointwise}
use Rattle.std.specs.List.{list_any}
use Rattle.mail_names.specs.declared.gate.Gate.{Gate}
use Rattle.mail_message.specs.Message.{Mail}
use Rattle.group_expand.specs.declared.outcome.Leaf.{Leaf}
use Rattle.rule_terms.specs.declared.rule.Rule.{Rule}
use Rattle.rule_match.specs.Applies.{Setting}
use Rattle.rule_engine.specs.declared.edit.EditAt.{EditAt}
use Rattle.rule_engine.specs.declared.forking.Fork.{Fork}
use Rattle.rule_engine.specs.Edits.{edits}

-- the edits of the leaves one by one, each by its key alone
abbrev pub all_edits : List Rule → Setting → Mail → List Gate → List Leaf → List (List EditAt)
all_edits rules setting message opened [] = []
all_edits rules setting message opened (leaf ∷ leaves) =
    edits rules setting message opened leaf.key ∷ all_edits rules setting message opened leaves

abbrev pub same_edit : EditAt → EditAt → Bool
same_edit a b = a.rule == b.rule && a.action == b.action

abbrev pub same_edits : List EditAt → List EditAt → Bool
same_edits list other = pointwise same_edit list other

-- whether a list of edits is among these
abbrev pub is_kind : List (List EditAt) → List EditAt → Bool
is_kind kinds list = list_any (same_edits list) kinds

-- these lists, and this one behind them unless it is there
abbrev pub with_kind : List (List EditAt) → List EditAt → List (List EditAt)
with_kind kinds list = if is_kind kinds list then kinds else kinds ++ list ∷ []

-- the distinct ones, in the order in which they come first
abbrev pub kinds_of : List (List EditAt) → List (List EditAt)
kinds_of all = fold with_kind [] all

-- the places of those that are this list, where the first place is this number
abbrev pub places_of : List EditAt → ℕ → List (List EditAt) → List ℕ
places_of list place [] = []
places_of list place (other ∷ others) =
    if same_edits list other then place ∷ places_of list (place + 1) others else places_of list (place + 1) others

-- the fork of a list of edits: the leaves that have these edits, in order
abbrev pub fork_of : List (List EditAt) → List EditAt → Fork
fork_of all list = record { edits = list; leaves = places_of list 0 all }

-- a fork for each list of edits, in the order of their first leaves
abbrev pub forks_of : List (List EditAt) → List Fork
forks_of all = map (fork_of all) (kinds_of all)
