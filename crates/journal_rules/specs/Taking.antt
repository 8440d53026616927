-- Which mail a journal rule takes, and which mailboxes get reports of it.
use Rattle.std.specs.Prelude.{ℕ, ◌+◌, Bool, true, false, not, ◌&&◌, ◌||◌, if◌then◌else◌, List, [], ◌∷◌, ◌++◌, map, filter, fold, slice_get, Option, Some, None}
use Rattle.std.specs.List.{list_any}
use Rattle.std.specs.Str.{bytes_eq}
use Rattle.org_directory.specs.Register.{Register, among, is_inside}
use Rattle.org_directory.specs.Membership.{is_in}
use Rattle.org_directory.specs.declared.object.Object.{Object}
use Rattle.rule_terms.specs.declared.rule.JournalRule.{JournalRule}
use Rattle.rule_terms.specs.declared.rule.Scope.{Scope}
use Rattle.rule_terms.specs.declared.rule.Scope.TheVariants as scopes
use Rattle.journal_rules.specs.declared.taking.Taken.{Taken}

-- The null sender is outside.
abbrev pub is_sender_inside : Register → Option (List ℕ) → Bool
is_sender_inside reg None = false
is_sender_inside reg (Some sender) = is_inside reg sender

-- internal: both are inside; external: at least one is outside; global: always
abbrev pub is_in_scope : Scope → Bool → Bool → Bool
is_in_scope scopes.Internal sender target = sender && target
is_in_scope scopes.External sender target = not sender || not target
is_in_scope scopes.Global sender target = true

-- The object has this key, or is a group with it at any depth.
abbrev pub is_or_has : Register → List ℕ → Object → Bool
is_or_has reg key o = bytes_eq key o.key || is_in reg o.key key

-- The object is, or has, the sender or the target. No object is nobody's.
abbrev pub is_about : Register → Option (List ℕ) → List ℕ → Option Object → Bool
is_about reg sender target None = false
is_about reg None target (Some o) = is_or_has reg target o
is_about reg (Some sender) target (Some o) = is_or_has reg sender o || is_or_has reg target o

-- a rule without a journal recipient is about everyone
abbrev pub is_recipient : Register → Option (List ℕ) → List ℕ → Option ℕ → Bool
is_recipient reg sender target None = true
is_recipient reg sender target (Some place) = is_about reg sender target (slice_get reg.objects place)

-- Takes: the rule takes mail of this sender to this target.
abbrev pub takes : Register → Option (List ℕ) → List ℕ → JournalRule → Bool
takes reg sender target j =
    is_in_scope j.scope (is_sender_inside reg sender) (is_inside reg target) && is_recipient reg sender target j.recipient

-- A rule with this mailbox takes the target.
abbrev pub is_taken : Register → Option (List ℕ) → List JournalRule → List ℕ → List ℕ → Bool
is_taken reg sender journals mailbox target = list_any (λ j. bytes_eq mailbox j.mailbox && takes reg sender target j) journals

-- the mailboxes, and this one behind them unless it is there
abbrev pub one_more : List (List ℕ) → List ℕ → List (List ℕ)
one_more mailboxes mailbox = if among mailbox mailboxes then mailboxes else mailboxes ++ mailbox ∷ []

-- the mailboxes of the rules, each once, in the order in which they are first named
abbrev pub named : List JournalRule → List (List ℕ)
named journals = fold one_more [] (map (λ j. j.mailbox) journals)

-- where the targets that pass stand, the first of these at a place
abbrev pub places : (List ℕ → Bool) → ℕ → List (List ℕ) → List ℕ
places passes at [] = []
places passes at (target ∷ targets) = if passes target then at ∷ places passes (at + 1) targets else places passes (at + 1) targets

-- a mailbox, and the places of the targets that its rules take
abbrev pub taken_by : Register → Option (List ℕ) → List JournalRule → List (List ℕ) → List ℕ → Taken
taken_by reg sender journals targets mailbox =
    record { mailbox = mailbox; targets = places (is_taken reg sender journals mailbox) 0 targets }

abbrev pub has_some : List ℕ → Bool
has_some [] = false
has_some (place ∷ places) = true

-- each mailbox that takes a target, with all that it takes
abbrev pub takings : Register → Option (List ℕ) → List JournalRule → List (List ℕ) → List Taken
takings reg sender journals targets =
    filter (λ t. has_some t.targets) (map (taken_by reg sender journals targets) (named journals))
