-- What a rule and a journal rule of a rules file read to.
use Rattle.std.specs.Prelude.{ℕ, Bool, true, false, if◌then◌else◌, List, codes, Option, Some, None, option_map, option_and_then, Result, Ok, Err}
use Rattle.std.specs.Str.{bytes_eq}
use Rattle.toml.specs.Data.{Data, Items, Members, get_member, as_table}
use Rattle.org_directory.specs.Register.{Register, is_deliverable, place_of}
use Rattle.rule_terms.specs.Actions.{action_of}
use Rattle.rule_terms.specs.Forms.{go_together, is_within}
use Rattle.rule_terms.specs.Lists.{and_then, count, each}
use Rattle.rule_terms.specs.Parts.{as_key, flag_at, formed_at, has_only, items_at, key_at, keys_of, moment_at, optional, text_at}
use Rattle.rule_terms.specs.Terms.{terms_at}
use Rattle.rule_terms.specs.declared.action.Action.{Action}
use Rattle.rule_terms.specs.declared.fault.RuleFault.{RuleFault}
use Rattle.rule_terms.specs.declared.fault.RuleFault.TheVariants as faults
use Rattle.rule_terms.specs.declared.flaw.Flaw.{Flaw}
use Rattle.rule_terms.specs.declared.flaw.Flaw.TheVariants as flaws
use Rattle.rule_terms.specs.declared.form.Form.TheVariants as forms
use Rattle.rule_terms.specs.declared.read_rule.Conditions.{Conditions}
use Rattle.rule_terms.specs.declared.read_rule.Head.{Head}
use Rattle.rule_terms.specs.declared.rule.JournalRule.{JournalRule}
use Rattle.rule_terms.specs.declared.rule.Rule.{Rule}
use Rattle.rule_terms.specs.declared.rule.Scope.{Scope}
use Rattle.rule_terms.specs.declared.rule.Scope.TheVariants as scopes
use Rattle.rule_terms.specs.declared.shape.Shape.TheVariants as shapes
use Rattle.rule_terms.specs.declared.term.Term.{Term}

-- the fault of rule n one of whose terms has a flaw
abbrev pub term_fault : ℕ → Flaw → RuleFault
term_fault n flaws.Bad = faults.BadTerm n
term_fault n flaws.BadCode = faults.BadTerm n
term_fault n flaws.Unknown = faults.UnknownKey n

-- the fault of rule n one of whose actions has a flaw
abbrev pub action_fault : ℕ → Flaw → RuleFault
action_fault n flaws.Bad = faults.BadAction n
action_fault n flaws.BadCode = faults.BadCode n
action_fault n flaws.Unknown = faults.UnknownKey n

-- The dates are judged first, and the conditions before the exceptions.
abbrev pub conditions : ℕ → Option (Option ℕ) → Option (Option ℕ) → Result (List Term) Flaw → Result (List Term) Flaw → Result Conditions RuleFault
conditions n (Some from) (Some until) (Ok when) (Ok unless) = Ok (record { from = from; until = until; when = when; unless = unless })
conditions n (Some from) (Some until) (Ok when) (Err flaw) = Err (term_fault n flaw)
conditions n (Some from) (Some until) (Err flaw) unless = Err (term_fault n flaw)
conditions n (Some from) None when unless = Err (faults.BadDate n)
conditions n None until when unless = Err (faults.BadDate n)

-- the dates, conditions and exceptions of rule n
abbrev pub conditions_in : Register → ℕ → Members → Result Conditions RuleFault
conditions_in reg n ms =
    conditions n (moment_at (codes "from") ms) (moment_at (codes "until") ms) (terms_at reg (codes "when") ms) (terms_at reg (codes "unless") ms)

-- 1 to 16 items
abbrev pub if_some_actions : Option Items → Option Items
if_some_actions None = None
if_some_actions (Some items) = if is_within 1 16 (count items) then Some items else None

-- a name and two flags
abbrev pub head : Option (List ℕ) → Option Bool → Option Bool → Option Head
head (Some name) (Some enabled) (Some stop) = Some (record { name = name; enabled = enabled; stop = stop })
head (Some name) (Some enabled) None = None
head (Some name) None stop = None
head None enabled stop = None

-- A rule has its own keys alone, and its name and flags have the form.
abbrev pub head_in : Members → Option Head
head_in ms =
    if has_only (keys_of shapes.Rule) ms
    then head (formed_at forms.Name (codes "name") ms) (flag_at (codes "enabled") true ms) (flag_at (codes "stop") false ms)
    else None

-- the actions of rule n, if they go together
abbrev pub together : ℕ → Result (List Action) Flaw → Result (List Action) RuleFault
together n (Ok actions) = if go_together actions then Ok actions else Err (faults.BadAction n)
together n (Err flaw) = Err (action_fault n flaw)

-- a rule of these parts
abbrev pub rule_of_parts : Conditions → Head → List Action → Rule
rule_of_parts c h actions = record {
  name = h.name;
  enabled = h.enabled;
  from = c.from;
  until = c.until;
  stop = h.stop;
  when = c.when;
  unless = c.unless;
  actions = actions;
}

-- a rule, where its actions were read
abbrev pub with_actions : Conditions → Head → Result (List Action) RuleFault → Result Rule RuleFault
with_actions c h (Ok actions) = Ok (rule_of_parts c h actions)
with_actions c h (Err e) = Err e

-- the rest of a rule, whose conditions are read
abbrev pub rest_of : Register → ℕ → Conditions → Option Head → Option Items → Result Rule RuleFault
rest_of reg n c (Some h) (Some items) = with_actions c h (together n (each (action_of reg) items))
rest_of reg n c (Some h) None = Err (faults.BadAction n)
rest_of reg n c None items = Err (faults.BadAction n)

-- rule n, as a table says it
abbrev pub rule_in : Register → ℕ → Option Members → Result Rule RuleFault
rule_in reg n None = Err faults.NotToml
rule_in reg n (Some ms) =
    and_then (conditions_in reg n ms) (λ c. rest_of reg n c (head_in ms) (if_some_actions (items_at (codes "do") ms)))

-- rule n
unfoldable pub rule_of : Register → ℕ → Data → Result Rule RuleFault
rule_of reg n d = rule_in reg n (as_table d)

-- the scope that a word names
abbrev pub scope_in : List ℕ → Option Scope
scope_in word =
    if bytes_eq word (codes "internal") then Some scopes.Internal
    else (if bytes_eq word (codes "external") then Some scopes.External
    else (if bytes_eq word (codes "global") then Some scopes.Global else None))

-- the place of an object, where a key is given
abbrev pub place_if : Register → Option (List ℕ) → Option (Option ℕ)
place_if reg None = Some None
place_if reg (Some key) = option_map (λ place. Some place) (place_of reg key)

-- a journal rule whose keys are known
abbrev pub known : Register → ℕ → List ℕ → Scope → Option (Option ℕ) → List ℕ → Result JournalRule RuleFault
known reg n name scope (Some recipient) mailbox =
    if is_deliverable reg mailbox
    then Ok (record { name = name; scope = scope; recipient = recipient; mailbox = mailbox })
    else Err (faults.UnknownKey n)
known reg n name scope None mailbox = Err (faults.UnknownKey n)

-- A journal rule has each part, before its keys are looked for.
abbrev pub journal : Register → ℕ → Option (List ℕ) → Option Scope → Option (Option (List ℕ)) → Option (List ℕ) → Result JournalRule RuleFault
journal reg n (Some name) (Some scope) (Some recipient) (Some mailbox) = known reg n name scope (place_if reg recipient) mailbox
journal reg n (Some name) (Some scope) (Some recipient) None = Err (faults.BadAction n)
journal reg n (Some name) (Some scope) None mailbox = Err (faults.BadAction n)
journal reg n (Some name) None recipient mailbox = Err (faults.BadAction n)
journal reg n None scope recipient mailbox = Err (faults.BadAction n)

-- the journal rule with the number n, as a table says it
abbrev pub journal_in : Register → ℕ → Option Members → Result JournalRule RuleFault
journal_in reg n None = Err faults.NotToml
journal_in reg n (Some ms) =
    if has_only (keys_of shapes.Journal) ms
    then journal reg n (formed_at forms.Name (codes "name") ms) (option_and_then scope_in (text_at (codes "scope") ms))
    (optional as_key (get_member (codes "recipient") ms)) (key_at (codes "mailbox") ms)
    else Err (faults.BadAction n)

-- the journal rule with the number n
unfoldable pub journal_of : Register → ℕ → Data → Result JournalRule RuleFault
journal_of reg n d = journal_in reg n (as_table d)
