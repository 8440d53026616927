-- What is sent, who is rejected and which gates hold, computed afresh for each list of opened gates.
use Rattle.std.specs.Prelude.{ℕ, ◌+◌, ◌==◌, ◌&&◌, not, Bool, false, if◌then◌else◌, List, [], ◌∷◌, ◌++◌, map, filter, fold, Option, Some, None, bytes_eq}
use Rattle.std.specs.List.{list_any}
use Rattle.mail_names.specs.declared.gate.Gate.{Gate}
use Rattle.mail_names.specs.declared.gate.Gate.TheVariants as gates
use Rattle.mail_names.specs.Steps.{has_forward}
use Rattle.mail_names.specs.declared.route.Step.{Step}
use Rattle.mail_message.specs.Message.{Mail}
use Rattle.journal_report.specs.declared.why.Why.{Why}
use Rattle.journal_report.specs.declared.why.Why.TheVariants as whys
use Rattle.group_expand.specs.declared.outcome.Leaf.{Leaf}
use Rattle.group_expand.specs.declared.outcome.Closed.{Closed}
use Rattle.group_expand.specs.declared.outcome.Expansion.{Expansion}
use Rattle.rule_terms.specs.declared.rule.Rule.{Rule}
use Rattle.rule_match.specs.Applies.{Setting}
use Rattle.rule_engine.specs.declared.recipient.MadeCopy.{MadeCopy}
use Rattle.rule_engine.specs.declared.recipient.End.{End}
use Rattle.rule_engine.specs.declared.recipient.End.TheVariants as ends
use Rattle.rule_engine.specs.declared.recipient.RuleOutcome.{RuleOutcome}
use Rattle.rule_engine.specs.Fate.{fate}
use Rattle.mail_plan.specs.Planning.{is_gate_among}
use Rattle.categorizer.specs.declared.parts.Judged.{Judged}
use Rattle.categorizer.specs.declared.parts.Send.{Send}
use Rattle.categorizer.specs.declared.parts.Rejection.{Rejection}
use Rattle.categorizer.specs.declared.parts.Plan.{Plan}

-- one submission under its organisation; whether it has too many leaves doesn't depend on gates
pub record Case : Type 0 where
  pub rules : List Rule
  pub setting : Setting
  pub message : Mail
  pub expand : List Gate → Expansion
  pub too_many : Bool

-- each leaf with what the rules make of it
abbrev pub judged : List Rule → Setting → Mail → List Gate → List Leaf → List Judged
judged rules setting message opened [] = []
judged rules setting message opened (leaf ∷ leaves) =
    record { leaf = leaf; outcome = fate rules setting message opened leaf.key } ∷ judged rules setting message opened leaves

-- A leaf without a route is named in the envelope itself.
-- Where a mailbox of the route forwarded, the steps are told, and else the groups.
abbrev pub route_why : List Step → Why
route_why [] = whys.Direct
route_why (step ∷ steps) =
    if has_forward (step ∷ steps) then whys.Through (step ∷ steps) else whys.Via (map (λ (s : Step). s.key) (step ∷ steps))

-- a leaf that is kept
abbrev pub kept_at : Leaf → End → List Send
kept_at leaf (ends.Keep text) = record { target = leaf.key; why = route_why leaf.route; text = text } ∷ []
kept_at leaf (ends.Redirect target text rule) = []
kept_at leaf (ends.Reject rule code words) = []
kept_at leaf (ends.Held rule) = []

-- the target of a redirect
abbrev pub redirected : End → List Send
redirected (ends.Keep text) = []
redirected (ends.Redirect target text rule) = record { target = target; why = whys.Redirected rule; text = text } ∷ []
redirected (ends.Reject rule code words) = []
redirected (ends.Held rule) = []

abbrev pub copy_send : MadeCopy → Send
copy_send copied = record { target = copied.target; why = whys.Copied copied.rule; text = copied.text }

-- the copies made for a leaf, and then its redirect
abbrev pub beside_of : RuleOutcome → List Send
beside_of outcome = map copy_send outcome.copies ++ redirected outcome.end

-- the kept leaves, in leaf order
abbrev pub kept : List Judged → List Send
kept [] = []
kept (one ∷ others) = kept_at one.leaf one.outcome.end ++ kept others

-- what goes beside them, leaf by leaf
abbrev pub beside : List Judged → List Send
beside [] = []
beside (one ∷ others) = beside_of one.outcome ++ beside others

abbrev pub is_target : List Send → List ℕ → Bool
is_target sends target = list_any (λ (send : Send). bytes_eq target send.target) sends

abbrev pub with_send : List Send → Send → List Send
with_send sends send = if is_target sends send.target then sends else sends ++ send ∷ []

-- of each target the first alone
abbrev pub firsts : List Send → List Send
firsts sends = fold with_send [] sends

abbrev pub sends : List Judged → List Send
sends all = firsts (kept all ++ beside all)

-- a leaf that is rejected
abbrev pub rejected_at : List ℕ → End → List Rejection
rejected_at key (ends.Keep text) = []
rejected_at key (ends.Redirect target text rule) = []
rejected_at key (ends.Reject rule code words) = record { key = key; rule = rule; code = code; words = words } ∷ []
rejected_at key (ends.Held rule) = []

-- the rejected leaves, in leaf order
abbrev pub rejections : List Judged → List Rejection
rejections [] = []
rejections (one ∷ others) = rejected_at one.leaf.key one.outcome.end ++ rejections others

abbrev pub is_rejected : List Rejection → List ℕ → Bool
is_rejected rejections key = list_any (λ (rejection : Rejection). bytes_eq key rejection.key) rejections

abbrev pub is_held_by : ℕ → End → Bool
is_held_by rule (ends.Keep text) = false
is_held_by rule (ends.Redirect target text place) = false
is_held_by rule (ends.Reject place code words) = false
is_held_by rule (ends.Held place) = place == rule

-- The rule at this place holds a leaf.
abbrev pub holds_leaf : ℕ → List Judged → Bool
holds_leaf rule all = list_any (λ (one : Judged). is_held_by rule one.outcome.end) all

-- the gates of the rules that hold a leaf, in rule order, the first of which has this place
abbrev pub held_rules : List Judged → ℕ → List Rule → List Gate
held_rules all place [] = []
held_rules all place (rule ∷ rules) =
    if holds_leaf place all then gates.Rule place ∷ held_rules all (place + 1) rules else held_rules all (place + 1) rules

abbrev pub closed_gates : List Closed → List Gate
closed_gates [] = []
closed_gates (closed ∷ others) = gates.Object closed.key ∷ closed_gates others

-- The gates that hold are those of closed objects, by first path, and then those of rules.
abbrev pub plan_of : List Rule → List Closed → List Judged → Plan
plan_of rules closed all = record {
  sent = sends all;
  refused = rejections all;
  met = closed_gates closed ++ held_rules all 0 rules;
}

-- the leaves with these gates opened, judged
abbrev pub judged_in : Case → List Gate → List Judged
judged_in case opened = judged case.rules case.setting case.message opened (case.expand opened).leaves

-- the plan with these gates opened
abbrev pub plan : Case → List Gate → Plan
plan case opened = plan_of case.rules (case.expand opened).closed (judged_in case opened)

-- What was planned before; nothing, where there is no before.
abbrev pub plan_before : Case → Option (List Gate) → Plan
plan_before case None = record { sent = []; refused = []; met = [] }
plan_before case (Some before) = plan case before

abbrev pub gates_before : Option (List Gate) → List Gate
gates_before None = []
gates_before (Some before) = before

-- versions for targets that weren't sent before
abbrev pub new_sends : Plan → Plan → List Send
new_sends before now = filter (λ (send : Send). not (is_target before.sent send.target)) now.sent

-- leaves that weren't rejected before
abbrev pub new_rejections : Plan → Plan → List Rejection
new_rejections before now = filter (λ (rejection : Rejection). not (is_rejected before.refused rejection.key)) now.refused

abbrev pub is_new_gate : List Gate → Plan → Gate → Bool
is_new_gate opened_before before gate = not (is_gate_among gate before.met) && not (is_gate_among gate opened_before)

-- gates that weren't met before; one that was opened before is never new
abbrev pub new_gates : List Gate → Plan → Plan → List Gate
new_gates opened_before before now = filter (is_new_gate opened_before before) now.met

-- what a plan has and the one before it has not
abbrev pub difference : List Gate → Plan → Plan → Plan
difference opened_before before now = record {
  sent = new_sends before now;
  refused = new_rejections before now;
  met = new_gates opened_before before now;
}

-- what is new with these gates opened
abbrev pub news : Case → Option (List Gate) → List Gate → Plan
news case before opened = difference (gates_before before) (plan_before case before) (plan case opened)
