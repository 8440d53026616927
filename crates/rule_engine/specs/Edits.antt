-- Which edits are done for a recipient, and what a list of edits makes of a message.
use Rattle.std.specs.Prelude.{ℕ, ◌+◌, ◌||◌, Bool, true, false, if◌then◌else◌, List, [], ◌∷◌, ◌++◌, Option, Some, None, slice_get}
use Rattle.mail_names.specs.declared.gate.Gate.{Gate}
use Rattle.mail_message.specs.Message.{Mail, text}
use Rattle.mail_message.specs.Edits.{is_plain}
use Rattle.rule_terms.specs.declared.action.Action.{Action}
use Rattle.rule_terms.specs.declared.action.Action.TheVariants as actions
use Rattle.rule_terms.specs.declared.action.Fallback.{Fallback}
use Rattle.rule_terms.specs.declared.action.Fallback.TheVariants as fallbacks
use Rattle.rule_terms.specs.declared.rule.Rule.{Rule}
use Rattle.rule_match.specs.Applies.{Setting, applies}
use Rattle.rule_engine.specs.declared.edit.EditAt.{EditAt}
use Rattle.rule_engine.specs.declared.recipient.End.{End}
use Rattle.rule_engine.specs.declared.recipient.Progress.{Progress}
use Rattle.rule_engine.specs.Fate.{Effect, Edited, CopyMade, SentOn, Refused, Asks, act, Stage, after_effect, after_rule, start}

abbrev pub wraps : Fallback → Bool
wraps fallbacks.Wrap = true
wraps fallbacks.Ignore = false
wraps fallbacks.Reject = false

-- whether an action edits a message; a disclaimer does where it adds its text or wraps the message
abbrev pub is_edit : Action → Mail → Bool
is_edit (actions.Prepend new) m = true
is_edit (actions.SetField field value) m = true
is_edit (actions.RemoveField field) m = true
is_edit (actions.CopyTo target) m = false
is_edit (actions.RedirectTo target) m = false
is_edit (actions.Disclaimer before added fallback) m = is_plain m || wraps fallback
is_edit (actions.Reject code words) m = false
is_edit (actions.Approve by) m = false

-- the edit at a place, where there is one
abbrev pub edit_if : Bool → ℕ → ℕ → List EditAt
edit_if true rule action = record { rule = rule; action = action } ∷ []
edit_if false rule action = []

-- the edits of the next step, where the fold hasn't ended
abbrev pub edits_unless : Progress → Option End → (Progress → List EditAt) → List EditAt
edits_unless progress None next = next progress
edits_unless progress (Some end) next = []

abbrev pub edits_then : Stage → (Progress → List EditAt) → List EditAt
edits_then before next = edits_unless before.progress before.end next

-- the edits among the actions of a rule, the first of which has this place
abbrev pub action_edits : Option (List ℕ) → List Gate → ℕ → ℕ → List Action → Progress → List EditAt
action_edits sender opened rule place [] progress = []
action_edits sender opened rule place (action ∷ others) progress =
    edit_if (is_edit action progress.message) rule place
    ++ edits_then (after_effect sender opened rule (act action progress.message) progress) (action_edits sender opened rule (place + 1) others)

-- the edits of one rule
abbrev pub rule_edits : Setting → List Gate → List ℕ → ℕ → Rule → Progress → List EditAt
rule_edits setting opened recipient place rule progress =
    if applies setting recipient progress.message rule then action_edits setting.sender opened place 0 rule.actions progress else []

-- the edits of the rules in order, the first of which has this place
abbrev pub rules_edits : Setting → List Gate → List ℕ → ℕ → List Rule → Progress → List EditAt
rules_edits setting opened recipient place [] progress = []
rules_edits setting opened recipient place (rule ∷ others) progress =
    rule_edits setting opened recipient place rule progress
    ++ edits_then (after_rule setting opened recipient place rule progress) (rules_edits setting opened recipient (place + 1) others)

-- Edits: the actions that the fold does for this recipient and that edit the message
abbrev pub edits : List Rule → Setting → Mail → List Gate → List ℕ → List EditAt
edits rules setting message opened recipient = rules_edits setting opened recipient 0 rules (start message)

-- the action at a place, where there is one
abbrev pub action_in : Option Rule → ℕ → Option Action
action_in None place = None
action_in (Some rule) place = slice_get rule.actions place

abbrev pub action_at : List Rule → EditAt → Option Action
action_at rules at = action_in (slice_get rules at.rule) at.action

-- what is left after an effect: nothing but an edit changes a message
abbrev pub left_by : Effect → Mail → Mail
left_by (Edited new) m = new
left_by (CopyMade target) m = m
left_by (SentOn target) m = m
left_by (Refused code words) m = m
left_by (Asks by) m = m

abbrev pub with_action : Option Action → Mail → Mail
with_action None m = m
with_action (Some action) m = left_by (act action m) m

-- a message after these edits in order
abbrev pub edited : List Rule → List EditAt → Mail → Mail
edited rules [] m = m
edited rules (at ∷ others) m = edited rules others (with_action (action_at rules at) m)

-- its text
abbrev pub rendered : List Rule → Mail → List EditAt → List ℕ
rendered rules m list = text (edited rules list m)
