-- What becomes of ONE recipient: a fold over the rules that carries one whole message.
use Rattle.std.specs.Prelude.{ℕ, ◌+◌, ◌||◌, Bool, true, false, if◌then◌else◌, List, [], ◌∷◌, ◌++◌, Option, Some, None, codes}
use Rattle.mail_names.specs.declared.gate.Gate.{Gate}
use Rattle.mail_message.specs.Message.{Mail, text}
use Rattle.mail_message.specs.Edits.{set_field, remove_field, prepend_subject, add_text, is_plain}
use Rattle.mail_message.specs.Enclose.{wrapped}
use Rattle.mail_message.specs.declared.edits.Place.{Place}
use Rattle.mail_message.specs.declared.edits.Place.TheVariants as places
use Rattle.org_directory.specs.Register.{among}
use Rattle.rule_terms.specs.declared.action.Action.{Action}
use Rattle.rule_terms.specs.declared.action.Action.TheVariants as actions
use Rattle.rule_terms.specs.declared.action.Fallback.{Fallback}
use Rattle.rule_terms.specs.declared.action.Fallback.TheVariants as fallbacks
use Rattle.rule_terms.specs.declared.rule.Rule.{Rule}
use Rattle.rule_match.specs.Applies.{Setting, applies}
use Rattle.rule_engine.specs.Gates.{is_opened}
use Rattle.rule_engine.specs.declared.recipient.End.{End}
use Rattle.rule_engine.specs.declared.recipient.End.TheVariants as ends
use Rattle.rule_engine.specs.declared.recipient.Progress.{Progress}
use Rattle.rule_engine.specs.declared.recipient.RuleOutcome.{RuleOutcome}

-- what an action does with a message: it is edited, copied, sent on, refused, or must be approved by one of these
pub data Effect : Type 0 where
  Edited : Mail → Effect
  CopyMade : List ℕ → Effect
  SentOn : List ℕ → Effect
  Refused : ℕ → List ℕ → Effect
  Asks : List (List ℕ) → Effect

-- the words with which a message is refused that a disclaimer can't be added to
abbrev pub cannot_be_added : List ℕ
cannot_be_added = codes "Disclaimer can't be added."

-- what becomes of a message that isn't plain
abbrev pub fall_back : Fallback → List ℕ → Mail → Effect
fall_back fallbacks.Wrap added m = Edited (wrapped added m)
fall_back fallbacks.Ignore added m = Edited m
fall_back fallbacks.Reject added m = Refused 1 cannot_be_added

-- where a disclaimer is added
abbrev pub side : Bool → Place
side true = places.Before
side false = places.After

-- A disclaimer is added to a plain message. Another one falls back.
abbrev pub disclaim : Bool → List ℕ → Fallback → Mail → Effect
disclaim before added fallback m = if is_plain m then Edited (add_text (side before) added m) else fall_back fallback added m

-- Act: what an action does with a message
abbrev pub act : Action → Mail → Effect
act (actions.Prepend new) m = Edited (prepend_subject new m)
act (actions.SetField field value) m = Edited (set_field field value m)
act (actions.RemoveField field) m = Edited (remove_field field m)
act (actions.CopyTo target) m = CopyMade target
act (actions.RedirectTo target) m = SentOn target
act (actions.Disclaimer before added fallback) m = disclaim before added fallback m
act (actions.Reject code words) m = Refused code words
act (actions.Approve by) m = Asks by

-- The null sender is none of the keys.
abbrev pub is_one_of : Option (List ℕ) → List (List ℕ) → Bool
is_one_of None keys = false
is_one_of (Some sender) keys = among sender keys

-- how far a fold has come, and how it ended where it did
pub record Stage : Type 0 where
  pub progress : Progress
  pub end : Option End

abbrev pub stage : Progress → Option End → Stage
stage progress end = record { progress = progress; end = end }

-- The fold goes on with this.
abbrev pub goes_on : Progress → Stage
goes_on progress = stage progress None

-- The fold ends here.
abbrev pub ends_with : Progress → End → Stage
ends_with progress end = stage progress (Some end)

-- the next step, where the fold hasn't ended
abbrev pub unless_ended : Progress → Option End → (Progress → Stage) → Stage
unless_ended progress None next = next progress
unless_ended progress (Some end) next = ends_with progress end

-- one step, and the next one where the fold goes on
abbrev pub and_then : Stage → (Progress → Stage) → Stage
and_then before next = unless_ended before.progress before.end next

-- the text that the recipient, or a target, gets at this point
abbrev pub now : Progress → List ℕ
now progress = text progress.message

abbrev pub with_message : Mail → Progress → Progress
with_message message progress = record progress { message = message }

-- a copy more, with the text as it is at this point
abbrev pub with_copy : ℕ → List ℕ → Progress → Progress
with_copy rule target progress =
    record progress { copies = progress.copies ++ record { target = target; text = now progress; rule = rule } ∷ [] }

-- A rule holds a message for approval unless its gate is opened or the sender may approve.
abbrev pub after_effect : Option (List ℕ) → List Gate → ℕ → Effect → Progress → Stage
after_effect sender opened rule (Edited message) progress = goes_on (with_message message progress)
after_effect sender opened rule (CopyMade target) progress = goes_on (with_copy rule target progress)
after_effect sender opened rule (SentOn target) progress = ends_with progress (ends.Redirect target (now progress) rule)
after_effect sender opened rule (Refused code words) progress = ends_with progress (ends.Reject rule code words)
after_effect sender opened rule (Asks by) progress =
    if is_opened opened rule || is_one_of sender by then goes_on progress else ends_with progress (ends.Held rule)

-- the actions of a rule, in written order
abbrev pub after_actions : Option (List ℕ) → List Gate → ℕ → List Action → Progress → Stage
after_actions sender opened rule [] progress = goes_on progress
after_actions sender opened rule (action ∷ others) progress =
    and_then (after_effect sender opened rule (act action progress.message) progress) (after_actions sender opened rule others)

-- The recipient keeps its text.
abbrev pub keep : Progress → Stage
keep progress = ends_with progress (ends.Keep (now progress))

-- Where a rule has `stop`, no later one is judged.
abbrev pub after_stop : Bool → Progress → Stage
after_stop true progress = keep progress
after_stop false progress = goes_on progress

-- one rule, which is judged by the message as it is by then
abbrev pub after_rule : Setting → List Gate → List ℕ → ℕ → Rule → Progress → Stage
after_rule setting opened recipient place rule progress =
    if applies setting recipient progress.message rule
    then and_then (after_actions setting.sender opened place rule.actions progress) (after_stop rule.stop)
    else goes_on progress

-- the rules in order, the first of which has this place; a recipient at the end keeps its text
abbrev pub after_rules : Setting → List Gate → List ℕ → ℕ → List Rule → Progress → Stage
after_rules setting opened recipient place [] progress = keep progress
after_rules setting opened recipient place (rule ∷ others) progress =
    and_then (after_rule setting opened recipient place rule progress) (after_rules setting opened recipient (place + 1) others)

-- where the fold begins
abbrev pub start : Mail → Progress
start message = record { message = message; copies = [] }

-- A fold over all rules has ended, so the default is never met.
abbrev pub outcome_at : Progress → Option End → RuleOutcome
outcome_at progress None = record { copies = progress.copies; end = ends.Keep (now progress) }
outcome_at progress (Some end) = record { copies = progress.copies; end = end }

-- the outcome of a fold that came to this stage
abbrev pub outcome_of : Stage → RuleOutcome
outcome_of last = outcome_at last.progress last.end

-- Fate: the copies made for this recipient, and how its fold ended
abbrev pub fate : List Rule → Setting → Mail → List Gate → List ℕ → RuleOutcome
fate rules setting message opened recipient = outcome_of (after_rules setting opened recipient 0 rules (start message))
