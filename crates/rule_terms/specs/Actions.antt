-- What an action of a rules file reads to.
use Rattle.std.specs.Prelude.{ℕ, ◌+◌, ◌*◌, ◌-◌, ◌==◌, Bool, true, false, ◌&&◌, if◌then◌else◌, List, length, take, slice_index, codes, Option, Some, None, option_and_then, Result, Ok, Err}
use Rattle.std.specs.List.{list_all}
use Rattle.std.specs.Char.{is_ascii_digit}
use Rattle.std.specs.Str.{bytes_eq}
use Rattle.toml.specs.Data.{Data, Items, Members, as_table}
use Rattle.org_directory.specs.Register.{Register, is_deliverable}
use Rattle.rule_terms.specs.Forms.{are_distinct, is_within}
use Rattle.rule_terms.specs.Lists.{each, made, or_bad, and_then}
use Rattle.rule_terms.specs.Parts.{as_key, formed_at, has_only, items_at, key_at, keys_of, text_at}
use Rattle.rule_terms.specs.declared.flaw.Flaw.{Flaw}
use Rattle.rule_terms.specs.declared.flaw.Flaw.TheVariants as flaws
use Rattle.rule_terms.specs.declared.form.Form.TheVariants as forms
use Rattle.rule_terms.specs.declared.shape.Shape.{Shape}
use Rattle.rule_terms.specs.declared.shape.Shape.TheVariants as shapes
use Rattle.rule_terms.specs.declared.action.Action.{Action}
use Rattle.rule_terms.specs.declared.action.Action.TheVariants as actions
use Rattle.rule_terms.specs.declared.action.Fallback.{Fallback}
use Rattle.rule_terms.specs.declared.action.Fallback.TheVariants as fallbacks
use Rattle.rule_terms.specs.declared.read_action.Act.{Act}
use Rattle.rule_terms.specs.declared.read_action.Act.TheVariants as acts

-- the act that a word names
abbrev pub act_of : List ℕ → Option Act
act_of word =
    if bytes_eq word (codes "prepend-subject") then Some acts.Prepend
    else (if bytes_eq word (codes "set-field") then Some acts.SetField
    else (if bytes_eq word (codes "remove-field") then Some acts.RemoveField
    else (if bytes_eq word (codes "copy") then Some acts.CopyTo
    else (if bytes_eq word (codes "redirect") then Some acts.RedirectTo
    else (if bytes_eq word (codes "disclaimer") then Some acts.Disclaimer
    else (if bytes_eq word (codes "reject") then Some acts.Reject
    else (if bytes_eq word (codes "approve") then Some acts.Approve else None)))))))

-- the keys of an action of this act
abbrev pub shape_of : Act → Shape
shape_of acts.Prepend = shapes.Text
shape_of acts.SetField = shapes.FieldText
shape_of acts.RemoveField = shapes.Removal
shape_of acts.CopyTo = shapes.Target
shape_of acts.RedirectTo = shapes.Target
shape_of acts.Disclaimer = shapes.Disclaimer
shape_of acts.Reject = shapes.Rejection
shape_of acts.Approve = shapes.Approval

-- a field and its text
abbrev pub set_field : Option (List ℕ) → Option (List ℕ) → Result Action Flaw
set_field (Some field) (Some text) = Ok (actions.SetField field text)
set_field (Some field) None = Err flaws.Bad
set_field None text = Err flaws.Bad

-- a key to which mail can be delivered
abbrev pub target_of : Register → Option (List ℕ) → Result (List ℕ) Flaw
target_of reg None = Err flaws.Bad
target_of reg (Some key) = if is_deliverable reg key then Ok key else Err flaws.Unknown

-- whether a disclaimer goes before the body
abbrev pub place_in : List ℕ → Option Bool
place_in word = if bytes_eq word (codes "before") then Some true else (if bytes_eq word (codes "after") then Some false else None)

-- the fallback that a word names
abbrev pub fallback_in : List ℕ → Option Fallback
fallback_in word =
    if bytes_eq word (codes "wrap") then Some fallbacks.Wrap
    else (if bytes_eq word (codes "ignore") then Some fallbacks.Ignore
    else (if bytes_eq word (codes "reject") then Some fallbacks.Reject else None))

-- a disclaimer has a place, a text and a fallback
abbrev pub disclaimer : Option Bool → Option (List ℕ) → Option Fallback → Result Action Flaw
disclaimer (Some before) (Some text) (Some fallback) = Ok (actions.Disclaimer before text fallback)
disclaimer (Some before) (Some text) None = Err flaws.Bad
disclaimer (Some before) None fallback = Err flaws.Bad
disclaimer None text fallback = Err flaws.Bad

-- 5.7.9 and two digits
abbrev pub is_high_code : List ℕ → Bool
is_high_code text =
    length text == 7 && (bytes_eq (take 5 text) (codes "5.7.9") && (is_ascii_digit (slice_index text 5) && is_ascii_digit (slice_index text 6)))

-- 5.7.1, or 5.7.900 to 5.7.999
abbrev pub code_in : List ℕ → Option ℕ
code_in text =
    if bytes_eq text (codes "5.7.1") then Some 1
    else (if is_high_code text then Some (900 + (10 * (slice_index text 5 - 48) + (slice_index text 6 - 48))) else None)

-- a rejection with a code, if it is one
abbrev pub with_code : List ℕ → Option ℕ → Result Action Flaw
with_code words None = Err flaws.BadCode
with_code words (Some code) = Ok (actions.Reject code words)

-- A rejection has a code in text and words, and both are there before the code is judged.
abbrev pub reject : Option (List ℕ) → Option (List ℕ) → Result Action Flaw
reject (Some code) (Some words) = with_code words (code_in code)
reject (Some code) None = Err flaws.Bad
reject None words = Err flaws.Bad

-- 1 to 10 keys, none twice, to each of which mail can be delivered
abbrev pub approve : Register → List (List ℕ) → Result Action Flaw
approve reg keys =
    if is_within 1 10 (length keys) && are_distinct keys
    then (if list_all (is_deliverable reg) keys then Ok (actions.Approve keys) else Err flaws.Unknown)
    else Err flaws.Bad

-- the keys that the items are
abbrev pub keys_in : Option Items → Result (List (List ℕ)) Flaw
keys_in None = Err flaws.Bad
keys_in (Some items) = each (λ d. or_bad (as_key d)) items

-- the action of this act, by its other keys
abbrev pub action_by : Register → Members → Act → Result Action Flaw
action_by reg ms acts.Prepend = made (λ text. actions.Prepend text) (or_bad (formed_at forms.Line (codes "text") ms))
action_by reg ms acts.SetField = set_field (formed_at forms.Field (codes "field") ms) (formed_at forms.Line (codes "text") ms)
action_by reg ms acts.RemoveField = made (λ field. actions.RemoveField field) (or_bad (formed_at forms.Field (codes "field") ms))
action_by reg ms acts.CopyTo = made (λ target. actions.CopyTo target) (target_of reg (key_at (codes "to") ms))
action_by reg ms acts.RedirectTo = made (λ target. actions.RedirectTo target) (target_of reg (key_at (codes "to") ms))
action_by reg ms acts.Disclaimer =
    disclaimer (option_and_then place_in (text_at (codes "place") ms)) (formed_at forms.Note (codes "text") ms)
    (option_and_then fallback_in (text_at (codes "fallback") ms))
action_by reg ms acts.Reject = reject (text_at (codes "code") ms) (formed_at forms.Line (codes "text") ms)
action_by reg ms acts.Approve = and_then (keys_in (items_at (codes "by") ms)) (approve reg)

-- the action of the act that was named, if it has its keys alone
abbrev pub action_with : Register → Members → Option Act → Result Action Flaw
action_with reg ms None = Err flaws.Bad
action_with reg ms (Some act) = if has_only (keys_of (shape_of act)) ms then action_by reg ms act else Err flaws.Bad

-- the action that a table says
abbrev pub action_in : Register → Option Members → Result Action Flaw
action_in reg None = Err flaws.Bad
action_in reg (Some ms) = action_with reg ms (option_and_then act_of (text_at (codes "act") ms))

-- The action that a value reads to, or its flaw: Bad where it hasn't the form, and else BadCode or Unknown.
unfoldable pub action_of : Register → Data → Result Action Flaw
action_of reg d = action_in reg (as_table d)
