-- A rule that holds a recipient asks for approval.
use Rattle.std.proofs.Common.{◌≡◌, ℕ, zero, suc, ◌+◌, Bool, true, false, ◌||◌, if◌then◌else◌, List, [], ◌∷◌, Option, Some, None, refl, sym, ◌∙◌, slice_get, arith}
use Rattle.mail_names.specs.declared.gate.Gate.{Gate}
use Rattle.mail_message.specs.Message.{Mail}
use Rattle.mail_message.specs.Edits.{add_text, is_plain}
use Rattle.rule_terms.specs.declared.action.Action.{Action}
use Rattle.rule_terms.specs.declared.action.Action.TheVariants as actions
use Rattle.rule_terms.specs.declared.action.Fallback.{Fallback}
use Rattle.rule_terms.specs.declared.action.Fallback.TheVariants as fallbacks
use Rattle.rule_terms.specs.declared.rule.Rule.{Rule}
use Rattle.rule_match.specs.Applies.{Setting, applies}
use Rattle.rule_engine.specs.declared.recipient.End.{End}
use Rattle.rule_engine.specs.declared.recipient.End.TheVariants as ends
use Rattle.rule_engine.specs.declared.recipient.Progress.{Progress}
use Rattle.rule_engine.specs.Fate.{Effect, Edited, CopyMade, SentOn, Refused, Asks, fall_back, side, act, is_one_of, Stage, goes_on, ends_with, unless_ended, and_then, after_effect, after_actions, after_rule, after_rules, after_stop, start, outcome_at, fate}
use Rattle.categorizer.proofs.Lists.{rule_is_opened, or_left, or_right}

-- An action asks for approval.
abbrev pub asks_one : Action → Bool
asks_one (actions.Prepend text) = false
asks_one (actions.SetField field text) = false
asks_one (actions.RemoveField field) = false
asks_one (actions.CopyTo target) = false
asks_one (actions.RedirectTo target) = false
asks_one (actions.Disclaimer before text fallback) = false
asks_one (actions.Reject code words) = false
asks_one (actions.Approve by) = true

abbrev pub asks : List Action → Bool
asks [] = false
asks (action ∷ others) = asks_one action || asks others

abbrev pub rule_asks : Option Rule → Bool
rule_asks None = false
rule_asks (Some rule) = asks rule.actions

abbrev pub HeldWhere : (ℕ → Type 0) → Option End → Type 0
HeldWhere P None = Unit {0}
HeldWhere P (Some (ends.Keep text)) = Unit {0}
HeldWhere P (Some (ends.Redirect target text rule)) = Unit {0}
HeldWhere P (Some (ends.Reject rule code words)) = Unit {0}
HeldWhere P (Some (ends.Held rule)) = P rule

weaken : (P Q : ℕ → Type 0) → ((rule : ℕ) → P rule → Q rule) → (end : Option End) → HeldWhere P end → HeldWhere Q end
weaken P Q f None h = tt
weaken P Q f (Some (ends.Keep text)) h = tt
weaken P Q f (Some (ends.Redirect target text rule)) h = tt
weaken P Q f (Some (ends.Reject rule code words)) h = tt
weaken P Q f (Some (ends.Held rule)) h = f rule h

then-held : (P : ℕ → Type 0) (progress : Progress) (end : Option End) (next : Progress → Stage) → HeldWhere P end →
    ((c : Progress) → HeldWhere P (next c).end) → HeldWhere P (unless_ended progress end next).end
then-held P progress None next h more = more progress
then-held P progress (Some end) next h more = h

abbrev effect_asks : Effect → Bool
effect_asks (Edited message) = false
effect_asks (CopyMade target) = false
effect_asks (SentOn target) = false
effect_asks (Refused code words) = false
effect_asks (Asks by) = true

abbrev This : ℕ → Bool → ℕ → Type 0
This place asked rule = (rule ≡ place) × (asked ≡ true)

effect-held : (sender : Option (List ℕ)) (opened : List Gate) (place : ℕ) (effect : Effect) (progress : Progress) → HeldWhere (This place (effect_asks effect)) (after_effect sender opened place effect progress).end
effect-held sender opened place (Edited message) progress = tt
effect-held sender opened place (CopyMade target) progress = tt
effect-held sender opened place (SentOn target) progress = tt
effect-held sender opened place (Refused code words) progress = tt
effect-held sender opened place (Asks by) progress =
    elim (rule_is_opened opened place || is_one_of sender by)
    as (λ b. HeldWhere (This place true) (if b then goes_on progress else ends_with progress (ends.Held place)).end)
    [ true ↦ tt | false ↦ (refl, refl) ]

fall-asks : (fallback : Fallback) (words : List ℕ) (message : Mail) → effect_asks (fall_back fallback words message) ≡ false
fall-asks fallbacks.Wrap words message = refl
fall-asks fallbacks.Ignore words message = refl
fall-asks fallbacks.Reject words message = refl

act-asks : (action : Action) (message : Mail) → effect_asks (act action message) ≡ asks_one action
act-asks (actions.Prepend text) message = refl
act-asks (actions.SetField field text) message = refl
act-asks (actions.RemoveField field) message = refl
act-asks (actions.CopyTo target) message = refl
act-asks (actions.RedirectTo target) message = refl
act-asks (actions.Disclaimer before text fallback) message =
    elim (is_plain message) as (λ b. effect_asks (if b then Edited (add_text (side before) text message) else fall_back fallback text message) ≡ false)
    [ true ↦ refl | false ↦ fall-asks fallback text message ]
act-asks (actions.Reject code words) message = refl
act-asks (actions.Approve by) message = refl

actions-held : (sender : Option (List ℕ)) (opened : List Gate) (place : ℕ) (actions : List Action) (progress : Progress) →
    HeldWhere (This place (asks actions)) (after_actions sender opened place actions progress).end
actions-held sender opened place [] progress = tt
actions-held sender opened place (action ∷ others) progress =
    let here : Stage = after_effect sender opened place (act action progress.message) progress in
    then-held (This place (asks (action ∷ others))) here.progress here.end (after_actions sender opened place others)
    (weaken (This place (effect_asks (act action progress.message))) (This place (asks (action ∷ others)))
    (λ rule h. (h.0, or_left (asks_one action) (asks others) (sym (act-asks action progress.message) ∙ h.1)))
    here.end (effect-held sender opened place (act action progress.message) progress))
    (λ c. weaken (This place (asks others)) (This place (asks (action ∷ others))) (λ rule h. (h.0, or_right (asks_one action) (asks others) h.1))
    (after_actions sender opened place others c).end (actions-held sender opened place others c))

after-held : (P : ℕ → Type 0) (stop : Bool) (progress : Progress) → HeldWhere P (after_stop stop progress).end
after-held P true progress = tt
after-held P false progress = tt

rule-held : (setting : Setting) (opened : List Gate) (recipient : List ℕ) (place : ℕ) (rule : Rule) (progress : Progress) →
    HeldWhere (This place (asks rule.actions)) (after_rule setting opened recipient place rule progress).end
rule-held setting opened recipient place rule progress =
    elim (applies setting recipient progress.message rule)
    as (λ b. HeldWhere (This place (asks rule.actions)) (if b then and_then (after_actions setting.sender opened place rule.actions progress) (after_stop rule.stop) else goes_on progress).end) [
      | true ↦ (let here : Stage = after_actions setting.sender opened place rule.actions progress in
          then-held (This place (asks rule.actions)) here.progress here.end (after_stop rule.stop) (actions-held setting.sender opened place rule.actions progress) (after-held (This place (asks rule.actions)) rule.stop))
      | false ↦ tt
    ]

-- The rule stands so many places behind this one, and asks.
pub record AsksAt (place : ℕ) (rules : List Rule) (rule : ℕ) : Type 0 where
  pub behind : ℕ
  pub is : rule ≡ place + behind
  pub asked : rule_asks (slice_get rules behind) ≡ true

rules-held : (setting : Setting) (opened : List Gate) (recipient : List ℕ) (place : ℕ) (rules : List Rule) (progress : Progress) →
    HeldWhere (AsksAt place rules) (after_rules setting opened recipient place rules progress).end
rules-held setting opened recipient place [] progress = tt
rules-held setting opened recipient place (rule ∷ others) progress =
    let here : Stage = after_rule setting opened recipient place rule progress in
    then-held (AsksAt place (rule ∷ others)) here.progress here.end (after_rules setting opened recipient (place + 1) others)
    (weaken (This place (asks rule.actions)) (AsksAt place (rule ∷ others))
    (λ r h. record { behind = zero; is = h.0 ∙ (omega arith); asked = h.1 })
    here.end (rule-held setting opened recipient place rule progress))
    (λ c. weaken (AsksAt (place + 1) others) (AsksAt place (rule ∷ others))
    (λ r h. let e : r ≡ (place + 1) + h.behind = h.is in record { behind = suc h.behind; is = omega (arith, e); asked = h.asked })
    (after_rules setting opened recipient (place + 1) others c).end (rules-held setting opened recipient (place + 1) others c))

abbrev pub HeldEnd : (ℕ → Type 0) → End → Type 0
HeldEnd P end = HeldWhere P (Some end)

outcome-held : (P : ℕ → Type 0) (progress : Progress) (end : Option End) → HeldWhere P end → HeldEnd P (outcome_at progress end).end
outcome-held P progress None h = tt
outcome-held P progress (Some end) h = h

-- a rule that holds a recipient asks
pub fate-held : (rules : List Rule) (setting : Setting) (message : Mail) (opened : List Gate) (recipient : List ℕ) →
    HeldEnd (AsksAt 0 rules) (fate rules setting message opened recipient).end
fate-held rules setting message opened recipient =
    let last : Stage = after_rules setting opened recipient 0 rules (start message) in
    outcome-held (AsksAt 0 rules) last.progress last.end (rules-held setting opened recipient 0 rules (start message))
