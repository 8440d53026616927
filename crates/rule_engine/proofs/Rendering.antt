-- The message of a fold is the one that its edits make.
use Rattle.std.proofs.Common.{◌≡◌, ℕ, suc, ◌+◌, Bool, true, false, ◌||◌, if◌then◌else◌, List, [], ◌∷◌, ◌++◌, Option, Some, None, refl, sym, ◌∙◌, ap, subst, slice_get, arith}
use Rattle.mail_names.specs.declared.gate.Gate.{Gate}
use Rattle.mail_message.specs.Message.{Mail, text}
use Rattle.mail_message.specs.Edits.{add_text, is_plain}
use Rattle.rule_terms.specs.declared.action.Action.{Action}
use Rattle.rule_terms.specs.declared.action.Action.TheVariants as actions
use Rattle.rule_terms.specs.declared.action.Fallback.{Fallback}
use Rattle.rule_terms.specs.declared.action.Fallback.TheVariants as fallbacks
use Rattle.rule_terms.specs.declared.rule.Rule.{Rule}
use Rattle.rule_match.specs.Applies.{Setting, applies}
use Rattle.rule_engine.specs.Gates.{is_opened}
use Rattle.rule_engine.specs.declared.edit.EditAt.{EditAt}
use Rattle.rule_engine.specs.declared.recipient.End.{End}
use Rattle.rule_engine.specs.declared.recipient.End.TheVariants as ends
use Rattle.rule_engine.specs.declared.recipient.Progress.{Progress}
use Rattle.rule_engine.specs.Fate.{Effect, Edited, CopyMade, SentOn, Refused, Asks, side, fall_back, act, is_one_of, Stage, goes_on, ends_with, unless_ended, and_then, now, after_effect, after_actions, after_stop, after_rule, after_rules, start, outcome_at}
use Rattle.rule_engine.specs.Edits.{wraps, is_edit, edit_if, edits_unless, edits_then, action_edits, rule_edits, rules_edits, action_in, action_at, left_by, with_action, edited}
use Rattle.rule_engine.specs.Rendered.{EndHasText, FatesAreRendered}

true≢false : true ≡ false → ⊥
true≢false e = cc

edited-append : (rules : List Rule) (a b : List EditAt) (m : Mail) → edited rules (a ++ b) m ≡ edited rules b (edited rules a m)
edited-append rules [] b m = refl
edited-append rules (at ∷ a) b m = edited-append rules a b (with_action (action_at rules at) m)

-- One action changes the message as an edit does.
effect-message : (sender : Option (List ℕ)) (opened : List Gate) (rule : ℕ) (effect : Effect) (p : Progress) →
    (after_effect sender opened rule effect p).progress.message ≡ left_by effect p.message
effect-message sender opened rule (Edited m) p = refl
effect-message sender opened rule (CopyMade target) p = refl
effect-message sender opened rule (SentOn target) p = refl
effect-message sender opened rule (Refused code words) p = refl
effect-message sender opened rule (Asks by) p =
    elim (is_opened opened rule || is_one_of sender by)
    as (λ b. (if b then goes_on p else ends_with p (ends.Held rule)).progress.message ≡ p.message)
    [ true ↦ refl | false ↦ refl ]

-- What is no edit leaves the message.
unplain-left : (before : Bool) (added : List ℕ) (fallback : Fallback) (m : Mail) (plain : Bool) → (plain || wraps fallback) ≡ false →
    left_by (if plain then Edited (add_text (side before) added m) else fall_back fallback added m) m ≡ m
unplain-left before added fallback m true none = absurd (true≢false none)
unplain-left before added fallbacks.Wrap m false none = absurd (true≢false none)
unplain-left before added fallbacks.Ignore m false none = refl
unplain-left before added fallbacks.Reject m false none = refl

left-as-is : (action : Action) (m : Mail) → is_edit action m ≡ false → left_by (act action m) m ≡ m
left-as-is (actions.Prepend new) m none = absurd (true≢false none)
left-as-is (actions.SetField field value) m none = absurd (true≢false none)
left-as-is (actions.RemoveField field) m none = absurd (true≢false none)
left-as-is (actions.CopyTo target) m none = refl
left-as-is (actions.RedirectTo target) m none = refl
left-as-is (actions.Disclaimer before added fallback) m none = unplain-left before added fallback m (is_plain m) none
left-as-is (actions.Reject code words) m none = refl
left-as-is (actions.Approve by) m none = refl

one-edit-if : (rules : List Rule) (rule place : ℕ) (action : Action) (m : Mail) (edits : Bool) → is_edit action m ≡ edits →
    action_at rules (record { rule = rule; action = place }) ≡ Some action →
    left_by (act action m) m ≡ edited rules (edit_if edits rule place) m
one-edit-if rules rule place action m true is at = ap (λ (o : Option Action). with_action o m) (sym at)
one-edit-if rules rule place action m false is at = left-as-is action m is

-- A next step, where the fold hasn't ended.
then-message : (rules : List Rule) (new : Progress) (end : Option End) (next : Progress → Stage) (more : Progress → List EditAt) →
    ((q : Progress) → (next q).progress.message ≡ edited rules (more q) q.message) →
    (unless_ended new end next).progress.message ≡ edited rules (edits_unless new end more) new.message
then-message rules new None next more h = h new
then-message rules new (Some end) next more h = refl

-- two steps
both : (rules : List Rule) (p : Progress) (before : Stage) (one : List EditAt) (next : Progress → Stage) (more : Progress → List EditAt) →
    before.progress.message ≡ edited rules one p.message →
    ((q : Progress) → (next q).progress.message ≡ edited rules (more q) q.message) →
    (and_then before next).progress.message ≡ edited rules (one ++ edits_then before more) p.message
both rules p before one next more first h =
    then-message rules before.progress before.end next more h
    ∙ ap (edited rules (edits_then before more)) first
    ∙ sym (edited-append rules one (edits_then before more) p.message)

-- These are the actions of a rule from a place on.
abbrev pub AreActions : List Rule → ℕ → ℕ → List Action → Type 0
AreActions rules rule place those = (i : ℕ) → slice_get those i ≡ action_in (slice_get rules rule) (place + i)

actions-later : (rules : List Rule) (rule place : ℕ) (action : Action) (others : List Action) → AreActions rules rule place (action ∷ others) → AreActions rules rule (place + 1) others
actions-later rules rule place action others are = λ i.
    let e : place + suc i ≡ place + 1 + i = omega arith in
    are (suc i) ∙ ap (action_in (slice_get rules rule)) e

actions-first : (rules : List Rule) (rule place : ℕ) (action : Action) (others : List Action) → AreActions rules rule place (action ∷ others) →
    action_at rules (record { rule = rule; action = place }) ≡ Some action
actions-first rules rule place action others are =
    let e : place ≡ place + 0 = omega arith in
    ap (action_in (slice_get rules rule)) e ∙ sym (are 0)

actions-message : (rules : List Rule) (sender : Option (List ℕ)) (opened : List Gate) (rule place : ℕ) (those : List Action) → AreActions rules rule place those → (p : Progress) →
    (after_actions sender opened rule those p).progress.message ≡ edited rules (action_edits sender opened rule place those p) p.message
actions-message rules sender opened rule place [] are p = refl
actions-message rules sender opened rule place (action ∷ others) are p =
    both rules p (after_effect sender opened rule (act action p.message) p) (edit_if (is_edit action p.message) rule place)
    (after_actions sender opened rule others) (action_edits sender opened rule (place + 1) others)
    (effect-message sender opened rule (act action p.message) p
    ∙ one-edit-if rules rule place action p.message (is_edit action p.message) refl (actions-first rules rule place action others are))
    (actions-message rules sender opened rule (place + 1) others (actions-later rules rule place action others are))

-- `stop` changes no message.
stop-message : (stop : Bool) (new : Progress) (end : Option End) → (unless_ended new end (after_stop stop)).progress.message ≡ new.message
stop-message true new None = refl
stop-message false new None = refl
stop-message stop new (Some end) = refl

-- These are the rules from a place on.
abbrev pub AreRules : List Rule → ℕ → List Rule → Type 0
AreRules rules place those = (i : ℕ) → slice_get those i ≡ slice_get rules (place + i)

rules-later : (rules : List Rule) (place : ℕ) (rule : Rule) (others : List Rule) → AreRules rules place (rule ∷ others) → AreRules rules (place + 1) others
rules-later rules place rule others are = λ i.
    let e : place + suc i ≡ place + 1 + i = omega arith in
    are (suc i) ∙ ap (slice_get rules) e

rules-first : (rules : List Rule) (place : ℕ) (rule : Rule) (others : List Rule) → AreRules rules place (rule ∷ others) → slice_get rules place ≡ Some rule
rules-first rules place rule others are =
    let e : place ≡ place + 0 = omega arith in
    ap (slice_get rules) e ∙ sym (are 0)

its-actions : (rules : List Rule) (place : ℕ) (rule : Rule) → slice_get rules place ≡ Some rule → AreActions rules place 0 rule.actions
its-actions rules place rule at = λ i.
    let e : i ≡ 0 + i = omega arith in
    ap (slice_get rule.actions) e ∙ ap (λ (o : Option Rule). action_in o (0 + i)) (sym at)

rule-message : (rules : List Rule) (setting : Setting) (opened : List Gate) (recipient : List ℕ) (place : ℕ) (rule : Rule) → slice_get rules place ≡ Some rule → (p : Progress) →
    (after_rule setting opened recipient place rule p).progress.message ≡ edited rules (rule_edits setting opened recipient place rule p) p.message
rule-message rules setting opened recipient place rule at p =
    elim (applies setting recipient p.message rule)
    as (λ b. (if b then and_then (after_actions setting.sender opened place rule.actions p) (after_stop rule.stop) else goes_on p).progress.message
    ≡ edited rules (if b then action_edits setting.sender opened place 0 rule.actions p else []) p.message) [
      | true ↦ stop-message rule.stop (after_actions setting.sender opened place rule.actions p).progress (after_actions setting.sender opened place rule.actions p).end
          ∙ actions-message rules setting.sender opened place 0 rule.actions (its-actions rules place rule at) p
      | false ↦ refl
    ]

rules-message : (rules : List Rule) (setting : Setting) (opened : List Gate) (recipient : List ℕ) (place : ℕ) (those : List Rule) → AreRules rules place those → (p : Progress) →
    (after_rules setting opened recipient place those p).progress.message ≡ edited rules (rules_edits setting opened recipient place those p) p.message
rules-message rules setting opened recipient place [] are p = refl
rules-message rules setting opened recipient place (rule ∷ others) are p =
    both rules p (after_rule setting opened recipient place rule p) (rule_edits setting opened recipient place rule p)
    (after_rules setting opened recipient (place + 1) others) (rules_edits setting opened recipient (place + 1) others)
    (rule-message rules setting opened recipient place rule (rules-first rules place rule others are) p)
    (rules-message rules setting opened recipient (place + 1) others (rules-later rules place rule others are))

-- A fold that has ended with a text has ended with its message's.
abbrev pub HasText : Option End → List ℕ → Type 0
HasText None all = Unit {0}
HasText (Some end) all = EndHasText end all

abbrev pub StageHasText : Stage → Type 0
StageHasText s = HasText s.end (now s.progress)

then-text : (new : Progress) (end : Option End) (next : Progress → Stage) → HasText end (now new) → ((q : Progress) → StageHasText (next q)) → StageHasText (unless_ended new end next)
then-text new None next has h = h new
then-text new (Some end) next has h = has

effect-text : (sender : Option (List ℕ)) (opened : List Gate) (rule : ℕ) (effect : Effect) (p : Progress) → StageHasText (after_effect sender opened rule effect p)
effect-text sender opened rule (Edited m) p = tt
effect-text sender opened rule (CopyMade target) p = tt
effect-text sender opened rule (SentOn target) p = refl
effect-text sender opened rule (Refused code words) p = tt
effect-text sender opened rule (Asks by) p =
    elim (is_opened opened rule || is_one_of sender by)
    as (λ b. StageHasText (if b then goes_on p else ends_with p (ends.Held rule)))
    [ true ↦ tt | false ↦ tt ]

actions-text : (sender : Option (List ℕ)) (opened : List Gate) (rule : ℕ) (those : List Action) (p : Progress) → StageHasText (after_actions sender opened rule those p)
actions-text sender opened rule [] p = tt
actions-text sender opened rule (action ∷ others) p =
    then-text (after_effect sender opened rule (act action p.message) p).progress (after_effect sender opened rule (act action p.message) p).end (after_actions sender opened rule others)
    (effect-text sender opened rule (act action p.message) p) (actions-text sender opened rule others)

stop-text : (stop : Bool) (p : Progress) → StageHasText (after_stop stop p)
stop-text true p = refl
stop-text false p = tt

rule-text : (setting : Setting) (opened : List Gate) (recipient : List ℕ) (place : ℕ) (rule : Rule) (p : Progress) → StageHasText (after_rule setting opened recipient place rule p)
rule-text setting opened recipient place rule p =
    elim (applies setting recipient p.message rule)
    as (λ b. StageHasText (if b then and_then (after_actions setting.sender opened place rule.actions p) (after_stop rule.stop) else goes_on p)) [
      | true ↦ then-text (after_actions setting.sender opened place rule.actions p).progress (after_actions setting.sender opened place rule.actions p).end (after_stop rule.stop)
          (actions-text setting.sender opened place rule.actions p) (stop-text rule.stop)
      | false ↦ tt
    ]

rules-text : (setting : Setting) (opened : List Gate) (recipient : List ℕ) (place : ℕ) (those : List Rule) (p : Progress) → StageHasText (after_rules setting opened recipient place those p)
rules-text setting opened recipient place [] p = refl
rules-text setting opened recipient place (rule ∷ others) p =
    then-text (after_rule setting opened recipient place rule p).progress (after_rule setting opened recipient place rule p).end (after_rules setting opened recipient (place + 1) others)
    (rule-text setting opened recipient place rule p) (rules-text setting opened recipient (place + 1) others)

outcome-text : (last : Progress) (end : Option End) → HasText end (now last) → EndHasText (outcome_at last end).end (now last)
outcome-text last None has = refl
outcome-text last (Some end) has = has

pub fates-rendered : FatesAreRendered
fates-rendered rules setting message opened recipient =
    let last : Stage = after_rules setting opened recipient 0 rules (start message) in
    let are : AreRules rules 0 rules = λ i. (let e : i ≡ 0 + i = omega arith in ap (slice_get rules) e) in
    let same : last.progress.message ≡ edited rules (rules_edits setting opened recipient 0 rules (start message)) message =
    rules-message rules setting opened recipient 0 rules are (start message) in
    subst (λ (m : Mail). EndHasText (outcome_at last.progress last.end).end (text m)) same
    (outcome-text last.progress last.end (rules-text setting opened recipient 0 rules (start message)))
