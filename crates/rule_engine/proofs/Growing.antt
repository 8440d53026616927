-- The fold for one recipient, with more gates opened.
use Rattle.std.proofs.Common.{◌≡◌, ℕ, ◌+◌, Bool, true, false, if◌then◌else◌, List, [], ◌∷◌, ◌++◌, Option, Some, None, refl, sym, ◌∙◌, ap, subst, append_assoc, arith}
use Rattle.std.specs.Prelude.{◌||◌}
use Rattle.std.proofs.lemmas.Grind.{common_steps}
use Rattle.mail_names.specs.declared.gate.Gate.{Gate}
use Rattle.rule_terms.specs.declared.action.Action.{Action}
use Rattle.rule_terms.specs.declared.rule.Rule.{Rule}
use Rattle.rule_match.specs.Applies.{Setting, applies}
use Rattle.rule_engine.specs.Gates.{is_opened, OpensMore}
use Rattle.rule_engine.specs.declared.recipient.MadeCopy.{MadeCopy}
use Rattle.rule_engine.specs.declared.recipient.End.{End}
use Rattle.rule_engine.specs.declared.recipient.End.TheVariants as ends
use Rattle.rule_engine.specs.declared.recipient.Progress.{Progress}
use Rattle.rule_engine.specs.Fate.{Effect, Edited, CopyMade, SentOn, Refused, Asks, act, is_one_of, Stage, stage, goes_on, ends_with, unless_ended, and_then, now, after_effect, after_actions, after_rule, after_rules, after_stop, start, outcome_at, outcome_of}
use Rattle.rule_engine.specs.Growth.{Continues, OutcomeGrows, FatesGrow}

-- what a rule holds, for a fold under way
pub record HeldGoes (opened : List Gate) (rule : ℕ) (before after : Stage) : Type 0 where
  pub copies : Continues before.progress.copies after.progress.copies
  pub held : is_opened opened rule ≡ false → after ≡ before

abbrev pub Grows : List Gate → Option End → Stage → Stage → Type 0
Grows opened None before after = after ≡ before
Grows opened (Some (ends.Keep text)) before after = after ≡ before
Grows opened (Some (ends.Redirect target text rule)) before after = after ≡ before
Grows opened (Some (ends.Reject rule code words)) before after = after ≡ before
Grows opened (Some (ends.Held rule)) before after = HeldGoes opened rule before after

continues-refl : (copies : List MadeCopy) → Continues copies copies
continues-refl copies = record { more = []; is = grind (arith, common_steps) }

continues-trans : (a b c : List MadeCopy) → Continues a b → Continues b c → Continues a c
continues-trans a b c p q = record {
  more = p.more ++ q.more;
  is = let e : c ≡ b ++ q.more = q.is in let f : b ≡ a ++ p.more = p.is in e ∙ (ap (λ xs. xs ++ q.more) f ∙ append_assoc a p.more q.more);
}

-- A step only adds copies.
abbrev pub Adds : (Progress → Stage) → Type 0
Adds step = (progress : Progress) → Continues progress.copies (step progress).progress.copies

unless_ended-adds : (progress : Progress) (end : Option End) (next : Progress → Stage) → Adds next →
    Continues progress.copies (unless_ended progress end next).progress.copies
unless_ended-adds progress None next adds = adds progress
unless_ended-adds progress (Some end) next adds = continues-refl progress.copies

and_then-adds : (progress : Progress) (first : Stage) (next : Progress → Stage) → Continues progress.copies first.progress.copies → Adds next →
    Continues progress.copies (and_then first next).progress.copies
and_then-adds progress first next p adds =
    continues-trans _ _ _ p (unless_ended-adds first.progress first.end next adds)

after_effect-adds : (sender : Option (List ℕ)) (opened : List Gate) (rule : ℕ) (effect : Effect) → Adds (after_effect sender opened rule effect)
after_effect-adds sender opened rule (Edited message) progress = continues-refl progress.copies
after_effect-adds sender opened rule (CopyMade target) progress =
    record { more = record { target = target; text = now progress; rule = rule } ∷ []; is = refl }
after_effect-adds sender opened rule (SentOn target) progress = continues-refl progress.copies
after_effect-adds sender opened rule (Refused code words) progress = continues-refl progress.copies
after_effect-adds sender opened rule (Asks by) progress =
    elim (is_opened opened rule || is_one_of sender by)
    as (λ b. Continues progress.copies (if b then goes_on progress else ends_with progress (ends.Held rule)).progress.copies)
    [ true ↦ continues-refl progress.copies | false ↦ continues-refl progress.copies ]

after_actions-adds : (sender : Option (List ℕ)) (opened : List Gate) (rule : ℕ) (actions : List Action) → Adds (after_actions sender opened rule actions)
after_actions-adds sender opened rule [] progress = continues-refl progress.copies
after_actions-adds sender opened rule (action ∷ actions) progress =
    and_then-adds progress _ (after_actions sender opened rule actions) (after_effect-adds sender opened rule (act action progress.message) progress)
    (after_actions-adds sender opened rule actions)

after_stop-adds : (stop : Bool) → Adds (after_stop stop)
after_stop-adds true progress = continues-refl progress.copies
after_stop-adds false progress = continues-refl progress.copies

after_rule-adds : (setting : Setting) (opened : List Gate) (recipient : List ℕ) (place : ℕ) (rule : Rule) → Adds (after_rule setting opened recipient place rule)
after_rule-adds setting opened recipient place rule progress =
    elim (applies setting recipient progress.message rule)
    as (λ b. Continues progress.copies (if b then and_then (after_actions setting.sender opened place rule.actions progress) (after_stop rule.stop) else goes_on progress).progress.copies) [
      | true ↦ and_then-adds progress _ (after_stop rule.stop) (after_actions-adds setting.sender opened place rule.actions progress) (after_stop-adds rule.stop)
      | false ↦ continues-refl progress.copies
    ]

after_rules-adds : (setting : Setting) (opened : List Gate) (recipient : List ℕ) (place : ℕ) (rules : List Rule) → Adds (after_rules setting opened recipient place rules)
after_rules-adds setting opened recipient place [] progress = continues-refl progress.copies
after_rules-adds setting opened recipient place (rule ∷ rules) progress =
    and_then-adds progress _ (after_rules setting opened recipient (place + 1) rules) (after_rule-adds setting opened recipient place rule progress)
    (after_rules-adds setting opened recipient (place + 1) rules)

-- two steps, one after the other
grows-then-at : (opened : List Gate) (progress : Progress) (end : Option End) (after : Stage) (f g : Progress → Stage) →
    Grows opened end (stage progress end) after →
    ((p : Progress) → Grows opened (f p).end (f p) (g p)) → Adds g →
    Grows opened (unless_ended progress end f).end (unless_ended progress end f) (and_then after g)
grows-then-at opened progress None after f g first next adds =
    subst (λ (a : Stage). Grows opened (f progress).end (f progress) (and_then a g)) (sym first) (next progress)
grows-then-at opened progress (Some (ends.Keep text)) after f g first next adds = ap (λ a. and_then a g) first
grows-then-at opened progress (Some (ends.Redirect target text rule)) after f g first next adds = ap (λ a. and_then a g) first
grows-then-at opened progress (Some (ends.Reject rule code words)) after f g first next adds = ap (λ a. and_then a g) first
grows-then-at opened progress (Some (ends.Held rule)) after f g first next adds = record {
  copies = and_then-adds progress after g first.copies adds;
  held = λ h. ap (λ a. and_then a g) (first.held h);
}

grows-then : (opened : List Gate) (before after : Stage) (f g : Progress → Stage) →
    Grows opened before.end before after →
    ((p : Progress) → Grows opened (f p).end (f p) (g p)) → Adds g →
    Grows opened (and_then before f).end (and_then before f) (and_then after g)
grows-then opened before after f g first next adds = grows-then-at opened before.progress before.end after f g first next adds

-- a gate
asks-grow : (opened : List Gate) (rule : ℕ) (progress : Progress) (b o s : Bool) → is_opened opened rule ≡ o → (b ≡ true → o ≡ true) →
    let before : Stage = if b || s then goes_on progress else ends_with progress (ends.Held rule) in
    Grows opened before.end before (if o || s then goes_on progress else ends_with progress (ends.Held rule))
asks-grow opened rule progress true true s is h = refl
asks-grow opened rule progress true false s is h = let e : false ≡ true = h refl in cc
asks-grow opened rule progress false o true is h =
    elim o as (λ o. (if o || true then goes_on progress else ends_with progress (ends.Held rule)) ≡ goes_on progress) [ true ↦ refl | false ↦ refl ]
asks-grow opened rule progress false true false is h = record {
  copies = continues-refl progress.copies;
  held = λ (shut : is_opened opened rule ≡ false). cc;
}
asks-grow opened rule progress false false false is h = record {
  copies = continues-refl progress.copies;
  held = λ (shut : is_opened opened rule ≡ false). refl;
}

after_effect-grows : (sender : Option (List ℕ)) (before opened : List Gate) → OpensMore before opened → (rule : ℕ) (effect : Effect) (progress : Progress) →
    Grows opened (after_effect sender before rule effect progress).end (after_effect sender before rule effect progress) (after_effect sender opened rule effect progress)
after_effect-grows sender before opened more rule (Edited message) progress = refl
after_effect-grows sender before opened more rule (CopyMade target) progress = refl
after_effect-grows sender before opened more rule (SentOn target) progress = refl
after_effect-grows sender before opened more rule (Refused code words) progress = refl
after_effect-grows sender before opened more rule (Asks by) progress =
    asks-grow opened rule progress (is_opened before rule) (is_opened opened rule) (is_one_of sender by) refl (more rule)

after_actions-grow : (sender : Option (List ℕ)) (before opened : List Gate) → OpensMore before opened → (rule : ℕ) (actions : List Action) (progress : Progress) →
    Grows opened (after_actions sender before rule actions progress).end (after_actions sender before rule actions progress) (after_actions sender opened rule actions progress)
after_actions-grow sender before opened more rule [] progress = refl
after_actions-grow sender before opened more rule (action ∷ actions) progress =
    grows-then opened _ _ (after_actions sender before rule actions) (after_actions sender opened rule actions)
    (after_effect-grows sender before opened more rule (act action progress.message) progress)
    (after_actions-grow sender before opened more rule actions)
    (after_actions-adds sender opened rule actions)

after_stop-grows : (opened : List Gate) (stop : Bool) (progress : Progress) → Grows opened (after_stop stop progress).end (after_stop stop progress) (after_stop stop progress)
after_stop-grows opened true progress = refl
after_stop-grows opened false progress = refl

after_rule-grows : (setting : Setting) (before opened : List Gate) → OpensMore before opened → (recipient : List ℕ) (place : ℕ) (rule : Rule) (progress : Progress) →
    Grows opened (after_rule setting before recipient place rule progress).end (after_rule setting before recipient place rule progress) (after_rule setting opened recipient place rule progress)
after_rule-grows setting before opened more recipient place rule progress =
    elim (applies setting recipient progress.message rule)
    as (λ b. let f : Stage = if b then and_then (after_actions setting.sender before place rule.actions progress) (after_stop rule.stop) else goes_on progress in
    Grows opened f.end f (if b then and_then (after_actions setting.sender opened place rule.actions progress) (after_stop rule.stop) else goes_on progress)) [
      | true ↦ grows-then opened _ _ (after_stop rule.stop) (after_stop rule.stop) (after_actions-grow setting.sender before opened more place rule.actions progress)
          (after_stop-grows opened rule.stop) (after_stop-adds rule.stop)
      | false ↦ refl
    ]

after_rules-grow : (setting : Setting) (before opened : List Gate) → OpensMore before opened → (recipient : List ℕ) (place : ℕ) (rules : List Rule) (progress : Progress) →
    Grows opened (after_rules setting before recipient place rules progress).end (after_rules setting before recipient place rules progress) (after_rules setting opened recipient place rules progress)
after_rules-grow setting before opened more recipient place [] progress = refl
after_rules-grow setting before opened more recipient place (rule ∷ rules) progress =
    grows-then opened _ _ (after_rules setting before recipient (place + 1) rules) (after_rules setting opened recipient (place + 1) rules)
    (after_rule-grows setting before opened more recipient place rule progress)
    (after_rules-grow setting before opened more recipient (place + 1) rules)
    (after_rules-adds setting opened recipient (place + 1) rules)

outcome-copies : (copies : List MadeCopy) (after : Progress) (end : Option End) → Continues copies after.copies → Continues copies (outcome_at after end).copies
outcome-copies copies after None p = p
outcome-copies copies after (Some end) p = p

-- the fold always ends
outcome-grows : (opened : List Gate) (progress : Progress) (end : Option End) (after : Stage) → Grows opened end (stage progress end) after →
    OutcomeGrows opened (outcome_at progress end) (outcome_of after)
outcome-grows opened progress None after h = ap outcome_of h
outcome-grows opened progress (Some (ends.Keep text)) after h = ap outcome_of h
outcome-grows opened progress (Some (ends.Redirect target text rule)) after h = ap outcome_of h
outcome-grows opened progress (Some (ends.Reject rule code words)) after h = ap outcome_of h
outcome-grows opened progress (Some (ends.Held rule)) after h = record {
  copies = outcome-copies progress.copies after.progress after.end h.copies;
  held = λ shut. ap outcome_of (h.held shut);
}

pub fate-grows : FatesGrow
fate-grows rules setting message before opened recipient more =
    let h = after_rules-grow setting before opened more recipient 0 rules (start message) in
    outcome-grows opened _ _ _ h
