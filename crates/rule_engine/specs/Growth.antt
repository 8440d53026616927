-- What more opened gates do to the fate of one recipient.
use Rattle.std.specs.Prelude.{◌≡◌, ℕ, false, List, ◌++◌}
use Rattle.mail_names.specs.declared.gate.Gate.{Gate}
use Rattle.mail_message.specs.Message.{Mail}
use Rattle.rule_terms.specs.declared.rule.Rule.{Rule}
use Rattle.rule_match.specs.Applies.{Setting}
use Rattle.rule_engine.specs.Gates.{is_opened, OpensMore}
use Rattle.rule_engine.specs.Fate.{fate}
use Rattle.rule_engine.specs.declared.recipient.MadeCopy.{MadeCopy}
use Rattle.rule_engine.specs.declared.recipient.End.{End}
use Rattle.rule_engine.specs.declared.recipient.End.TheVariants as ends
use Rattle.rule_engine.specs.declared.recipient.RuleOutcome.{RuleOutcome}

-- The second list begins with the first.
pub record Continues (first second : List MadeCopy) : Type 0 where
  pub more : List MadeCopy
  pub is : second ≡ first ++ more

-- What a rule held keeps its copies, and is held as before while the rule isn't opened.
pub record HeldGrows (opened : List Gate) (rule : ℕ) (before after : RuleOutcome) : Type 0 where
  pub copies : Continues before.copies after.copies
  pub held : is_opened opened rule ≡ false → after ≡ before

-- Only what a rule held changes.
abbrev pub EndGrows : List Gate → End → RuleOutcome → RuleOutcome → Type 0
EndGrows opened (ends.Keep text) before after = after ≡ before
EndGrows opened (ends.Redirect target text rule) before after = after ≡ before
EndGrows opened (ends.Reject rule code words) before after = after ≡ before
EndGrows opened (ends.Held rule) before after = HeldGrows opened rule before after

-- an outcome, and the one with more opened gates
abbrev pub OutcomeGrows : List Gate → RuleOutcome → RuleOutcome → Type 0
OutcomeGrows opened before after = EndGrows opened before.end before after

-- With more gates opened every fate grows.
abbrev pub FatesGrow : Type 0
FatesGrow =
    (rules : List Rule) (setting : Setting) (message : Mail) (before opened : List Gate) (recipient : List ℕ) → OpensMore before opened
    → OutcomeGrows opened (fate rules setting message before recipient) (fate rules setting message opened recipient)

-- A list of gates that goes on from another one opens more.
abbrev pub LongerOpensMore : Type 0
LongerOpensMore = (opened more : List Gate) → OpensMore opened (opened ++ more)
