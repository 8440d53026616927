-- The text of a fate is what its edits make of the message.
use Rattle.std.specs.Prelude.{◌≡◌, ℕ, List}
use Rattle.mail_names.specs.declared.gate.Gate.{Gate}
use Rattle.mail_message.specs.Message.{Mail}
use Rattle.rule_terms.specs.declared.rule.Rule.{Rule}
use Rattle.rule_match.specs.Applies.{Setting}
use Rattle.rule_engine.specs.Edits.{edits, rendered}
use Rattle.rule_engine.specs.Fate.{fate}
use Rattle.rule_engine.specs.declared.recipient.End.{End}
use Rattle.rule_engine.specs.declared.recipient.End.TheVariants as ends

-- An end that has a text has this one.
abbrev pub EndHasText : End → List ℕ → Type 0
EndHasText (ends.Keep text) all = text ≡ all
EndHasText (ends.Redirect target text rule) all = text ≡ all
EndHasText (ends.Reject rule code words) all = Unit {0}
EndHasText (ends.Held rule) all = Unit {0}

-- The text of each fate is rendered by its edits.
abbrev pub FatesAreRendered : Type 0
FatesAreRendered =
    (rules : List Rule) (setting : Setting) (message : Mail) (opened : List Gate) (recipient : List ℕ) →
    EndHasText (fate rules setting message opened recipient).end (rendered rules message (edits rules setting message opened recipient))
