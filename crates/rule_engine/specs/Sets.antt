-- Sets of recipients that share one message, and are split by what a rule makes of them.
use Rattle.std.specs.Prelude.{ℕ, Bool, true, false, not, List, [], ◌∷◌, map}
use Rattle.std.specs.List.{filter}
use Rattle.mail_names.specs.declared.gate.Gate.{Gate}
use Rattle.mail_message.specs.Message.{Mail}
use Rattle.rule_terms.specs.declared.rule.Rule.{Rule}
use Rattle.rule_match.specs.Applies.{Setting, applies}
use Rattle.rule_engine.specs.Fate.{Stage, and_then, after_rules, outcome_of}
use Rattle.rule_engine.specs.declared.recipient.RuleOutcome.{RuleOutcome}

-- whether a rule applies to a recipient
abbrev pub is_chosen : Setting → Mail → Rule → List ℕ → Bool
is_chosen setting message rule recipient = applies setting recipient message rule

-- the marks of a set: for each recipient whether the rule applies
abbrev pub marks_of : Setting → Mail → Rule → List (List ℕ) → List Bool
marks_of setting message rule set = map (is_chosen setting message rule) set

-- those to which it applies, and the others
abbrev pub chosen_of : Setting → Mail → Rule → List (List ℕ) → List (List ℕ)
chosen_of setting message rule set = filter (is_chosen setting message rule) set

abbrev pub others_of : Setting → Mail → Rule → List (List ℕ) → List (List ℕ)
others_of setting message rule set = filter (λ (recipient : List ℕ). not (is_chosen setting message rule recipient)) set

-- two lists as one: at each mark the next of the first list, and else the next of the second
abbrev pub merged : List Bool → List RuleOutcome → List RuleOutcome → List RuleOutcome
merged [] firsts seconds = []
merged (true ∷ marks) [] seconds = merged marks [] seconds
merged (true ∷ marks) (first ∷ firsts) seconds = first ∷ merged marks firsts seconds
merged (false ∷ marks) firsts [] = merged marks firsts []
merged (false ∷ marks) firsts (second ∷ seconds) = second ∷ merged marks firsts seconds

-- the outcome of a recipient whose fold has come to this stage, where these rules are left
abbrev pub outcome_from : Setting → List Gate → ℕ → List Rule → Stage → List ℕ → RuleOutcome
outcome_from setting opened place rules before recipient = outcome_of (and_then before (after_rules setting opened recipient place rules))

-- the outcomes of a set that has come to it
abbrev pub set_outcomes : Setting → List Gate → ℕ → List Rule → Stage → List (List ℕ) → List RuleOutcome
set_outcomes setting opened place rules before set = map (outcome_from setting opened place rules before) set
