-- The fates of all leaves, with each distinct text once.
use Rattle.std.specs.Prelude.{ℕ, ◌+◌, Bool, if◌then◌else◌, List, [], ◌∷◌, ◌++◌, map, fold, bytes_eq}
use Rattle.std.specs.List.{list_any}
use Rattle.mail_names.specs.declared.gate.Gate.{Gate}
use Rattle.mail_message.specs.Message.{Mail}
use Rattle.group_expand.specs.declared.outcome.Leaf.{Leaf}
use Rattle.rule_terms.specs.declared.rule.Rule.{Rule}
use Rattle.rule_match.specs.Applies.{Setting}
use Rattle.rule_engine.specs.Fate.{fate}
use Rattle.rule_engine.specs.declared.recipient.MadeCopy.{MadeCopy}
use Rattle.rule_engine.specs.declared.recipient.End.{End}
use Rattle.rule_engine.specs.declared.recipient.End.TheVariants as ends
use Rattle.rule_engine.specs.declared.recipient.RuleOutcome.{RuleOutcome}
use Rattle.rule_engine.specs.declared.leaves.Fate.{Fate}
use Rattle.rule_engine.specs.declared.leaves.Fate.TheVariants as fates
use Rattle.rule_engine.specs.declared.leaves.SideCopy.{SideCopy}
use Rattle.rule_engine.specs.declared.leaves.Run.{Run}

-- whether a text is among these
abbrev pub is_text : List (List ℕ) → List ℕ → Bool
is_text texts text = list_any (bytes_eq text) texts

-- the texts, and this one behind them unless it is there
abbrev pub with_text : List (List ℕ) → List ℕ → List (List ℕ)
with_text texts text = if is_text texts text then texts else texts ++ text ∷ []

-- the distinct ones, in the order of first use
abbrev pub distinct : List (List ℕ) → List (List ℕ)
distinct texts = fold with_text [] texts

-- where a text stands first
abbrev pub place_of : List (List ℕ) → List ℕ → ℕ
place_of [] text = 0
place_of (other ∷ others) text = if bytes_eq text other then 0 else place_of others text + 1

-- the text of an end, where it has one
abbrev pub end_texts : End → List (List ℕ)
end_texts (ends.Keep text) = text ∷ []
end_texts (ends.Redirect target text rule) = text ∷ []
end_texts (ends.Reject rule code words) = []
end_texts (ends.Held rule) = []

abbrev pub copy_text : MadeCopy → List ℕ
copy_text copied = copied.text

-- the texts that an outcome uses: those of its copies, and then that of its end
abbrev pub used : RuleOutcome → List (List ℕ)
used outcome = map copy_text outcome.copies ++ end_texts outcome.end

-- the texts that these outcomes use, in order
abbrev pub all_used : List RuleOutcome → List (List ℕ)
all_used [] = []
all_used (outcome ∷ others) = used outcome ++ all_used others

-- an end, with the place of its text
abbrev pub placed_end : List (List ℕ) → End → Fate
placed_end texts (ends.Keep text) = fates.Keep (place_of texts text)
placed_end texts (ends.Redirect target text rule) = fates.Redirect target (place_of texts text) rule
placed_end texts (ends.Reject rule code words) = fates.Reject rule code words
placed_end texts (ends.Held rule) = fates.Held rule

-- the ends of these outcomes
abbrev pub all_ends : List (List ℕ) → List RuleOutcome → List Fate
all_ends texts [] = []
all_ends texts (outcome ∷ others) = placed_end texts outcome.end ∷ all_ends texts others

-- a copy of a leaf, with the place of its text
abbrev pub placed_copy : List (List ℕ) → ℕ → MadeCopy → SideCopy
placed_copy texts leaf copied = record { leaf = leaf; target = copied.target; text = place_of texts copied.text; rule = copied.rule }

abbrev pub placed_copies : List (List ℕ) → ℕ → List MadeCopy → List SideCopy
placed_copies texts leaf copies = map (placed_copy texts leaf) copies

-- the copies of these outcomes, the first of which is of this leaf
abbrev pub all_copies : List (List ℕ) → ℕ → List RuleOutcome → List SideCopy
all_copies texts leaf [] = []
all_copies texts leaf (outcome ∷ others) = placed_copies texts leaf outcome.copies ++ all_copies texts (leaf + 1) others

-- the fates of the leaves one by one, each by its key alone
abbrev pub outcomes : List Rule → Setting → Mail → List Gate → List Leaf → List RuleOutcome
outcomes rules setting message opened [] = []
outcomes rules setting message opened (leaf ∷ leaves) =
    fate rules setting message opened leaf.key ∷ outcomes rules setting message opened leaves

-- The texts are numbered leaf by leaf, and in a leaf those of its copies before that of its end.
abbrev pub run_of : List RuleOutcome → Run
run_of outs = let all : List (List ℕ) = distinct (all_used outs) in record {
  texts = all;
  fates = all_ends all outs;
  copies = all_copies all 0 outs;
}
