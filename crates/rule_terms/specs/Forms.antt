-- The forms of terms, actions and rules. Every rule of a book has them.
use Rattle.std.specs.Prelude.{ℕ, ◌==◌, nat_le, Bool, true, false, not, ◌&&◌, ◌||◌, List, [], ◌∷◌, length}
use Rattle.std.specs.List.{list_all, list_any, filter}
use Rattle.std.specs.Char.{is_ascii_uppercase}
use Rattle.std.specs.Str.{bytes_eq, is_utf8}
use Rattle.mail_names.specs.Key.{is_key_byte}
use Rattle.mail_message.specs.Lines.{is_field_name, is_printable}
use Rattle.rule_terms.specs.declared.action.Action.{Action}
use Rattle.rule_terms.specs.declared.action.Action.TheVariants as actions
use Rattle.rule_terms.specs.declared.rule.Rule.{Rule}
use Rattle.rule_terms.specs.declared.rule.JournalRule.{JournalRule}
use Rattle.rule_terms.specs.declared.term.Term.{Term}
use Rattle.rule_terms.specs.declared.term.Term.TheVariants as terms

-- what contracts see of a rule book
pub record Book : Type 0 where
  pub rules : List Rule
  pub journals : List JournalRule

abbrev pub is_within : ℕ → ℕ → ℕ → Bool
is_within low high n = nat_le low n && nat_le n high

-- A rule's name is 1 to 64 printable bytes.
abbrev pub is_name : List ℕ → Bool
is_name text = is_within 1 64 (length text) && is_printable text

-- The text of an edit or of a rejection is 1 to 256 printable bytes.
abbrev pub is_line : List ℕ → Bool
is_line text = is_within 1 256 (length text) && is_printable text

-- A word is 1 to 256 bytes of UTF-8.
abbrev pub is_word : List ℕ → Bool
is_word text = is_within 1 256 (length text) && is_utf8 text

-- A field is named by 1 to 64 bytes.
abbrev pub is_field : List ℕ → Bool
is_field text = is_within 1 64 (length text) && is_field_name text

-- A domain is 1 to 252 bytes of keys without @.
abbrev pub is_domain_byte : ℕ → Bool
is_domain_byte b = is_key_byte b && not (b == 64)

abbrev pub is_domain : List ℕ → Bool
is_domain text = is_within 1 252 (length text) && list_all is_domain_byte text

-- It is kept in lower case.
abbrev pub is_low_domain : List ℕ → Bool
is_low_domain text = is_domain text && not (list_any is_ascii_uppercase text)

-- A disclaimer's text has no NUL.
abbrev pub has_no_nul : List ℕ → Bool
has_no_nul text = list_all (λ b. not (b == 0)) text

-- behind this byte, each LF of the text has a CR before it
abbrev pub ends_lines : ℕ → List ℕ → Bool
ends_lines before [] = true
ends_lines before (b ∷ bs) = (not (b == 10) || before == 13) && ends_lines b bs

-- so many octets, where the CR LF at the end of a line counts as one
abbrev pub note_length : List ℕ → ℕ
note_length text = length (filter (λ b. not (b == 10)) text)

-- A disclaimer's text, as it is kept, has 1 to 4,096 octets, and CR LF at the end of each line.
abbrev pub is_note : List ℕ → Bool
is_note text = is_within 1 4096 (note_length text) && (has_no_nul text && ends_lines 0 text)

-- a term has 1 to 100 values
abbrev pub are_few : {X : Type 0} → List X → Bool
are_few values = is_within 1 100 (length values)

abbrev pub are_words : List (List ℕ) → Bool
are_words words = are_few words && list_all is_word words

-- each key stands once
abbrev pub are_distinct : List (List ℕ) → Bool
are_distinct [] = true
are_distinct (key ∷ keys) = not (list_any (bytes_eq key) keys) && are_distinct keys

-- the values of a term have their form
abbrev pub is_term : Term → Bool
is_term (terms.SenderIs keys) = are_few keys
is_term (terms.RecipientIs keys) = are_few keys
is_term (terms.SenderIn groups) = are_few groups
is_term (terms.RecipientIn groups) = are_few groups
is_term (terms.SenderScope sides) = are_few sides
is_term (terms.RecipientScope sides) = are_few sides
is_term (terms.SenderDomain domains) = are_few domains && list_all is_low_domain domains
is_term (terms.RecipientDomain domains) = are_few domains && list_all is_low_domain domains
is_term (terms.SubjectWords words) = are_words words
is_term (terms.TextWords words) = are_words words
is_term (terms.FieldWords field words) = is_field field && are_words words
is_term (terms.FieldPresent field) = is_field field
is_term (terms.SizeAtLeast bytes) = true

-- 1 for 5.7.1, or 900 to 999
abbrev pub is_code : ℕ → Bool
is_code code = code == 1 || is_within 900 999 code

-- the values of an action have their form
abbrev pub is_action : Action → Bool
is_action (actions.Prepend text) = is_line text
is_action (actions.SetField field text) = is_field field && is_line text
is_action (actions.RemoveField field) = is_field field
is_action (actions.CopyTo target) = true
is_action (actions.RedirectTo target) = true
is_action (actions.Disclaimer before text fallback) = is_note text
is_action (actions.Reject code words) = is_code code && is_line words
is_action (actions.Approve by) = is_within 1 10 (length by) && are_distinct by

-- redirect, reject and approve end the fold of a rule
abbrev pub is_ending : Action → Bool
is_ending (actions.Prepend text) = false
is_ending (actions.SetField field text) = false
is_ending (actions.RemoveField field) = false
is_ending (actions.CopyTo target) = false
is_ending (actions.RedirectTo target) = true
is_ending (actions.Disclaimer before text fallback) = false
is_ending (actions.Reject code words) = true
is_ending (actions.Approve by) = true

abbrev pub is_disclaimer : Action → Bool
is_disclaimer (actions.Prepend text) = false
is_disclaimer (actions.SetField field text) = false
is_disclaimer (actions.RemoveField field) = false
is_disclaimer (actions.CopyTo target) = false
is_disclaimer (actions.RedirectTo target) = false
is_disclaimer (actions.Disclaimer before text fallback) = true
is_disclaimer (actions.Reject code words) = false
is_disclaimer (actions.Approve by) = false

-- an action that ends stands last
abbrev pub end_last : List Action → Bool
end_last [] = true
end_last (a ∷ []) = true
end_last (a ∷ b ∷ more) = not (is_ending a) && end_last (b ∷ more)

-- at most one disclaimer, and an end in the last place alone
abbrev pub go_together : List Action → Bool
go_together all = nat_le (length (filter is_disclaimer all)) 1 && end_last all

abbrev pub are_terms : List Term → Bool
are_terms list = nat_le (length list) 16 && list_all is_term list

abbrev pub are_actions : List Action → Bool
are_actions list = is_within 1 16 (length list) && (list_all is_action list && go_together list)

abbrev pub is_rule : Rule → Bool
is_rule r = is_name r.name && (are_terms r.when && (are_terms r.unless && are_actions r.actions))

abbrev pub is_journal : JournalRule → Bool
is_journal j = is_name j.name

-- at most 100 of each
abbrev pub are_rules : List Rule → Bool
are_rules rules = nat_le (length rules) 100 && list_all is_rule rules

abbrev pub are_journals : List JournalRule → Bool
are_journals journals = nat_le (length journals) 100 && list_all is_journal journals

abbrev pub is_book : Book → Bool
is_book b = are_rules b.rules && are_journals b.journals
