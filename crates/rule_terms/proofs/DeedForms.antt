-- The actions, rules and journal rules that are read have the form that a rule book asks for.
use Rattle.std.proofs.Common.{◌≡◌, ℕ, ◌+◌, ◌*◌, ◌-◌, ◌≤◌, ◌&&◌, ◌||◌, ◌==◌, nat_le, if◌then◌else◌, Bool, true, false, List, length, take, codes, Option, Some, None, Result, Ok, Err, refl, ap, ◌∙◌, arith}
use Rattle.std.specs.Prelude.{option_and_then, slice_index}
use Rattle.std.specs.List.{list_all}
use Rattle.std.specs.Char.{is_ascii_digit}
use Rattle.std.specs.Str.{bytes_eq}
use Rattle.std.proofs.lemmas.Bool.{and_parts, and_from, le-leb}
use Rattle.std.proofs.lemmas.Bool.Decides.{nat_tests}
use Rattle.toml.specs.Data.{Data, Items, Members, as_table, get_member}
use Rattle.org_directory.specs.Register.{Register, is_deliverable}
use Rattle.rule_terms.specs.Actions.{act_of, action_by, action_in, action_of, action_with, approve, code_in, disclaimer, fallback_in, is_high_code, keys_in, place_in, reject, set_field, shape_of, target_of, with_code}
use Rattle.rule_terms.specs.Forms.{are_actions, are_distinct, are_journals, are_rules, are_terms, go_together, is_action, is_book, is_code, is_field, is_journal, is_line, is_name, is_rule, is_within}
use Rattle.rule_terms.specs.Lists.{count, each, each_from, or_bad}
use Rattle.rule_terms.specs.Parts.{as_key, flag_at, formed_at, has_only, items_at, key_at, keys_of, moment_at, optional, text_at}
use Rattle.rule_terms.specs.Terms.{terms_at}
use Rattle.rule_terms.specs.Rules.{conditions, conditions_in, head, head_in, if_some_actions, journal, journal_in, journal_of, known, place_if, rest_of, rule_in, rule_of, scope_in, together, with_actions}
use Rattle.rule_terms.specs.declared.action.Action.{Action}
use Rattle.rule_terms.specs.declared.action.Action.TheVariants as actions
use Rattle.rule_terms.specs.declared.action.Fallback.{Fallback}
use Rattle.rule_terms.specs.declared.fault.RuleFault.{RuleFault}
use Rattle.rule_terms.specs.declared.fault.RuleFault.TheVariants as faults
use Rattle.rule_terms.specs.declared.flaw.Flaw.{Flaw}
use Rattle.rule_terms.specs.declared.flaw.Flaw.TheVariants as flaws
use Rattle.rule_terms.specs.declared.form.Form.TheVariants as forms
use Rattle.rule_terms.specs.declared.read_action.Act.{Act}
use Rattle.rule_terms.specs.declared.read_action.Act.TheVariants as acts
use Rattle.rule_terms.specs.declared.read_rule.Conditions.{Conditions}
use Rattle.rule_terms.specs.declared.read_rule.Head.{Head}
use Rattle.rule_terms.specs.declared.rule.JournalRule.{JournalRule}
use Rattle.rule_terms.specs.declared.rule.Rule.{Rule}
use Rattle.rule_terms.specs.declared.rule.Scope.{Scope}
use Rattle.rule_terms.specs.declared.shape.Shape.TheVariants as shapes
use Rattle.rule_terms.specs.declared.term.Term.{Term}
use Rattle.rule_terms.proofs.BookForms.{AreTerms, Finds, Gets, each-all, each-length, each_from-all, each_from-length, finds-if, formed_at-form, gets-either, gets-if, gets-made, gets-or_bad, gets-then, is_kept, terms_at-form}

abbrev pub IsAction : Action → Type 0
IsAction a = is_action a ≡ true

set_field-form : (field text : Option (List ℕ)) → Finds (λ t. is_field t ≡ true) field → Finds (λ t. is_line t ≡ true) text → Gets IsAction (set_field field text)
set_field-form (Some field) (Some text) f t = and_from (is_field field) (is_line text) f t
set_field-form (Some field) None f t = tt
set_field-form None text f t = tt

disclaimer-form : (before : Option Bool) (text : Option (List ℕ)) (fallback : Option Fallback) → Finds (λ t. is_kept forms.Note t ≡ true) text → Gets IsAction (disclaimer before text fallback)
disclaimer-form (Some before) (Some text) (Some fallback) t = t
disclaimer-form (Some before) (Some text) None t = tt
disclaimer-form (Some before) None fallback t = tt
disclaimer-form None text fallback t = tt

digit-high : (x : ℕ) → is_ascii_digit x ≡ true → x ≤ 57
digit-high x h = grind (arith, nat_tests)

high-code : (x y : ℕ) → is_ascii_digit x ≡ true → is_ascii_digit y ≡ true → is_code (900 + (10 * (x - 48) + (y - 48))) ≡ true
high-code x y a b =
    let x_high : x ≤ 57 = digit-high x a in
    let y_high : y ≤ 57 = digit-high y b in
    or_from (900 + (10 * (x - 48) + (y - 48)) == 1) (nat_le 900 (900 + (10 * (x - 48) + (y - 48)))) (nat_le (900 + (10 * (x - 48) + (y - 48))) 999)
    (le-leb 900 (900 + (10 * (x - 48) + (y - 48))) (omega arith)) (le-leb (900 + (10 * (x - 48) + (y - 48))) 999 (omega arith))
  where
    or_from : (p q r : Bool) → q ≡ true → r ≡ true → (p || (q && r)) ≡ true
    or_from true q r a b = refl
    or_from false q r a b = and_from q r a b

code_in-form : (text : List ℕ) → Finds (λ c. is_code c ≡ true) (code_in text)
code_in-form text = low (bytes_eq text (codes "5.7.1"))
  where
    high : (b : Bool) → is_high_code text ≡ b → Finds (λ c. is_code c ≡ true) (if b then Some (900 + (10 * (slice_index text 5 - 48) + (slice_index text 6 - 48))) else None)
    high true e =
        let size = and_parts (length text == 7) (bytes_eq (take 5 text) (codes "5.7.9") && (is_ascii_digit (slice_index text 5) && is_ascii_digit (slice_index text 6))) e in
        let front = and_parts (bytes_eq (take 5 text) (codes "5.7.9")) (is_ascii_digit (slice_index text 5) && is_ascii_digit (slice_index text 6)) size.1 in
        let digits = and_parts (is_ascii_digit (slice_index text 5)) (is_ascii_digit (slice_index text 6)) front.1 in
        high-code (slice_index text 5) (slice_index text 6) digits.0 digits.1
    high false e = tt

    low : (b : Bool) → Finds (λ c. is_code c ≡ true) (if b then Some 1 else (if is_high_code text then Some (900 + (10 * (slice_index text 5 - 48) + (slice_index text 6 - 48))) else None))
    low true = refl
    low false = high (is_high_code text) refl

reject-form : (code words : Option (List ℕ)) → Finds (λ t. is_line t ≡ true) words → Gets IsAction (reject code words)
reject-form (Some code) (Some words) w = coded (code_in code) (code_in-form code)
  where
    coded : (o : Option ℕ) → Finds (λ c. is_code c ≡ true) o → Gets IsAction (with_code words o)
    coded (Some c) h = and_from (is_code c) (is_line words) h w
    coded None h = tt
reject-form (Some code) None w = tt
reject-form None words w = tt

approve-form : (reg : Register) (keys : List (List ℕ)) → Gets IsAction (approve reg keys)
approve-form reg keys =
    gets-either IsAction (is_within 1 10 (length keys) && are_distinct keys) (if list_all (is_deliverable reg) keys then Ok (actions.Approve keys) else Err flaws.Unknown) (Err flaws.Bad)
    (λ (h : (is_within 1 10 (length keys) && are_distinct keys) ≡ true).
    gets-if IsAction (list_all (is_deliverable reg) keys) (actions.Approve keys) flaws.Unknown (λ (_ : list_all (is_deliverable reg) keys ≡ true). h))
    (λ (_ : (is_within 1 10 (length keys) && are_distinct keys) ≡ false). tt)

abbrev Any : {X : Type 0} → X → Type 0
Any x = Unit {0}

any : {X E : Type 0} (r : Result X E) → Gets Any r
any (Ok x) = tt
any (Err e) = tt

action_by-form : (reg : Register) (ms : Members) (act : Act) → Gets IsAction (action_by reg ms act)
action_by-form reg ms acts.Prepend =
    gets-made (λ t. is_line t ≡ true) IsAction (λ text. actions.Prepend text) (λ text h. h) (or_bad (formed_at forms.Line (codes "text") ms))
    (gets-or_bad (λ t. is_line t ≡ true) (formed_at forms.Line (codes "text") ms) (formed_at-form forms.Line (codes "text") ms))
action_by-form reg ms acts.SetField =
    set_field-form (formed_at forms.Field (codes "field") ms) (formed_at forms.Line (codes "text") ms) (formed_at-form forms.Field (codes "field") ms)
    (formed_at-form forms.Line (codes "text") ms)
action_by-form reg ms acts.RemoveField =
    gets-made (λ t. is_field t ≡ true) IsAction (λ field. actions.RemoveField field) (λ field h. h) (or_bad (formed_at forms.Field (codes "field") ms))
    (gets-or_bad (λ t. is_field t ≡ true) (formed_at forms.Field (codes "field") ms) (formed_at-form forms.Field (codes "field") ms))
action_by-form reg ms acts.CopyTo =
    gets-made Any IsAction (λ target. actions.CopyTo target) (λ target h. refl) (target_of reg (key_at (codes "to") ms)) (any (target_of reg (key_at (codes "to") ms)))
action_by-form reg ms acts.RedirectTo =
    gets-made Any IsAction (λ target. actions.RedirectTo target) (λ target h. refl) (target_of reg (key_at (codes "to") ms)) (any (target_of reg (key_at (codes "to") ms)))
action_by-form reg ms acts.Disclaimer =
    disclaimer-form (option_and_then place_in (text_at (codes "place") ms)) (formed_at forms.Note (codes "text") ms)
    (option_and_then fallback_in (text_at (codes "fallback") ms)) (formed_at-form forms.Note (codes "text") ms)
action_by-form reg ms acts.Reject = reject-form (text_at (codes "code") ms) (formed_at forms.Line (codes "text") ms) (formed_at-form forms.Line (codes "text") ms)
action_by-form reg ms acts.Approve =
    gets-then Any IsAction (approve reg) (λ keys h. approve-form reg keys) (keys_in (items_at (codes "by") ms)) (any (keys_in (items_at (codes "by") ms)))

action_with-form : (reg : Register) (ms : Members) (o : Option Act) → Gets IsAction (action_with reg ms o)
action_with-form reg ms None = tt
action_with-form reg ms (Some act) =
    gets-either IsAction (has_only (keys_of (shape_of act)) ms) (action_by reg ms act) (Err flaws.Bad)
    (λ (_ : has_only (keys_of (shape_of act)) ms ≡ true). action_by-form reg ms act) (λ (_ : has_only (keys_of (shape_of act)) ms ≡ false). tt)

action_in-form : (reg : Register) (o : Option Members) → Gets IsAction (action_in reg o)
action_in-form reg None = tt
action_in-form reg (Some ms) = action_with-form reg ms (option_and_then act_of (text_at (codes "act") ms))

pub action_of-form : (reg : Register) (d : Data) → Gets IsAction (action_of reg d)
unfolding action_of
action_of-form reg d = action_in-form reg (as_table d)

-- rules
abbrev pub AreActions : List Action → Type 0
AreActions list = are_actions list ≡ true

abbrev AreGood : Conditions → Type 0
AreGood c = AreTerms c.when × AreTerms c.unless

conditions-form : (n : ℕ) (from until : Option (Option ℕ)) (when unless : Result (List Term) Flaw) → Gets AreTerms when → Gets AreTerms unless
    → Gets AreGood (conditions n from until when unless)
conditions-form n (Some from) (Some until) (Ok when) (Ok unless) a b = (a, b)
conditions-form n (Some from) (Some until) (Ok when) (Err flaw) a b = tt
conditions-form n (Some from) (Some until) (Err flaw) unless a b = tt
conditions-form n (Some from) None when unless a b = tt
conditions-form n None until when unless a b = tt

abbrev IsHead : Head → Type 0
IsHead h = is_name h.name ≡ true

head-form : (name : Option (List ℕ)) (enabled stop : Option Bool) → Finds (λ t. is_name t ≡ true) name → Finds IsHead (head name enabled stop)
head-form (Some name) (Some enabled) (Some stop) h = h
head-form (Some name) (Some enabled) None h = tt
head-form (Some name) None stop h = tt
head-form None enabled stop h = tt

head_in-form : (ms : Members) → Finds IsHead (head_in ms)
head_in-form ms = tested (has_only (keys_of shapes.Rule) ms)
  where
    tested : (b : Bool) → Finds IsHead (if b then head (formed_at forms.Name (codes "name") ms) (flag_at (codes "enabled") true ms) (flag_at (codes "stop") false ms) else None)
    tested true = head-form (formed_at forms.Name (codes "name") ms) (flag_at (codes "enabled") true ms) (flag_at (codes "stop") false ms) (formed_at-form forms.Name (codes "name") ms)
    tested false = tt

-- so many items
abbrev AreSome : Items → Type 0
AreSome items = is_within 1 16 (count items) ≡ true

some-form : (o : Option Items) → Finds AreSome (if_some_actions o)
some-form None = tt
some-form (Some items) = finds-if AreSome (is_within 1 16 (count items)) items (λ (h : is_within 1 16 (count items) ≡ true). h)

together-form : (n k : ℕ) → is_within 1 16 k ≡ true → (r : Result (List Action) Flaw) → Gets (λ xs. length xs ≡ k) r → Gets (λ xs. list_all is_action xs ≡ true) r
    → Gets AreActions (together n r)
together-form n k few (Ok actions) size all =
    gets-if AreActions (go_together actions) actions (faults.BadAction n)
    (λ (h : go_together actions ≡ true).
    and_from (is_within 1 16 (length actions)) (list_all is_action actions && go_together actions) (ap (is_within 1 16) size ∙ few)
    (and_from (list_all is_action actions) (go_together actions) all h))
together-form n k few (Err flaw) size all = tt

abbrev pub IsRule : Rule → Type 0
IsRule r = is_rule r ≡ true

with_actions-form : (c : Conditions) (h : Head) (r : Result (List Action) RuleFault) → AreGood c → IsHead h → Gets AreActions r → Gets IsRule (with_actions c h r)
with_actions-form c h (Ok actions) good named acts =
    and_from (is_name h.name) (are_terms c.when && (are_terms c.unless && are_actions actions)) named
    (and_from (are_terms c.when) (are_terms c.unless && are_actions actions) good.0 (and_from (are_terms c.unless) (are_actions actions) good.1 acts))
with_actions-form c h (Err e) good named acts = tt

rest_of-form : (reg : Register) (n : ℕ) (c : Conditions) (o : Option Head) (items : Option Items) → AreGood c → Finds IsHead o → Finds AreSome items
    → Gets IsRule (rest_of reg n c o items)
rest_of-form reg n c (Some h) (Some items) good named few =
    with_actions-form c h (together n (each (action_of reg) items)) good named
    (together-form n (count items) few (each (action_of reg) items) (each-length (action_of reg) items) (each-all is_action (action_of reg) (action_of-form reg) items))
rest_of-form reg n c (Some h) None good named few = tt
rest_of-form reg n c None items good named few = tt

rule_in-form : (reg : Register) (n : ℕ) (o : Option Members) → Gets IsRule (rule_in reg n o)
rule_in-form reg n None = tt
rule_in-form reg n (Some ms) =
    gets-then AreGood IsRule (λ c. rest_of reg n c (head_in ms) (if_some_actions (items_at (codes "do") ms)))
    (λ c good. rest_of-form reg n c (head_in ms) (if_some_actions (items_at (codes "do") ms)) good (head_in-form ms) (some-form (items_at (codes "do") ms)))
    (conditions_in reg n ms)
    (conditions-form n (moment_at (codes "from") ms) (moment_at (codes "until") ms) (terms_at reg (codes "when") ms) (terms_at reg (codes "unless") ms)
    (terms_at-form reg (codes "when") ms) (terms_at-form reg (codes "unless") ms))

pub rule_of-form : (reg : Register) (n : ℕ) (d : Data) → Gets IsRule (rule_of reg n d)
unfolding rule_of
rule_of-form reg n d = rule_in-form reg n (as_table d)

-- journal rules
abbrev pub IsJournal : JournalRule → Type 0
IsJournal j = is_journal j ≡ true

known-form : (reg : Register) (n : ℕ) (name : List ℕ) (scope : Scope) (recipient : Option (Option ℕ)) (mailbox : List ℕ) → is_name name ≡ true
    → Gets IsJournal (known reg n name scope recipient mailbox)
known-form reg n name scope (Some recipient) mailbox h =
    gets-if IsJournal (is_deliverable reg mailbox) (record { name = name; scope = scope; recipient = recipient; mailbox = mailbox }) (faults.UnknownKey n)
    (λ (_ : is_deliverable reg mailbox ≡ true). h)
known-form reg n name scope None mailbox h = tt

journal-form : (reg : Register) (n : ℕ) (name : Option (List ℕ)) (scope : Option Scope) (recipient : Option (Option (List ℕ))) (mailbox : Option (List ℕ))
    → Finds (λ t. is_name t ≡ true) name → Gets IsJournal (journal reg n name scope recipient mailbox)
journal-form reg n (Some name) (Some scope) (Some recipient) (Some mailbox) h = known-form reg n name scope (place_if reg recipient) mailbox h
journal-form reg n (Some name) (Some scope) (Some recipient) None h = tt
journal-form reg n (Some name) (Some scope) None mailbox h = tt
journal-form reg n (Some name) None recipient mailbox h = tt
journal-form reg n None scope recipient mailbox h = tt

journal_in-form : (reg : Register) (n : ℕ) (o : Option Members) → Gets IsJournal (journal_in reg n o)
journal_in-form reg n None = tt
journal_in-form reg n (Some ms) =
    gets-either IsJournal (has_only (keys_of shapes.Journal) ms)
    (journal reg n (formed_at forms.Name (codes "name") ms) (option_and_then scope_in (text_at (codes "scope") ms))
    (optional as_key (get_member (codes "recipient") ms)) (key_at (codes "mailbox") ms))
    (Err (faults.BadAction n))
    (λ (_ : has_only (keys_of shapes.Journal) ms ≡ true).
    journal-form reg n (formed_at forms.Name (codes "name") ms) (option_and_then scope_in (text_at (codes "scope") ms))
    (optional as_key (get_member (codes "recipient") ms)) (key_at (codes "mailbox") ms) (formed_at-form forms.Name (codes "name") ms))
    (λ (_ : has_only (keys_of shapes.Journal) ms ≡ false). tt)

pub journal_of-form : (reg : Register) (n : ℕ) (d : Data) → Gets IsJournal (journal_of reg n d)
unfolding journal_of
journal_of-form reg n d = journal_in-form reg n (as_table d)

at : {X E : Type 0} (P : X → Type 0) (r : Result X E) (x : X) → r ≡ Ok x → Gets P r → P x
at P (Ok y) x e h = let same : y ≡ x = cc in rw (← same) h
at P (Err f) x e h = absurd (cc e)

-- What is read of at most 100 rules and at most 100 journal rules is a book.
pub book-form : (reg : Register) (rules journals : Items) (n : ℕ) (rs : List Rule) (js : List JournalRule) → count rules ≤ 100 → count journals ≤ 100
    → each_from (rule_of reg) 0 rules ≡ Ok rs → each_from (journal_of reg) n journals ≡ Ok js → is_book (record { rules = rs; journals = js }) ≡ true
book-form reg rules journals n rs js few_rules few_journals a b =
    let rules_size : length rs ≡ count rules = at (λ xs. length xs ≡ count rules) (each_from (rule_of reg) 0 rules) rs a (each_from-length (rule_of reg) 0 rules) in
    let journals_size : length js ≡ count journals = at (λ xs. length xs ≡ count journals) (each_from (journal_of reg) n journals) js b (each_from-length (journal_of reg) n journals) in
    and_from (are_rules rs) (are_journals js)
    (and_from (nat_le (length rs) 100) (list_all is_rule rs) (le-leb (length rs) 100 (omega arith))
    (at (λ xs. list_all is_rule xs ≡ true) (each_from (rule_of reg) 0 rules) rs a (each_from-all is_rule (rule_of reg) (rule_of-form reg) 0 rules)))
    (and_from (nat_le (length js) 100) (list_all is_journal js) (le-leb (length js) 100 (omega arith))
    (at (λ xs. list_all is_journal xs ≡ true) (each_from (journal_of reg) n journals) js b (each_from-all is_journal (journal_of reg) (journal_of-form reg) n journals)))
