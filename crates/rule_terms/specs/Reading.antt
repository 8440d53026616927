-- The rule book that a rules file reads to, or its first fault.
use Rattle.std.specs.Prelude.{◌≡◌, ℕ, Bool, true, ◌&&◌, ◌||◌, nat_le, nat_lt, is_some, if◌then◌else◌, List, length, codes, Option, Some, None, option_and_then, Result, Ok, Err}
use Rattle.std.specs.Str.{is_utf8}
use Rattle.toml.specs.Data.{Data, Items, no_items, item, Members, get_member, as_array, as_table}
use Rattle.toml.specs.Parse.{parse_document}
use Rattle.org_directory.specs.Register.{Register}
use Rattle.rule_terms.specs.Forms.{Book}
use Rattle.rule_terms.specs.Lists.{and_then, count, each_from, made}
use Rattle.rule_terms.specs.Parts.{has_only, keys_of}
use Rattle.rule_terms.specs.Rules.{journal_of, rule_of}
use Rattle.rule_terms.specs.declared.fault.RuleFault.{RuleFault}
use Rattle.rule_terms.specs.declared.fault.RuleFault.TheVariants as faults
use Rattle.rule_terms.specs.declared.rule.JournalRule.{JournalRule}
use Rattle.rule_terms.specs.declared.rule.Rule.{Rule}
use Rattle.rule_terms.specs.declared.shape.Shape.TheVariants as shapes

-- each item is a table
abbrev pub are_tables : Items → Bool
are_tables no_items = true
are_tables (item d ds) = is_some (as_table d) && are_tables ds

-- items that are tables
abbrev pub if_tables : Items → Option Items
if_tables items = if are_tables items then Some items else None

-- an array of tables, or none
abbrev pub tables_in : Option Data → Option Items
tables_in None = Some no_items
tables_in (Some d) = option_and_then if_tables (as_array d)

-- an array of tables, which may be missing
abbrev pub tables_at : List ℕ → Members → Option Items
tables_at key ms = tables_in (get_member key ms)

-- the table of a text of at most 1,048,576 bytes
abbrev pub table_of : List ℕ → Option Members
table_of text = if nat_le (length text) 1048576 && is_utf8 text then parse_document text else None

-- a book of these rules
abbrev pub bound : List Rule → List JournalRule → Book
bound rules journals = record { rules = rules; journals = journals }

-- the rules and then the journal rules, which are counted on behind them
abbrev pub all_of : Register → Items → Items → Result Book RuleFault
all_of reg rules journals =
    and_then (each_from (rule_of reg) 0 rules) (λ rs. made (bound rs) (each_from (journal_of reg) (count rules) journals))

-- at most 100 rules and at most 100 journal rules
abbrev pub book_with : Register → Option Items → Option Items → Result Book RuleFault
book_with reg (Some rules) (Some journals) =
    if nat_lt 100 (count rules) || nat_lt 100 (count journals) then Err faults.TooMany else all_of reg rules journals
book_with reg (Some rules) None = Err faults.NotToml
book_with reg None journals = Err faults.NotToml

-- the book that a table says
abbrev pub book_in : Register → Option Members → Result Book RuleFault
book_in reg None = Err faults.NotToml
book_in reg (Some ms) =
    if has_only (keys_of shapes.Top) ms then book_with reg (tables_at (codes "rule") ms) (tables_at (codes "journal") ms) else Err faults.NotToml

-- The book of a text, judged on the table that the text is.
unfoldable pub book_of : List ℕ → Register → Result Book RuleFault
book_of text reg = book_in reg (table_of text)

-- A fault is the one of reading, and want of memory may be told of any text.
abbrev pub Fails : {X : Type 0} → RuleFault → Result X RuleFault → Type 0
Fails faults.NoMemory read = Unit {0}
Fails faults.NotToml read = read ≡ Err faults.NotToml
Fails faults.TooMany read = read ≡ Err faults.TooMany
Fails (faults.BadTerm n) read = read ≡ Err (faults.BadTerm n)
Fails (faults.BadAction n) read = read ≡ Err (faults.BadAction n)
Fails (faults.UnknownKey n) read = read ≡ Err (faults.UnknownKey n)
Fails (faults.BadCode n) read = read ≡ Err (faults.BadCode n)
Fails (faults.BadDate n) read = read ≡ Err (faults.BadDate n)

-- What a call answers is what reading gives, unless memory ran out.
abbrev pub Gives : {X : Type 0} → Result X RuleFault → Result X RuleFault → Type 0
Gives (Ok x) read = read ≡ Ok x
Gives (Err e) read = Fails e read
