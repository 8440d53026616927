-- A text's table, and the book of its rules.
use Rattle.std.proofs.Common.{◌≡◌, ℕ, ◌≤◌, ◌&&◌, nat_le, nat_lt, if◌then◌else◌, Bool, true, false, List, length, Option, None, Ok, Err, refl, arith}
use Rattle.std.specs.Str.{IsUtf8, is_utf8}
use Rattle.std.proofs.lemmas.Bool.{and_right, le-leb, ltb-false}
use Rattle.std.proofs.lemmas.Str.{IsUtf8-from_is_utf8, is_utf8-from_IsUtf8}
use Rattle.toml.specs.Data.{Items, Members}
use Rattle.toml.specs.Parse.{parse_document}
use Rattle.toml.specs.View.{items_view}
use Rattle.toml.specs.declared.value.Value.{Value}
use Rattle.org_directory.specs.Register.{Register}
use Rattle.rule_terms.specs.Lists.{count, each_from}
use Rattle.rule_terms.specs.Reading.{all_of, bound, table_of}
use Rattle.rule_terms.specs.Rules.{journal_of, rule_of}
use Rattle.rule_terms.specs.declared.fault.RuleFault.{RuleFault}
use Rattle.rule_terms.specs.declared.rule.JournalRule.{JournalRule}
use Rattle.rule_terms.specs.declared.rule.Rule.{Rule}
use Rattle.rule_terms.proofs.TableKeys.{count-items_view}

pub table-read : (text : List ℕ) (o : Option Members) → length text ≤ 1048576 → IsUtf8 text → parse_document text ≡ o → table_of text ≡ o
table-read text o h utf8 e = rw (le-leb (length text) 1048576 h, is_utf8-from_IsUtf8 text utf8) e

pub table-refused : (text : List ℕ) → (IsUtf8 text → parse_document text ≡ None) → table_of text ≡ None
table-refused text f = tested (is_utf8 text) refl
  where
    none_if : (b : Bool) (o : Option Members) → o ≡ None → (if b then o else None) ≡ None
    none_if true o e = e
    none_if false o e = refl

    tested : (b : Bool) → is_utf8 text ≡ b → (if nat_le (length text) 1048576 && b then parse_document text else None) ≡ None
    tested true e = none_if (nat_le (length text) 1048576 && true) (parse_document text) (f (IsUtf8-from_is_utf8 text e))
    tested false e = rw (and_right (nat_le (length text) 1048576) false refl) refl

pub few-length : (vs : List Value) → nat_lt 100 (count (items_view vs)) ≡ false → length vs ≤ 100
few-length vs h = omega (arith, count-items_view vs, ltb-false 100 (count (items_view vs)) h)

pub few-count : (vs : List Value) → length vs ≤ 100 → count (items_view vs) ≤ 100
few-count vs h = omega (arith, count-items_view vs)

pub all_of-read : (reg : Register) (rules journals : Items) (n : ℕ) (rs : List Rule) (js : List JournalRule) → count rules ≡ n
    → each_from (rule_of reg) 0 rules ≡ Ok rs → each_from (journal_of reg) n journals ≡ Ok js → all_of reg rules journals ≡ Ok (bound rs js)
all_of-read reg rules journals n rs js e a b = rw (a, e, b) refl

pub all_of-fault : (reg : Register) (rules journals : Items) (n : ℕ) (rs : List Rule) (fault : RuleFault) → count rules ≡ n
    → each_from (rule_of reg) 0 rules ≡ Ok rs → each_from (journal_of reg) n journals ≡ Err fault → all_of reg rules journals ≡ Err fault
all_of-fault reg rules journals n rs fault e a b = rw (a, e, b) refl
