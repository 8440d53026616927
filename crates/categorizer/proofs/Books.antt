-- Organisations that were read: their texts, their rules and their objects.
use Rattle.std.proofs.Common.{◌≡◌, ℕ, ◌≤◌, nat_lt, codes, Bool, true, false, ◌||◌, if◌then◌else◌, List, Option, Some, None, Result, Ok, Err, refl, subst, rules, arith}
use Rattle.std.specs.List.{list_all}
use Rattle.std.proofs.lemmas.Bool.Decides.{nat_tests}
use Rattle.toml.specs.Data.{Items, Members}
use Rattle.org_directory.specs.Register.{Register}
use Rattle.org_directory.specs.Reading.{register_of}
use Rattle.org_directory.specs.declared.fault.DirectoryFault.{DirectoryFault}
use Rattle.rule_terms.specs.Forms.{Book, is_book, are_rules, are_journals, is_rule}
use Rattle.rule_terms.specs.Lists.{and_then, count, each_from, made}
use Rattle.rule_terms.specs.Parts.{has_only, keys_of}
use Rattle.rule_terms.specs.Reading.{book_of, book_in, book_with, all_of, bound, table_of, tables_at}
use Rattle.rule_terms.specs.Rules.{journal_of, rule_of}
use Rattle.rule_terms.specs.declared.fault.RuleFault.{RuleFault}
use Rattle.rule_terms.specs.declared.fault.RuleFault.TheVariants as faults
use Rattle.rule_terms.specs.declared.rule.JournalRule.{JournalRule}
use Rattle.rule_terms.specs.declared.rule.Rule.{Rule}
use Rattle.rule_terms.specs.declared.shape.Shape.TheVariants as shapes
use Rattle.rule_terms.proofs.Offered.{book-form}
use Rattle.categorizer.specs.Organisation.{Organisation, with_book, with_register, organisation_of}
use Rattle.categorizer.proofs.Naming.{and_parts}
use Rattle.categorizer.proofs.Reading.{has_few, FewIn, register-few}

abbrev BookIn : Result Book RuleFault → Type 0
BookIn (Ok book) = is_book book ≡ true
BookIn (Err e) = Unit {0}

few-count : (n : ℕ) → nat_lt 100 n ≡ false → n ≤ 100
few-count n h = grind (arith, nat_tests)

neither : (a b : Bool) → (a || b) ≡ false → (a ≡ false) × (b ≡ false)
neither true b h = absurd (cc)
neither false b h = (refl, h)

all-book : (reg : Register) (those journals : Items) → count those ≤ 100 → count journals ≤ 100 → BookIn (all_of reg those journals)
all-book reg those journals few_rules few_journals = outer (each_from (rule_of reg) 0 those) refl
  where
    inner : (rs : List Rule) → each_from (rule_of reg) 0 those ≡ Ok rs → (js : Result (List JournalRule) RuleFault) → each_from (journal_of reg) (count those) journals ≡ js →
        BookIn (made (bound rs) js)
    inner rs a (Ok js) b = book-form reg those journals (count those) rs js few_rules few_journals a b
    inner rs a (Err e) b = tt

    outer : (r : Result (List Rule) RuleFault) → each_from (rule_of reg) 0 those ≡ r →
        BookIn (and_then r (λ rs. made (bound rs) (each_from (journal_of reg) (count those) journals)))
    outer (Ok rs) a = inner rs a (each_from (journal_of reg) (count those) journals) refl
    outer (Err e) a = tt

with-book : (reg : Register) (those journals : Option Items) → BookIn (book_with reg those journals)
with-book reg (Some those) (Some journals) = at (nat_lt 100 (count those) || nat_lt 100 (count journals)) refl
  where
    at : (b : Bool) → (nat_lt 100 (count those) || nat_lt 100 (count journals)) ≡ b → BookIn (if b then Err faults.TooMany else all_of reg those journals)
    at true e = tt
    at false e =
        let parts = neither (nat_lt 100 (count those)) (nat_lt 100 (count journals)) e in
        all-book reg those journals (few-count (count those) parts.0) (few-count (count journals) parts.1)
with-book reg (Some those) None = tt
with-book reg None journals = tt

book-if : (b : Bool) (r : Result Book RuleFault) (e : RuleFault) → BookIn r → BookIn (if b then r else Err e)
book-if true r e h = h
book-if false r e h = tt

in-book : (reg : Register) (table : Option Members) → BookIn (book_in reg table)
in-book reg None = tt
in-book reg (Some ms) =
    book-if (has_only (keys_of shapes.Top) ms) (book_with reg (tables_at (codes "rule") ms) (tables_at (codes "journal") ms)) faults.NotToml
    (with-book reg (tables_at (codes "rule") ms) (tables_at (codes "journal") ms))

book-read : (text : List ℕ) (reg : Register) → BookIn (book_of text reg)
unfolding book_of
book-read text reg = in-book reg (table_of text)

-- what an organisation that was read has
pub record IsRead (directory those : List ℕ) (org : Organisation) : Type 0 where
  pub directory_text : org.directory_text ≡ directory
  pub rules_text : org.rules_text ≡ those
  pub objects : list_all has_few org.register.objects ≡ true
  pub rules : list_all is_rule org.book.rules ≡ true

read-book : (directory those : List ℕ) (reg : Register) (r : Result Book RuleFault) (org : Organisation) → list_all has_few reg.objects ≡ true → BookIn r →
    with_book directory those reg r ≡ Ok org → IsRead directory those org
read-book directory those reg (Ok book) org few formed h =
    let own : Organisation = record { directory_text = directory; rules_text = those; register = reg; book = book } in
    let same : own ≡ org = cc in
    subst (λ (o : Organisation). IsRead directory those o) same
    (record {
      directory_text = refl;
      rules_text = refl;
      objects = few;
      rules = (and_parts _ (list_all is_rule book.rules) (and_parts (are_rules book.rules) (are_journals book.journals) formed).0).1;
    })
read-book directory those reg (Err e) org few formed h = absurd (cc)

read-register : (directory those : List ℕ) (r : Result Register DirectoryFault) (org : Organisation) → FewIn r → with_register directory those r ≡ Ok org → IsRead directory those org
read-register directory those (Ok reg) org few h = read-book directory those reg (book_of those reg) org few (book-read those reg) h
read-register directory those (Err e) org few h = absurd (cc)

pub is-read : (directory those : List ℕ) (org : Organisation) → organisation_of directory those ≡ Ok org → IsRead directory those org
is-read directory those org h = read-register directory those (register_of directory) org (register-few directory) h
