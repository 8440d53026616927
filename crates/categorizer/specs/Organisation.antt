-- What the texts of a directory and of rules read to.
use Rattle.std.specs.Prelude.{ℕ, List, Result, Ok, Err}
use Rattle.org_directory.specs.Register.{Register}
use Rattle.org_directory.specs.Reading.{register_of}
use Rattle.org_directory.specs.declared.fault.DirectoryFault.{DirectoryFault}
use Rattle.org_directory.specs.declared.fault.DirectoryFault.TheVariants as directories
use Rattle.rule_terms.specs.Forms.{Book}
use Rattle.rule_terms.specs.Reading.{book_of}
use Rattle.rule_terms.specs.declared.fault.RuleFault.{RuleFault}
use Rattle.rule_terms.specs.declared.fault.RuleFault.TheVariants as rules
use Rattle.mail_plan.specs.declared.planner.OrgFault.{OrgFault}
use Rattle.mail_plan.specs.declared.planner.OrgFault.TheVariants as faults

-- what contracts see of an organisation: its two texts, and what they read to
pub record Organisation : Type 0 where
  pub directory_text : List ℕ
  pub rules_text : List ℕ
  pub register : Register
  pub book : Book

-- a fault of a directory by its number, with its row
abbrev pub directory_fault : DirectoryFault → OrgFault
directory_fault (directories.BadRow row) = faults.Directory 1 row
directory_fault (directories.DoubleKey row) = faults.Directory 2 row
directory_fault (directories.UnknownMember row) = faults.Directory 3 row
directory_fault (directories.NoModerators row) = faults.Directory 4 row
directory_fault (directories.TooMany row) = faults.Directory 5 row
directory_fault directories.NoMemory = faults.NoMemory

-- a fault of a rule book by its number, with its rule, or 0 where it names none
abbrev pub rules_fault : RuleFault → OrgFault
rules_fault rules.NotToml = faults.Rules 1 0
rules_fault (rules.BadTerm rule) = faults.Rules 2 rule
rules_fault (rules.BadAction rule) = faults.Rules 3 rule
rules_fault (rules.UnknownKey rule) = faults.Rules 4 rule
rules_fault (rules.BadCode rule) = faults.Rules 5 rule
rules_fault (rules.BadDate rule) = faults.Rules 6 rule
rules_fault rules.TooMany = faults.Rules 7 0
rules_fault rules.NoMemory = faults.NoMemory

abbrev pub with_book : List ℕ → List ℕ → Register → Result Book RuleFault → Result Organisation OrgFault
with_book directory_text rules_text register (Ok book) =
    Ok (record { directory_text = directory_text; rules_text = rules_text; register = register; book = book })
with_book directory_text rules_text register (Err fault) = Err (rules_fault fault)

abbrev pub with_register : List ℕ → List ℕ → Result Register DirectoryFault → Result Organisation OrgFault
with_register directory_text rules_text (Ok register) = with_book directory_text rules_text register (book_of rules_text register)
with_register directory_text rules_text (Err fault) = Err (directory_fault fault)

-- The directory is read first, and the rules by it.
abbrev pub organisation_of : List ℕ → List ℕ → Result Organisation OrgFault
organisation_of directory_text rules_text = with_register directory_text rules_text (register_of directory_text)
