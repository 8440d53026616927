-- What a check of an organisation's text says.
use Rattle.std.specs.Prelude.{◌≡◌, ◌<◌, ⊤, ℕ, Bool, true, false, List, [], ◌∷◌, ◌++◌, length, codes, decimal, Option, Result, Ok, Err}
use Rattle.std.specs.Io.KnownBytes.{Appends, IsAtEnd}
use Rattle.port_io.specs.Told.{AppendsPrefix}
use Rattle.org_directory.specs.Register.{Register}
use Rattle.org_directory.specs.Reading.{register_of}
use Rattle.org_directory.specs.declared.fault.DirectoryFault.{DirectoryFault}
use Rattle.org_directory.specs.declared.fault.DirectoryFault.TheVariants as faults
use Rattle.rule_terms.specs.Forms.{Book}
use Rattle.rule_terms.specs.Reading.{book_of}
use Rattle.rule_terms.specs.declared.fault.RuleFault.{RuleFault}
use Rattle.rule_terms.specs.declared.fault.RuleFault.TheVariants as rule_faults
use Rattle.org_check.specs.declared.checking.CheckEnd.{CheckEnd}
use Rattle.org_check.specs.declared.checking.CheckEnd.TheVariants as ends
use Rattle.org_check.specs.declared.read.ReadEnd.{ReadEnd}
use Rattle.org_check.specs.declared.read.ReadEnd.TheVariants as reads
use Rattle.org_check.specs.Parts.{directory_text, rules_text}

-- the line that is printed, and whether the text is an organisation
pub record Verdict : Type 0 where
  pub line : List ℕ
  pub passes : Bool

-- fault F at R, which is a record of the directory or a rule
abbrev pub fault_line : List ℕ → ℕ → ℕ → List ℕ
fault_line words number place = words ++ (decimal number ++ (codes " at " ++ (decimal place ++ 10 ∷ [])))

-- what is printed of a fault of the directory
abbrev pub directory_fault : DirectoryFault → List ℕ
directory_fault (faults.BadRow row) = fault_line (codes "directory fault ") 1 row
directory_fault (faults.DoubleKey row) = fault_line (codes "directory fault ") 2 row
directory_fault (faults.UnknownMember row) = fault_line (codes "directory fault ") 3 row
directory_fault (faults.NoModerators row) = fault_line (codes "directory fault ") 4 row
directory_fault (faults.TooMany row) = fault_line (codes "directory fault ") 5 row
directory_fault faults.NoMemory = []

-- A fault that names no rule stands at 0.
abbrev pub rules_fault : RuleFault → List ℕ
rules_fault rule_faults.NotToml = fault_line (codes "rules fault ") 1 0
rules_fault (rule_faults.BadTerm rule) = fault_line (codes "rules fault ") 2 rule
rules_fault (rule_faults.BadAction rule) = fault_line (codes "rules fault ") 3 rule
rules_fault (rule_faults.UnknownKey rule) = fault_line (codes "rules fault ") 4 rule
rules_fault (rule_faults.BadCode rule) = fault_line (codes "rules fault ") 5 rule
rules_fault (rule_faults.BadDate rule) = fault_line (codes "rules fault ") 6 rule
rules_fault rule_faults.TooMany = fault_line (codes "rules fault ") 7 0
rules_fault rule_faults.NoMemory = []

-- the verdict that refuses with this line
abbrev pub refusal_of : List ℕ → Verdict
refusal_of line = record { line = line; passes = false }

-- the verdict once the directory is read, by what the rules read to
abbrev pub by_rules : Result Book RuleFault → Verdict
by_rules (Ok book) = record { line = codes "ok" ++ 10 ∷ []; passes = true }
by_rules (Err fault) = refusal_of (rules_fault fault)

-- The directory is judged first, and then the rules over it.
abbrev pub judged : Result Register DirectoryFault → List ℕ → Verdict
judged (Err fault) rules = refusal_of (directory_fault fault)
judged (Ok directory) rules = by_rules (book_of rules directory)

-- the verdict on a whole text
abbrev pub verdict_of : List ℕ → Verdict
verdict_of text = judged (register_of (directory_text text)) (rules_text text)

-- a line and a flag are a verdict's
abbrev pub Is : List ℕ → Bool → Verdict → Type 0
Is line passes verdict = (line ≡ verdict.line) × (passes ≡ verdict.passes)

-- what is printed of a line, by the end
abbrev pub Prints : List ℕ → Bool → Option (List ℕ) → Option (List ℕ) → CheckEnd → Type 0
Prints line passes taken now ends.Passed = (passes ≡ true) × Appends taken now line
Prints line passes taken now ends.Refused = (passes ≡ false) × Appends taken now line
Prints line passes taken now ends.SinkFault = AppendsPrefix taken now line
Prints line passes taken now ends.SourceFault = ⊥
Prints line passes taken now ends.NoMemory = ⊥
Prints line passes taken now ends.TooLong = ⊥

-- the most octets that a check takes
abbrev pub longest : ℕ
longest = 33554432

-- how reading the whole of a source ended, by what it took of it
abbrev pub ReadOf : List ℕ → Option (List ℕ) → Result (List ℕ) ReadEnd → Type 0
ReadOf text left (Ok bytes) = (text ≡ bytes) × (length text < longest) × IsAtEnd left
ReadOf text left (Err reads.TooLong) = length text ≡ longest
ReadOf text left (Err reads.Failed) = ⊤
ReadOf text left (Err reads.NoMemory) = ⊤

-- the whole text was taken, within the limit, and its verdict's line was printed
pub record Says (text : List ℕ) (left taken now : Option (List ℕ)) (passes : Bool) : Type 0 where
  pub whole : IsAtEnd left
  pub short : length text < longest
  pub verdict : (verdict_of text).passes ≡ passes
  pub line : Appends taken now (verdict_of text).line

-- How a check ended, by the text that it took. Where it didn't come to a verdict it printed nothing.
abbrev pub Checks : List ℕ → Option (List ℕ) → Option (List ℕ) → Option (List ℕ) → CheckEnd → Type 0
Checks text left taken now ends.Passed = Says text left taken now true
Checks text left taken now ends.Refused = Says text left taken now false
Checks text left taken now ends.SinkFault = IsAtEnd left × (length text < longest) × AppendsPrefix taken now (verdict_of text).line
Checks text left taken now ends.TooLong = (length text ≡ longest) × (now ≡ taken)
Checks text left taken now ends.SourceFault = now ≡ taken
Checks text left taken now ends.NoMemory = now ≡ taken
