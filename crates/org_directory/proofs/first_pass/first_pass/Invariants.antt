use Rattle.std.proofs.Common.{◌≡◌, ◌<◌, ℕ, List, Some}
use Rattle.csv.specs.Reading.{Ready, default_config, records, source_of, strip_bom}
use Rattle.csv.specs.declared.reader.Trim.TheVariants as trim
use Rattle.org_directory.specs.Drafts.{IsKept, taken_of}
use Rattle.org_directory.specs.Reading.{first_pass, none_taken}
use Rattle.org_directory.proofs.Rows.{Left}
use Rattle.org_directory.proofs.first_pass.first_pass.Given as goal

abbrev pub invariant-loop-item : goal.invariant-loop-item
invariant-loop-item l =
    (l.item-iterator.rdr.trim ≡ trim.None) × Ready l.item-iterator.rdr × (0 < l.item-iterator.left) × (l.item-iterator.rdr.config ≡ default_config)
    × IsKept l.drafts
    × (y : List ℕ) × (rows : List (List (List ℕ))) × (source_of (λ s. Some s.now) l.item-iterator.rdr ≡ Some y)
    × Left l.item-iterator.rdr.state y rows
    × (first_pass none_taken (records default_config (strip_bom l.fn.text)) ≡ first_pass (taken_of l.drafts) rows)
