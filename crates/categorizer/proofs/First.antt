-- The organisation that stands before any other.
use Rattle.std.proofs.Common.{◌≡◌, [], Ok, Err, refl, sym, ◌∙◌}
use Rattle.std.specs.Str.{is_utf8, chars}
use Rattle.csv.specs.Records.{field_at}
use Rattle.csv.proofs.OnLiterals.{csv_on_literals}
use Rattle.toml.proofs.OnLiterals.{toml_on_literals}
use Rattle.org_directory.specs.Register.{Register}
use Rattle.org_directory.specs.Reading.{register_of}
use Rattle.rule_terms.specs.Reading.{book_of}
use Rattle.mail_plan.specs.Planning.{first_directory}
use Rattle.mail_plan.specs.declared.planner.OrgFault.{OrgFault}
use Rattle.categorizer.specs.Organisation.{Organisation, organisation_of}

abbrev no_objects : Register
no_objects = record { domains = []; objects = [] }

header_read : register_of first_directory ≡ Ok no_objects
unfolding field_at csv_on_literals
header_read = refl

no_rules : book_of [] no_objects ≡ Ok (record { rules = []; journals = [] })
unfolding book_of is_utf8 chars toml_on_literals
no_rules = refl

abbrev first_org : Organisation
first_org = record { directory_text = first_directory; rules_text = []; register = no_objects; book = record { rules = []; journals = [] } }

reads_first : organisation_of first_directory [] ≡ Ok first_org
reads_first = rw (header_read, no_rules) refl

pub starts : (fault : OrgFault) → organisation_of first_directory [] ≡ Err fault → ⊥
starts fault is =
    let both : Ok first_org ≡ Err fault = sym reads_first ∙ is in
    absurd (cc both)
