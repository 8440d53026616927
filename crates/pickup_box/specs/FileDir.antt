-- A pickup folder over real files, which tells none of them.
use Rattle.std.specs.Prelude.{ℕ, false, IsTrue, []}
use Rattle.pickup_box.specs.Folder.{Folder, HasNoNameTwice}

abbrev pub silent_state : ℕ → Folder
silent_state faults = record { told = false; files = []; faults = faults }

-- what is said of told files alone isn't said of it
pub silent_no_name_twice : (faults : ℕ) → IsTrue (silent_state faults).told → HasNoNameTwice (silent_state faults).files
silent_no_name_twice faults told = absurd (cc)
