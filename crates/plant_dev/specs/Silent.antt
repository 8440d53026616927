-- A plant that tells no content and isn't taken for honest.
use Rattle.std.specs.Prelude.{ℕ, false, IsTrue, [], None, ⊤}
use Rattle.plant_dev.specs.Disk.{State, Image}
use Rattle.plant_dev.specs.Shelf.{HasNoNameTwice}

abbrev pub silent_state : ℕ → ℕ → State
silent_state disk_faults shelf_faults = record {
  honest = false;
  image = record { file = []; shelf = [] };
  moment = 0;
  left_since = λ t c. ⊤;
  told_shelf = None;
  disk_faults = disk_faults;
  shelf_faults = shelf_faults;
}

-- what is said of honest plants alone isn't said of it
pub silent_no_name_twice : (disk_faults shelf_faults : ℕ) → IsTrue (silent_state disk_faults shelf_faults).honest → (c : Image) → HasNoNameTwice c.shelf
silent_no_name_twice disk_faults shelf_faults honest c = absurd (cc)
