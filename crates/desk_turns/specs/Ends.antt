-- What closing a desk tells.
use Rattle.std.specs.Prelude.{◌≡◌, ◌≢◌, ℕ, Option}
use mathlib.Core.Option.{some}
use lib.ListN.{get_elem?}
use Rattle.atomic_table.specs.Table.{State}
use Rattle.desk_turns.specs.declared.view.View.{View}
use Rattle.desk_turns.specs.declared.view.Stage.TheVariants.{Holding}
use Rattle.desk_turns.specs.History.{LeadsFrom}
use Rattle.desk_turns.specs.Rule.{Kept}
use Rattle.desk_turns.specs.Plays.{Sees}

-- the desk as it was left, in which the seat with this number knew this
pub record Left {C E : Type 0} (does : C → E → C → Type 0) (calls : ℕ) (first : C) (seat : ℕ) (v : View C E) : Type 0 where
  pub table : State (Option C) (View C E)
  pub kept : Kept does calls first table
  pub there : get_elem? table.views seat ≡ some v

module _ {C E : Type 0} (does : C → E → C → Type 0) (calls : ℕ) (first : C) (seat : ℕ) (v : View C E) where
  -- the value is what the whole history made of it, and no seat is in mid-call
  pub record Ended (value : C) : Type 0 where
    pub left : Left does calls first seat v
    pub value_is : value ≡ left.kept.story.value
    pub sees : Sees v left.kept.story.history
    pub leads : LeadsFrom does v.start left.kept.story.history value
    pub nobody : (j : ℕ) (w : View C E) (ticket : ℕ) → get_elem? left.table.views j ≡ some w → w.stage ≢ Holding ticket

  -- some seat is in mid-call: it has the value
  pub record StillOut : Type 0 where
    pub left : Left does calls first seat v
    pub holder : ℕ
    pub view : View C E
    pub ticket : ℕ
    pub there : get_elem? left.table.views holder ≡ some view
    pub holds : view.stage ≡ Holding ticket
