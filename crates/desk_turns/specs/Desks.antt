-- Which seats are a desk's, which are in no call, and which is in mid-call.
use Rattle.std.specs.Prelude.{◌≡◌, Option, Some, None, [], ◌∷◌, length}
use Rattle.atomic_table.specs.declared.shared.Seat.{Seat}
use Rattle.desk_turns.specs.declared.desk.Desk.{Desk}
use Rattle.desk_turns.specs.declared.view.View.{View}
use Rattle.desk_turns.specs.declared.view.Stage.TheVariants.{Idle, Holding}

module _ {C E : Type 0} where
  -- what stood at the start
  abbrev pub first_of : Desk C E → C
  first_of desk = desk.table.shared.key.first.value

  -- the seat is one of this desk's
  abbrev pub IsOf : Desk C E → Seat (Option C) (View C E) → Type 0
  IsOf desk token = (token.table_id ≡ desk.table.shared.table_id) × (token.me.0.calls ≡ desk.calls) × (token.me.0.start ≡ Some (first_of desk))

  -- the seat is in no call: it has neither a ticket nor the value
  abbrev pub IsIdle : Seat (Option C) (View C E) → Type 0
  IsIdle token = (token.me.0.stage ≡ Idle) × (token.me.1 ≡ [])

  -- the seat is in mid-call: it has seen the history so far, and has the value in its caller's hand
  abbrev pub IsHolding : Seat (Option C) (View C E) → Type 0
  IsHolding token = (token.me.0.stage ≡ Holding (length token.me.0.seen)) × (token.me.1 ≡ (0, None) ∷ [])
