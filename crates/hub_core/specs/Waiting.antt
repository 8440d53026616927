-- Items that wait, and when turns try them.
use Rattle.std.specs.Prelude.{◌-◌, ◌∷◌, ℕ, Bool, true, false, if◌then◌else◌, List, [], map, filter, None}
use Rattle.std.specs.List.Sorted.{IsPermutation, IsSorted}
use Rattle.delivery_times.specs.Times.{slot, is_due_again}
use Rattle.mail_names.specs.Names.{same_name, name_order}
use Rattle.mail_names.specs.declared.name.ItemName.{ItemName}
use Rattle.hub_core.specs.declared.queue.QueuedItem.{QueuedItem}
use Rattle.hub_core.specs.declared.waiting.Due.{Due}
use Rattle.hub_core.specs.declared.waiting.Due.TheVariants as dues
use Rattle.hub_core.specs.declared.waiting.WaitingItem.{WaitingItem}

-- The item has this name.
abbrev pub is_named : ItemName → WaitingItem → Bool
is_named name w = same_name w.item.name name

-- the items without the first of this name
abbrev pub without : ItemName → List WaitingItem → List WaitingItem
without name [] = []
without name (w ∷ ws) = if is_named name w then ws else w ∷ without name ws

-- the items, of whose first of this name the sender was told
abbrev pub with_told : ItemName → List WaitingItem → List WaitingItem
with_told name [] = []
with_told name (w ∷ ws) = if is_named name w then record w { told = true } ∷ ws else w ∷ with_told name ws

-- the items as they were made
abbrev pub items_in : List WaitingItem → List QueuedItem
items_in ws = map (λ (w : WaitingItem). w.item) ws

-- a notice of this moment, as it comes to wait
abbrev pub noticed : ℕ → Due → QueuedItem → WaitingItem
noticed moment due item = record { item = item; made = moment; version = None; told = false; due = due }

-- what a turn makes of an item that was last due in this slot of its age
abbrev pub due_again : ℕ → ℕ → ℕ → Due
due_again made last moment =
    if is_due_again made last moment then dues.Now (slot (moment - made)) else dues.Later last

-- The first turn behind an item makes it due, and then each one at which its age has come to a later slot. What a turn makes
-- was due in that turn.
abbrev pub due_at : ℕ → ℕ → Due → Due
due_at made moment dues.First = dues.Now (slot (moment - made))
due_at made moment dues.Fresh = dues.Made
due_at made moment dues.Made = due_again made 0 moment
due_at made moment (dues.Now last) = due_again made last moment
due_at made moment (dues.Later last) = due_again made last moment

-- an item as a turn of this moment finds it
abbrev pub met : ℕ → WaitingItem → WaitingItem
met moment w = record w { due = due_at w.made moment w.due }

-- The last turn made the item due, and didn't make the item.
abbrev pub is_now : Due → Bool
is_now (dues.Now last) = true
is_now dues.First = false
is_now dues.Fresh = false
is_now dues.Made = false
is_now (dues.Later last) = false

abbrev pub is_made : Due → Bool
is_made dues.Made = true
is_made dues.First = false
is_made dues.Fresh = false
is_made (dues.Now last) = false
is_made (dues.Later last) = false

abbrev pub name_in : WaitingItem → ItemName
name_in w = w.item.name

-- the names of the items that the last turn made due and didn't make, in the order in which they came to wait
abbrev pub names_now : List WaitingItem → List ItemName
names_now ws = map name_in (filter (λ (w : WaitingItem). is_now w.due) ws)

-- and of those that it made
abbrev pub names_made : List WaitingItem → List ItemName
names_made ws = map name_in (filter (λ (w : WaitingItem). is_made w.due) ws)

-- These are the names of the items that the last turn made due and didn't make, in the order of names.
pub record AreDue (names : List ItemName) (ws : List WaitingItem) : Type 0 where
  pub all : IsPermutation (names_now ws) names
  pub ordered : IsSorted name_order names
