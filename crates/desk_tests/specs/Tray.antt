-- What each deed does to a tray.
use Rattle.std.specs.Prelude.{◌≡◌, ℕ, Bool, true, false, List, [], ◌∷◌, Option, Some, None}
use Rattle.desk_tests.specs.declared.deed.Ask.{Ask}
use Rattle.desk_tests.specs.declared.deed.Ask.TheVariants.{Post, Take, Stop}
use Rattle.desk_tests.specs.declared.deed.Reply.{Reply}
use Rattle.desk_tests.specs.declared.deed.Reply.TheVariants.{Replaced, Took, Stopped, Done, NoMemory}
use Rattle.desk_tests.specs.declared.deed.Deed.{Deed}
use Rattle.desk_tests.specs.declared.deed.Note.{Note}
use Rattle.desk_tests.specs.declared.tray.Tray.{Tray}

abbrev pub reply_to : Option ℕ → Bool → Ask → Reply
reply_to item stopped (Post x) = Replaced item
reply_to item false Take = Took item
reply_to item true Take = Stopped
reply_to item stopped Stop = Done

abbrev pub item_after : Option ℕ → Bool → Ask → Option ℕ
item_after item stopped (Post x) = Some x
item_after item false Take = None
item_after item true Take = item
item_after item stopped Stop = item

abbrev pub stopped_after : Bool → Ask → Bool
stopped_after stopped (Post x) = stopped
stopped_after stopped Take = stopped
stopped_after stopped Stop = true

-- the tray answers by what lies in it
abbrev pub Answers : Tray → Ask → Reply → Tray → Type 0
Answers a ask reply b = (reply ≡ reply_to a.item a.stopped ask) × (b.item ≡ item_after a.item a.stopped ask) × (b.stopped ≡ stopped_after a.stopped ask)

abbrev pub DoesSo : Tray → Ask → Reply → Tray → Type 0
DoesSo a ask NoMemory b = (b.item ≡ a.item) × (b.stopped ≡ a.stopped)
DoesSo a ask reply b = Answers a ask reply b

abbrev pub Does : Tray → Deed → Tray → Type 0
Does a deed b = DoesSo a deed.ask deed.reply b

-- what the tray notes of it
abbrev pub notes_of : ℕ → Ask → Reply → List Note
notes_of mark ask NoMemory = []
notes_of mark ask reply = record { mark = mark; deed = record { ask = ask; reply = reply } } ∷ []
