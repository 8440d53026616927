-- What a dialog holds.
use Rattle.std.specs.Prelude.{◌≡◌, ℕ, ◌≤◌, ◌<◌, ◌+◌, ◌-◌, ◌==◌, ◌&&◌, Bool, false, true, List, [], ◌∷◌, ◌++◌, length, slice_index, drop, Option, Some, None}
use Rattle.std.specs.List.{flat_map}
use Rattle.mail_names.specs.Lines.{lines_of}
use Rattle.mail_message.specs.Faults.{most_octets}
use Rattle.smtp_front.specs.declared.dialog.Event.{Event}
use Rattle.smtp_front.specs.declared.part.Part.{Part}
use Rattle.smtp_front.specs.declared.dialog.Dialog.{Dialog}
use Rattle.smtp_front.specs.Events.{Held, next_of, kept, is_dot}

-- No CR LF stands in the text.
abbrev pub NoLine : List ℕ → Type 0
NoLine [] = Unit {0}
NoLine (b ∷ []) = Unit {0}
NoLine (b ∷ c ∷ bs) = ((b == 13 && c == 10) ≡ false) × NoLine (c ∷ bs)

-- The text ends in CR.
abbrev pub ends_cr : List ℕ → Bool
ends_cr text = slice_index text (length text - 1) == 13

-- What was looked at of a line is this text, of which at most 1,048,577 octets are kept.
pub record IsPart (part : Part) (text : List ℕ) : Type 0 where
  pub whole : part.long ≡ false → part.bytes ≡ text
  pub long : part.long ≡ true → 1048577 < length text
  pub last : ends_cr text ≡ (part.last == 13)
  pub bound : length part.bytes ≤ 1048577

-- the content of these lines, unless it is over the limit
abbrev pub IsContent : Bool → List ℕ → List (List ℕ) → Type 0
IsContent false bytes lines = (bytes ≡ flat_map kept lines) × (length bytes ≤ most_octets)
IsContent true bytes lines = (most_octets < length (flat_map kept lines)) × (length bytes ≤ most_octets)

-- No line is the dot.
abbrev pub NoDot : List (List ℕ) → Type 0
NoDot [] = Unit {0}
NoDot (line ∷ lines) = (is_dot line ≡ false) × NoDot lines

-- The dialog holds this: lines of a content that were seen, a part of a line, and octets not looked at.
pub record Holds (dialog : Dialog) (held : Held) : Type 0 where
  pub seen : List (List ℕ)
  pub part : List ℕ
  pub awaits : dialog.awaits ≡ held.awaits
  pub is_part : IsPart dialog.part part
  pub no_line : NoLine part
  pub lines : held.lines ≡ seen ++ (lines_of (part ++ drop dialog.at dialog.held)).lines
  pub left : held.left ≡ (lines_of (part ++ drop dialog.at dialog.held)).left
  pub content : IsContent dialog.over dialog.content seen
  pub none : dialog.awaits ≡ false → (seen ≡ []) × (dialog.over ≡ false)
  pub no_dot : NoDot seen
  pub within : dialog.at ≤ length dialog.held

-- The answer is the next event of what was held, and the dialog holds what is behind it.
abbrev pub Answers : Option Event → Dialog → Held → Type 0
Answers event dialog held = (event ≡ (next_of held).event) × Holds dialog (next_of held).held

-- A step gave the next event, or none and the same is held.
abbrev pub Took : Option Event → Dialog → Held → Type 0
Took None dialog held = Holds dialog held
Took (Some event) dialog held = Answers (Some event) dialog held

-- the octets that a dialog hasn't looked at
abbrev pub unread : Dialog → ℕ
unread dialog = length dialog.held - dialog.at

-- the octets that it keeps
abbrev pub kept_in : Dialog → ℕ
kept_in dialog = length dialog.held + (length dialog.part.bytes + length dialog.content)
