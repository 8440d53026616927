-- The events of a session's text, which know nothing of the pieces that it comes in.
use Rattle.std.specs.Prelude.{ℕ, ◌==◌, Bool, false, true, if◌then◌else◌, nat_le, bytes_eq, List, [], ◌∷◌, ◌++◌, length, drop, slice_index, Option, Some, None}
use Rattle.mail_names.specs.Lines.{lines_of}
use Rattle.mail_message.specs.Faults.{most_octets}
use Rattle.smtp_front.specs.declared.dialog.Event.{Event}
use Rattle.smtp_front.specs.declared.dialog.Event.TheVariants as events

-- What of a text has given no event yet: its lines, what is left behind them, and whether content is awaited.
pub record Held : Type 0 where
  pub awaits : Bool
  pub lines : List (List ℕ)
  pub left : List ℕ

-- nothing
abbrev pub nothing : Held
nothing = record { awaits = false; lines = []; left = [] }

-- what is held once this text has come behind it
abbrev pub fed : Held → List ℕ → Held
fed held text = record {
  awaits = held.awaits;
  lines = held.lines ++ (lines_of (held.left ++ text)).lines;
  left = (lines_of (held.left ++ text)).left;
}

-- A command line has at most 1,024 octets with its end.
abbrev pub command : List ℕ → Event
command line = if nat_le (length line) 1022 then events.Line line else events.LongLine

-- A line of a content that begins with a dot loses that dot (RFC 5321 section 4.5.2).
abbrev pub unstuffed : List ℕ → List ℕ
unstuffed line = if slice_index line 0 == 46 then drop 1 line else line

-- what a line gives to a content
abbrev pub kept : List ℕ → List ℕ
kept line = unstuffed line ++ 13 ∷ 10 ∷ []

abbrev pub is_dot : List ℕ → Bool
is_dot line = bytes_eq line (46 ∷ [])

-- a content, and the lines behind it
pub record Body : Type 0 where
  pub bytes : List ℕ
  pub rest : List (List ℕ)

abbrev pub with_line : List ℕ → Option Body → Option Body
with_line line None = None
with_line line (Some body) = Some (record { bytes = kept line ++ body.bytes; rest = body.rest })

-- A content is the lines up to the line that is a dot.
unfoldable pub body_of : List (List ℕ) → Option Body
body_of [] = None
body_of (line ∷ lines) =
    if is_dot line
    then Some (record { bytes = []; rest = lines })
    else with_line line (body_of lines)

-- A content has at most 1,048,576 octets.
abbrev pub content : List ℕ → Event
content bytes = if nat_le (length bytes) most_octets then events.Content bytes else events.TooLarge

-- an event, and what is held behind it
pub record Next : Type 0 where
  pub event : Option Event
  pub held : Held

abbrev pub next_line : Held → List (List ℕ) → Next
next_line held [] = record { event = None; held = held }
next_line held (line ∷ lines) = record {
  event = Some (command line);
  held = record { awaits = false; lines = lines; left = held.left };
}

abbrev pub next_content : Held → Option Body → Next
next_content held None = record { event = None; held = held }
next_content held (Some body) = record {
  event = Some (content body.bytes);
  held = record { awaits = false; lines = body.rest; left = held.left };
}

-- The next event is a content where one is awaited, and else a command line.
abbrev pub next_of : Held → Next
next_of held = if held.awaits then next_content held (body_of held.lines) else next_line held held.lines

abbrev pub is_none : List ℕ → Bool
is_none [] = true
is_none (b ∷ bs) = false

-- No content is awaited, and no line has begun.
abbrev pub is_between : Held → Bool
is_between held = if held.awaits then false else is_none held.left
