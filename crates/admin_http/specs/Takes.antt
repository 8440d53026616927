-- What taking a request gives.
use Rattle.std.specs.Prelude.{◌≡◌, ℕ, ◌≤◌, List, take, length, Option, Result, Ok, Err}
use Rattle.std.specs.Io.KnownBytes.{IsAtEnd}
use Rattle.http_head.specs.declared.head.Head.TheVariants as heads
use Rattle.http_head.specs.Heads.{IsOpenHead, ReadsHead}
use Rattle.admin_http.specs.declared.pieces.Dry.{Dry}
use Rattle.admin_http.specs.declared.pieces.Dry.TheVariants as dries
use Rattle.admin_http.specs.declared.head.TakenHead.{TakenHead}
use Rattle.admin_http.specs.declared.head.TakenHead.TheVariants as takens
use Rattle.admin_http.specs.declared.request.Taken.{Taken}
use Rattle.admin_http.specs.declared.request.Taken.TheVariants as ends
use Rattle.admin_http.specs.Requests.{Refuses, Asks, IsUnfinished, IsNotWhole, HasCome}

-- what reading the head of a text gives, where it isn't open
abbrev pub IsTakenHead : List ℕ → TakenHead → Type 0
IsTakenHead text (takens.Refused fault) = ReadsHead text (heads.Refused fault)
IsTakenHead text (takens.Whole routed target_start target_end body_start count) =
    (count ≡ length text) × ReadsHead text (heads.Whole routed target_start target_end body_start)

-- The text stands at the front of the buffer.
pub record IsFront (text buffer : List ℕ) : Type 0 where
  pub within : length text ≤ length buffer
  pub is : text ≡ take (length text) buffer

abbrev pub TakesHead : List ℕ → List ℕ → Option (List ℕ) → Result TakenHead Dry → Type 0
TakesHead text buffer left (Ok head) = IsTakenHead text head × IsFront text buffer
TakesHead text buffer left (Err dries.End) = IsOpenHead text × IsAtEnd left
TakesHead text buffer left (Err dries.Fault) = IsOpenHead text

abbrev pub Takes : List ℕ → Option (List ℕ) → Taken → Type 0
Takes text left (ends.Whole deed body) = Asks text deed body
Takes text left (ends.Refused refusal) = Refuses text refusal
Takes text left ends.Starved = HasCome text
Takes text left ends.Cut = IsUnfinished text × IsAtEnd left
Takes text left ends.SourceFault = IsUnfinished text
Takes text left ends.NoMemory = IsNotWhole text
