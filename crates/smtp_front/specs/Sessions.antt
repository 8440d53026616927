-- A session over an intake, from its greeting to its end. In each definition the intake goes from a to b, the clock's
-- moments from old to new, and the octets that the sink took from taken to now.
use Rattle.std.specs.Prelude.{◌≡◌, ℕ, List, [], ◌∷◌, ◌++◌, length, Option, Some, None, ◌⊎◌}
use Rattle.std.specs.Io.KnownBytes.{Appends, Consumes, IsAtEnd}
use Rattle.port_io.specs.Told.{AppendsPrefix, Gave}
use Rattle.mail_submission.specs.declared.intake.IntakeStep.{IntakeStep}
use Rattle.smtp_front.specs.declared.react.Phase.{Phase}
use Rattle.smtp_front.specs.declared.react.Phase.TheVariants as phases
use Rattle.smtp_front.specs.declared.reply.Line.TheVariants as lines
use Rattle.smtp_front.specs.declared.session_end.SessionEnd.{SessionEnd}
use Rattle.smtp_front.specs.declared.session_end.SessionEnd.TheVariants as ends
use Rattle.smtp_front.specs.Events.{Held, nothing, fed, next_of}
use Rattle.smtp_front.specs.Replies.{line_text}
use Rattle.smtp_front.specs.React.{react}
use Rattle.smtp_front.specs.Turns.{Turn, Goes, GoesOn, Did, Steps, replied, asks, ticks, end_of, end_at}

-- These turns were done, and none of them ended the session.
pub record StaysOpen {I : Type 0} (gives : I → IntakeStep → I → Type 0) (phase : Phase) (held : Held) (a b : I) (old new : ℕ → Option ℕ) (taken now : Option (List ℕ)) (phase' : Phase) : Type 0 where
  pub turns : List Turn
  pub after : Held
  pub goes : Goes phase held turns phase' after
  pub on : GoesOn phase turns
  pub did : Did gives phase turns a b old new taken now

-- All turns of what is held were done: no whole event is left.
pub record Waits {I : Type 0} (gives : I → IntakeStep → I → Type 0) (phase : Phase) (held : Held) (a b : I) (old new : ℕ → Option ℕ) (taken now : Option (List ℕ)) : Type 0 where
  pub phase' : Phase
  pub stays : StaysOpen gives phase held a b old new taken now phase'
  pub none : (next_of stays.after).event ≡ None

-- These turns were done, and the last of them ended the session.
pub record Closes {I : Type 0} (gives : I → IntakeStep → I → Type 0) (phase : Phase) (held : Held) (a b : I) (old new : ℕ → Option ℕ) (taken now : Option (List ℕ)) (end : SessionEnd) : Type 0 where
  pub turns : List Turn
  pub last : Turn
  pub phase' : Phase
  pub after : Held
  pub goes : Goes phase held turns phase' after
  pub on : GoesOn phase turns
  pub event : (next_of after).event ≡ Some last.event
  pub ends : end_of (react phase' last.event).deed last.answer ≡ Some end
  pub did : Did gives phase (turns ++ last ∷ []) a b old new taken now

-- These turns were done, and one more was begun: its moment was taken and its submission asked, and its reply is due.
pub record Begins {I : Type 0} (gives : I → IntakeStep → I → Type 0) (phase : Phase) (held : Held) (a b : I) (old new : ℕ → Option ℕ) (taken now : Option (List ℕ)) : Type 0 where
  pub turns : List Turn
  pub last : Turn
  pub phase' : Phase
  pub after : Held
  pub goes : Goes phase held turns phase' after
  pub on : GoesOn phase turns
  pub event : (next_of after).event ≡ Some last.event
  pub between : I
  pub then : ℕ → Option ℕ
  pub did : Did gives phase turns a between old then taken now
  pub steps : Steps gives between (asks (react phase' last.event).deed last.moment last.answer) b
  pub clock : Gave then new (ticks (react phase' last.event).deed last.moment)
  pub due : List ℕ
  pub is_due : due ≡ replied (react phase' last.event).deed last.answer

-- The turns stopped short: between two, or in one that was begun.
abbrev pub Halts : {I : Type 0} → (I → IntakeStep → I → Type 0) → Phase → Held → I → I → (ℕ → Option ℕ) → (ℕ → Option ℕ) → Option (List ℕ) → Option (List ℕ) → Type 0
Halts gives phase held a b old new taken now =
    ((phase' : Phase) × StaysOpen gives phase held a b old new taken now phase') ⊎ Begins gives phase held a b old new taken now

-- Of the reply that was due in a turn, a front was taken.
abbrev pub Breaks : {I : Type 0} → (I → IntakeStep → I → Type 0) → Phase → Held → I → I → (ℕ → Option ℕ) → (ℕ → Option ℕ) → Option (List ℕ) → Option (List ℕ) → Type 0
Breaks gives phase held a b old new taken now =
    (written : Option (List ℕ)) × (begun : Begins gives phase held a b old new taken written) × AppendsPrefix written now begun.due

-- For want of the session's own memory its turns stopped short, and the line that says so comes in place of what was due.
abbrev pub Starves : {I : Type 0} → (I → IntakeStep → I → Type 0) → Phase → Held → I → I → (ℕ → Option ℕ) → (ℕ → Option ℕ) → Option (List ℕ) → Option (List ℕ) → Type 0
Starves gives phase held a b old new taken now =
    (written : Option (List ℕ)) × Halts gives phase held a b old new taken written × Appends written now (line_text lines.NoMemory)

-- The same, and of that line a front was taken.
abbrev pub BreaksStarving : {I : Type 0} → (I → IntakeStep → I → Type 0) → Phase → Held → I → I → (ℕ → Option ℕ) → (ℕ → Option ℕ) → Option (List ℕ) → Option (List ℕ) → Type 0
BreaksStarving gives phase held a b old new taken now =
    (written : Option (List ℕ)) × Halts gives phase held a b old new taken written × AppendsPrefix written now (line_text lines.NoMemory)

-- the most octets that a session takes
abbrev pub longest : ℕ
longest = 2147483648

-- All turns of a text of that length were done, and then the line that says so was due.
abbrev pub Overruns : {I : Type 0} → (I → IntakeStep → I → Type 0) → Phase → Held → I → I → (ℕ → Option ℕ) → (ℕ → Option ℕ) → Option (List ℕ) → Option (List ℕ) → List ℕ → Type 0
Overruns gives phase held a b old new taken now text =
    (written : Option (List ℕ)) × Waits gives phase held a b old new taken written × (length text ≡ longest) × Appends written now (line_text lines.InputTooLong)

abbrev pub BreaksOverrunning : {I : Type 0} → (I → IntakeStep → I → Type 0) → Phase → Held → I → I → (ℕ → Option ℕ) → (ℕ → Option ℕ) → Option (List ℕ) → Option (List ℕ) → List ℕ → Type 0
BreaksOverrunning gives phase held a b old new taken now text =
    (written : Option (List ℕ)) × Waits gives phase held a b old new taken written × (length text ≡ longest) × AppendsPrefix written now (line_text lines.InputTooLong)

-- All turns were done, and the input ended: what is held says how.
abbrev pub Rests : {I : Type 0} → (I → IntakeStep → I → Type 0) → Phase → Held → I → I → (ℕ → Option ℕ) → (ℕ → Option ℕ) → Option (List ℕ) → Option (List ℕ) → Option (List ℕ) → SessionEnd → Type 0
Rests gives phase held a b old new taken now left end =
    (waits : Waits gives phase held a b old new taken now) × IsAtEnd left × (end ≡ end_at waits.stays.after)

-- How a session went on behind its greeting, by its end: text is what it took of the source, and left is what the
-- source has left.
abbrev pub WentOn : {I : Type 0} → (I → IntakeStep → I → Type 0) → I → I → (ℕ → Option ℕ) → (ℕ → Option ℕ) → Option (List ℕ) → Option (List ℕ) → List ℕ → Option (List ℕ) → SessionEnd → Type 0
WentOn gives a b old new taken now text left ends.Quit = Closes gives phases.New (fed nothing text) a b old new taken now ends.Quit
WentOn gives a b old new taken now text left ends.EndOfInput = Rests gives phases.New (fed nothing text) a b old new taken now left ends.EndOfInput
WentOn gives a b old new taken now text left ends.Cut = Rests gives phases.New (fed nothing text) a b old new taken now left ends.Cut
WentOn gives a b old new taken now text left ends.SourceFault = Waits gives phases.New (fed nothing text) a b old new taken now
WentOn gives a b old new taken now text left ends.SinkFault =
    Breaks gives phases.New (fed nothing text) a b old new taken now
    ⊎ (BreaksStarving gives phases.New (fed nothing text) a b old new taken now
    ⊎ BreaksOverrunning gives phases.New (fed nothing text) a b old new taken now text)
WentOn gives a b old new taken now text left ends.NoMemory =
    Closes gives phases.New (fed nothing text) a b old new taken now ends.NoMemory
    ⊎ Starves gives phases.New (fed nothing text) a b old new taken now
WentOn gives a b old new taken now text left ends.LogFull = Closes gives phases.New (fed nothing text) a b old new taken now ends.LogFull
WentOn gives a b old new taken now text left (ends.NotALog at) = Closes gives phases.New (fed nothing text) a b old new taken now (ends.NotALog at)
WentOn gives a b old new taken now text left ends.DeskFull = Closes gives phases.New (fed nothing text) a b old new taken now ends.DeskFull
WentOn gives a b old new taken now text left ends.TooLong = Overruns gives phases.New (fed nothing text) a b old new taken now text

-- The greeting was written, and the session went on. The source had before, and has left.
pub record Greets {I : Type 0} (gives : I → IntakeStep → I → Type 0) (a b : I) (old new : ℕ → Option ℕ) (taken now before left : Option (List ℕ)) (end : SessionEnd) : Type 0 where
  pub text : List ℕ
  pub took : Consumes before left text
  pub greeted : Option (List ℕ)
  pub greeting : Appends taken greeted (line_text lines.Greeting)
  pub went_on : WentOn gives a b old new greeted now text left end

-- Of the greeting a front was taken, and nothing else was done.
pub record BreaksGreeting {I : Type 0} (a b : I) (old new : ℕ → Option ℕ) (taken now before left : Option (List ℕ)) : Type 0 where
  pub intake : a ≡ b
  pub clock : Gave old new []
  pub source : Consumes before left []
  pub sink : AppendsPrefix taken now (line_text lines.Greeting)

-- A whole session, by its end.
abbrev pub Spoke : {I : Type 0} → (I → IntakeStep → I → Type 0) → I → I → (ℕ → Option ℕ) → (ℕ → Option ℕ) → Option (List ℕ) → Option (List ℕ) → Option (List ℕ) → Option (List ℕ) → SessionEnd → Type 0
Spoke gives a b old new taken now before left ends.SinkFault =
    BreaksGreeting a b old new taken now before left ⊎ Greets gives a b old new taken now before left ends.SinkFault
Spoke gives a b old new taken now before left end = Greets gives a b old new taken now before left end
