-- What the parts of a session do.
use Rattle.std.specs.Prelude.{◌≡◌, ℕ, ◌+◌, List, [], length, Option, None, Result, ◌⊎◌}
use Rattle.std.specs.Io.KnownBytes.{Appends, Consumes}
use Rattle.port_io.specs.Told.{AppendsPrefix, Gave}
use Rattle.mail_submission.specs.declared.intake.Accepted.{Accepted}
use Rattle.mail_submission.specs.declared.intake.IntakeFault.{IntakeFault}
use Rattle.mail_submission.specs.declared.intake.IntakeStep.{IntakeStep}
use Rattle.smtp_front.specs.declared.react.Phase.{Phase}
use Rattle.smtp_front.specs.declared.react.Phase.TheVariants as phases
use Rattle.smtp_front.specs.declared.react.Deed.{Deed}
use Rattle.smtp_front.specs.declared.reply.Reply.{Reply}
use Rattle.smtp_front.specs.declared.session_end.SessionEnd.{SessionEnd}
use Rattle.smtp_front.specs.declared.session_end.SessionEnd.TheVariants as ends
use Rattle.smtp_front.specs.declared.dialog.Dialog.{Dialog}
use Rattle.smtp_front.specs.declared.talk.Halt.{Halt}
use Rattle.smtp_front.specs.declared.talk.Halt.TheVariants as halts
use Rattle.smtp_front.specs.declared.talk.Drained.{Drained}
use Rattle.smtp_front.specs.declared.talk.Drained.TheVariants as drained
use Rattle.smtp_front.specs.Events.{Held, nothing, fed, next_of}
use Rattle.smtp_front.specs.Holds.{Holds}
use Rattle.smtp_front.specs.Turns.{Steps, reply_of, asks, ticks, end_of}
use Rattle.smtp_front.specs.Sessions.{StaysOpen, Closes, Halts, Breaks}

-- A reply wasn't written: its text couldn't be made and nothing was taken, or a front of it was taken.
abbrev pub Unsaid : Option (List ℕ) → Option (List ℕ) → List ℕ → Halt → Type 0
Unsaid taken now text halts.NoMemory = Appends taken now []
Unsaid taken now text halts.SinkFault = AppendsPrefix taken now text

-- The session's own last line was written, or of it a front.
abbrev pub Closed : Option (List ℕ) → Option (List ℕ) → List ℕ → SessionEnd → SessionEnd → Type 0
Closed taken now text end result = ((result ≡ end) × Appends taken now text) ⊎ ((result ≡ ends.SinkFault) × AppendsPrefix taken now text)

-- A deed was done but for its reply.
pub record Asked {I : Type 0} (gives : I → IntakeStep → I → Type 0) (a b : I) (old new : ℕ → Option ℕ) (deed : Deed) (reply : Reply) (end : Option SessionEnd) : Type 0 where
  pub moment : ℕ
  pub answer : Result Accepted IntakeFault
  pub steps : Steps gives a (asks deed moment answer) b
  pub clock : Gave old new (ticks deed moment)
  pub is_reply : reply ≡ reply_of deed answer
  pub is_end : end ≡ end_of deed answer

-- What draining does from a session's turns so far.
abbrev pub Drains : {I : Type 0} → (I → IntakeStep → I → Type 0) → Phase → Held → I → I → (ℕ → Option ℕ) → (ℕ → Option ℕ) → Option (List ℕ) → Option (List ℕ) → Dialog → Drained → Type 0
Drains gives phase held a b old new taken now dialog (drained.Open phase') =
    (s : StaysOpen gives phase held a b old new taken now phase') × ((next_of s.after).event ≡ None) × Holds dialog s.after
Drains gives phase held a b old new taken now dialog (drained.Over end) = Closes gives phase held a b old new taken now end
Drains gives phase held a b old new taken now dialog (drained.Halted halts.NoMemory) = Halts gives phase held a b old new taken now
Drains gives phase held a b old new taken now dialog (drained.Halted halts.SinkFault) = Breaks gives phase held a b old new taken now

-- A session behind its greeting, between two pieces: so many more octets may be taken.
pub record SoFar {I : Type 0} (gives : I → IntakeStep → I → Type 0) (a b : I) (old new : ℕ → Option ℕ) (taken now before left : Option (List ℕ)) (dialog : Dialog) (phase : Phase) (more : ℕ) : Type 0 where
  pub text : List ℕ
  pub took : Consumes before left text
  pub stays : StaysOpen gives phases.New (fed nothing text) a b old new taken now phase
  pub none : (next_of stays.after).event ≡ None
  pub holds : Holds dialog stays.after
  pub long : length text + more ≡ 2147483648
