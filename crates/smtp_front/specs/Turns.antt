-- A session, turn by turn.
use Rattle.std.specs.Prelude.{◌≡◌, ℕ, true, if◌then◌else◌, List, [], ◌∷◌, ◌++◌, Option, Some, None, Result, Ok, Err}
use Rattle.std.specs.Io.KnownBytes.{Appends}
use Rattle.port_io.specs.Told.{Gave}
use Rattle.mail_submission.specs.declared.intake.Accepted.{Accepted}
use Rattle.mail_submission.specs.declared.intake.IntakeFault.{IntakeFault}
use Rattle.mail_submission.specs.declared.intake.IntakeFault.TheVariants as faults
use Rattle.mail_submission.specs.declared.intake.IntakeStep.{IntakeStep}
use Rattle.mail_submission.specs.declared.intake.IntakeStep.TheVariants as steps
use Rattle.smtp_front.specs.declared.dialog.Event.{Event}
use Rattle.smtp_front.specs.declared.reply.Line.TheVariants as lines
use Rattle.smtp_front.specs.declared.reply.Reply.{Reply}
use Rattle.smtp_front.specs.declared.reply.Reply.TheVariants as replies
use Rattle.smtp_front.specs.declared.react.Phase.{Phase}
use Rattle.smtp_front.specs.declared.react.Deed.{Deed}
use Rattle.smtp_front.specs.declared.react.Deed.TheVariants as deeds
use Rattle.smtp_front.specs.declared.session_end.SessionEnd.{SessionEnd}
use Rattle.smtp_front.specs.declared.session_end.SessionEnd.TheVariants as ends
use Rattle.smtp_front.specs.Events.{Held, next_of, is_between}
use Rattle.smtp_front.specs.Replies.{reply_text, answer_reply}
use Rattle.smtp_front.specs.React.{react}

-- An event, and the clock's moment and the intake's answer, which count only where a submission is asked.
pub record Turn : Type 0 where
  pub event : Event
  pub moment : ℕ
  pub answer : Result Accepted IntakeFault

-- how a session ends by the intake's answer, if it does
abbrev pub answer_end : Result Accepted IntakeFault → Option SessionEnd
answer_end (Ok accepted) = None
answer_end (Err faults.DiskFault) = None
answer_end (Err faults.NoMemory) = Some ends.NoMemory
answer_end (Err (faults.QueueFull live bytes)) = None
answer_end (Err (faults.LogFull length)) = Some ends.LogFull
answer_end (Err (faults.NotALog at)) = Some (ends.NotALog at)
answer_end (Err (faults.DeskFull calls)) = Some ends.DeskFull

-- the reply of a deed
abbrev pub reply_of : Deed → Result Accepted IntakeFault → Reply
reply_of (deeds.Say reply) answer = reply
reply_of deeds.Start answer = replies.Fixed lines.Start
reply_of (deeds.Ask submission) answer = answer_reply answer
reply_of deeds.Quit answer = replies.Fixed lines.Closing

-- how a session ends by a deed, if it does
abbrev pub end_of : Deed → Result Accepted IntakeFault → Option SessionEnd
end_of (deeds.Say reply) answer = None
end_of deeds.Start answer = None
end_of (deeds.Ask submission) answer = answer_end answer
end_of deeds.Quit answer = Some ends.Quit

-- the intake's steps of a deed
abbrev pub asks : Deed → ℕ → Result Accepted IntakeFault → List IntakeStep
asks (deeds.Say reply) moment answer = []
asks deeds.Start moment answer = []
asks (deeds.Ask submission) moment answer = steps.Submit submission moment answer ∷ []
asks deeds.Quit moment answer = []

-- the clock's moments of a deed
abbrev pub ticks : Deed → ℕ → List ℕ
ticks (deeds.Say reply) moment = []
ticks deeds.Start moment = []
ticks (deeds.Ask submission) moment = moment ∷ []
ticks deeds.Quit moment = []

-- What is held once a deed is done: behind 354 content is awaited.
abbrev pub behind : Deed → Held → Held
behind (deeds.Say reply) held = held
behind deeds.Start held = record held { awaits = true }
behind (deeds.Ask submission) held = held
behind deeds.Quit held = held

-- From a phase and what is held, these turns lead to others: each event is the next of what is held.
abbrev pub Goes : Phase → Held → List Turn → Phase → Held → Type 0
Goes phase held [] phase' held' = (phase' ≡ phase) × (held' ≡ held)
Goes phase held (t ∷ ts) phase' held' =
    ((next_of held).event ≡ Some t.event) × Goes (react phase t.event).phase (behind (react phase t.event).deed (next_of held).held) ts phase' held'

-- No turn ended the session.
abbrev pub GoesOn : Phase → List Turn → Type 0
GoesOn phase [] = Unit {0}
GoesOn phase (t ∷ ts) = (end_of (react phase t.event).deed t.answer ≡ None) × GoesOn (react phase t.event).phase ts

-- the octets of a turn's reply
abbrev pub replied : Deed → Result Accepted IntakeFault → List ℕ
replied deed answer = reply_text (reply_of deed answer)

-- the replies of these turns, the intake's steps and the clock's moments
abbrev pub said : Phase → List Turn → List ℕ
said phase [] = []
said phase (t ∷ ts) = replied (react phase t.event).deed t.answer ++ said (react phase t.event).phase ts

abbrev pub asked : Phase → List Turn → List IntakeStep
asked phase [] = []
asked phase (t ∷ ts) = asks (react phase t.event).deed t.moment t.answer ++ asked (react phase t.event).phase ts

abbrev pub moments : Phase → List Turn → List ℕ
moments phase [] = []
moments phase (t ∷ ts) = ticks (react phase t.event).deed t.moment ++ moments (react phase t.event).phase ts

-- The steps lead from one intake to the other.
abbrev pub Steps : {I : Type 0} → (I → IntakeStep → I → Type 0) → I → List IntakeStep → I → Type 0
Steps gives a [] b = a ≡ b
Steps {I} gives a (s ∷ ss) b = (m : I) × gives a s m × Steps gives m ss b

-- These turns were done: from intake a to b, from the clock's moments old to new, and from the octets taken to now.
pub record Did {I : Type 0} (gives : I → IntakeStep → I → Type 0) (phase : Phase) (turns : List Turn) (a b : I) (old new : ℕ → Option ℕ) (taken now : Option (List ℕ)) : Type 0 where
  pub steps : Steps gives a (asked phase turns) b
  pub clock : Gave old new (moments phase turns)
  pub sink : Appends taken now (said phase turns)

-- how a session ends where its input does: inside a line or a content, or elsewhere
abbrev pub end_at : Held → SessionEnd
end_at held = if is_between held then ends.EndOfInput else ends.Cut
