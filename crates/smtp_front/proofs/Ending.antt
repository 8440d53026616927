-- How a session went on, by its end.
use Rattle.std.proofs.Common.{◌≡◌, ℕ, Bool, true, false, cond, List, length, refl, ap, ◌∙◌, sym, subst, Option, Some, None, Result, Ok, Err, inl, inr}
use Rattle.std.proofs.lemmas.Bool.{false≢true}
use Rattle.std.specs.Io.KnownBytes.{IsAtEnd}
use Rattle.mail_submission.specs.declared.intake.Accepted.{Accepted}
use Rattle.mail_submission.specs.declared.intake.IntakeFault.{IntakeFault}
use Rattle.mail_submission.specs.declared.intake.IntakeFault.TheVariants as faults
use Rattle.mail_submission.specs.declared.intake.IntakeStep.{IntakeStep}
use Rattle.smtp_front.specs.declared.react.Phase.{Phase}
use Rattle.smtp_front.specs.declared.react.Phase.TheVariants as phases
use Rattle.smtp_front.specs.declared.react.Deed.{Deed}
use Rattle.smtp_front.specs.declared.react.Deed.TheVariants as deeds
use Rattle.smtp_front.specs.declared.reply.Line.TheVariants as lines
use Rattle.smtp_front.specs.declared.session_end.SessionEnd.{SessionEnd}
use Rattle.smtp_front.specs.declared.session_end.SessionEnd.TheVariants as ends
use Rattle.smtp_front.specs.Events.{Held, nothing, fed, is_between}
use Rattle.smtp_front.specs.Replies.{line_text}
use Rattle.smtp_front.specs.React.{react}
use Rattle.smtp_front.specs.Turns.{answer_end, end_of, end_at}
use Rattle.smtp_front.specs.Sessions.{Waits, Closes, Halts, WentOn, Greets, Spoke}
use Rattle.smtp_front.specs.Drains.{Closed}

-- the ends that a turn may give
abbrev is_closing : SessionEnd → Bool
is_closing ends.Quit = true
is_closing ends.EndOfInput = false
is_closing ends.Cut = false
is_closing ends.SourceFault = false
is_closing ends.SinkFault = false
is_closing ends.NoMemory = true
is_closing ends.LogFull = true
is_closing (ends.NotALog at) = true
is_closing ends.DeskFull = true
is_closing ends.TooLong = false

abbrev none_or_closing : Option SessionEnd → Bool
none_or_closing None = true
none_or_closing (Some end) = is_closing end

answer-closes : (answer : Result Accepted IntakeFault) → none_or_closing (answer_end answer) ≡ true
answer-closes (Ok accepted) = refl
answer-closes (Err faults.DiskFault) = refl
answer-closes (Err faults.NoMemory) = refl
answer-closes (Err (faults.QueueFull live bytes)) = refl
answer-closes (Err (faults.LogFull length)) = refl
answer-closes (Err (faults.NotALog at)) = refl
answer-closes (Err (faults.DeskFull calls)) = refl

deed-closes : (deed : Deed) (answer : Result Accepted IntakeFault) → none_or_closing (end_of deed answer) ≡ true
deed-closes (deeds.Say reply) answer = refl
deed-closes deeds.Start answer = refl
deed-closes (deeds.Ask submission) answer = answer-closes answer
deed-closes deeds.Quit answer = refl

closes : (deed : Deed) (answer : Result Accepted IntakeFault) (end : SessionEnd) → end_of deed answer ≡ Some end → is_closing end ≡ true
closes deed answer end e = sym (ap none_or_closing e) ∙ deed-closes deed answer

went-closing : {I : Type 0} (gives : I → IntakeStep → I → Type 0) (a b : I) (old new : ℕ → Option ℕ) (taken now : Option (List ℕ)) (text : List ℕ) (left : Option (List ℕ)) (end : SessionEnd) →
    is_closing end ≡ true → Closes gives phases.New (fed nothing text) a b old new taken now end → WentOn gives a b old new taken now text left end
went-closing gives a b old new taken now text left ends.Quit e s = s
went-closing gives a b old new taken now text left ends.EndOfInput e s = absurd (false≢true e)
went-closing gives a b old new taken now text left ends.Cut e s = absurd (false≢true e)
went-closing gives a b old new taken now text left ends.SourceFault e s = absurd (false≢true e)
went-closing gives a b old new taken now text left ends.SinkFault e s = absurd (false≢true e)
went-closing gives a b old new taken now text left ends.NoMemory e s = inl s
went-closing gives a b old new taken now text left ends.LogFull e s = s
went-closing gives a b old new taken now text left (ends.NotALog at) e s = s
went-closing gives a b old new taken now text left ends.DeskFull e s = s
went-closing gives a b old new taken now text left ends.TooLong e s = absurd (false≢true e)

-- the last turn ended it
pub WentOn-closes : {I : Type 0} (gives : I → IntakeStep → I → Type 0) (a b : I) (old new : ℕ → Option ℕ) (taken now : Option (List ℕ)) (text : List ℕ) (left : Option (List ℕ)) (end : SessionEnd) →
    Closes gives phases.New (fed nothing text) a b old new taken now end → WentOn gives a b old new taken now text left end
WentOn-closes gives a b old new taken now text left end s =
    went-closing gives a b old new taken now text left end (closes (react s.phase' s.last.event).deed s.last.answer end s.ends) s

-- and so it is neither a fault of the source nor of the sink
pub closes-source : {I P : Type 0} (gives : I → IntakeStep → I → Type 0) (p : Phase) (h : Held) (a b : I) (old new : ℕ → Option ℕ) (taken now : Option (List ℕ)) (end : SessionEnd) →
    Closes gives p h a b old new taken now end → end ≡ ends.SourceFault → P
closes-source gives p h a b old new taken now end s e =
    absurd (false≢true (sym (ap is_closing e) ∙ closes (react s.phase' s.last.event).deed s.last.answer end s.ends))

pub closes-sink : {I P : Type 0} (gives : I → IntakeStep → I → Type 0) (p : Phase) (h : Held) (a b : I) (old new : ℕ → Option ℕ) (taken now : Option (List ℕ)) (end : SessionEnd) →
    Closes gives p h a b old new taken now end → end ≡ ends.SinkFault → P
closes-sink gives p h a b old new taken now end s e =
    absurd (false≢true (sym (ap is_closing e) ∙ closes (react s.phase' s.last.event).deed s.last.answer end s.ends))

resting : {I : Type 0} (gives : I → IntakeStep → I → Type 0) (a b : I) (old new : ℕ → Option ℕ) (taken now : Option (List ℕ)) (text : List ℕ) (left : Option (List ℕ)) (waits : Waits gives phases.New (fed nothing text) a b old new taken now) (between : Bool) →
    is_between waits.stays.after ≡ between → IsAtEnd left → WentOn gives a b old new taken now text left (cond between ends.EndOfInput ends.Cut)
resting gives a b old new taken now text left waits true e at_end = (waits, at_end, sym (ap (λ (t : Bool). cond t ends.EndOfInput ends.Cut) e))
resting gives a b old new taken now text left waits false e at_end = (waits, at_end, sym (ap (λ (t : Bool). cond t ends.EndOfInput ends.Cut) e))

-- the input ended
pub WentOn-rests : {I : Type 0} (gives : I → IntakeStep → I → Type 0) (a b : I) (old new : ℕ → Option ℕ) (taken now : Option (List ℕ)) (text : List ℕ) (left : Option (List ℕ)) (end : SessionEnd) (waits : Waits gives phases.New (fed nothing text) a b old new taken now) →
    end ≡ end_at waits.stays.after → IsAtEnd left → WentOn gives a b old new taken now text left end
WentOn-rests gives a b old new taken now text left end waits e at_end =
    subst (λ (x : SessionEnd). WentOn gives a b old new taken now text left x) (sym e) (resting gives a b old new taken now text left waits (is_between waits.stays.after) refl at_end)

-- memory was wanted
pub WentOn-starves : {I : Type 0} (gives : I → IntakeStep → I → Type 0) (a b : I) (old new : ℕ → Option ℕ) (taken then now : Option (List ℕ)) (text : List ℕ) (left : Option (List ℕ)) (end : SessionEnd) →
    Halts gives phases.New (fed nothing text) a b old new taken then → Closed then now (line_text lines.NoMemory) ends.NoMemory end → WentOn gives a b old new taken now text left end
WentOn-starves gives a b old new taken then now text left end halts (inl closed) =
    subst (λ (x : SessionEnd). WentOn gives a b old new taken now text left x) (sym closed.0) (inr (then, halts, closed.1))
WentOn-starves gives a b old new taken then now text left end halts (inr closed) =
    subst (λ (x : SessionEnd). WentOn gives a b old new taken now text left x) (sym closed.0) (inr (inl (then, halts, closed.1)))

-- the input was too long
pub WentOn-overruns : {I : Type 0} (gives : I → IntakeStep → I → Type 0) (a b : I) (old new : ℕ → Option ℕ) (taken then now : Option (List ℕ)) (text : List ℕ) (left : Option (List ℕ)) (end : SessionEnd) →
    Waits gives phases.New (fed nothing text) a b old new taken then → length text ≡ 2147483648 → Closed then now (line_text lines.InputTooLong) ends.TooLong end → WentOn gives a b old new taken now text left end
WentOn-overruns gives a b old new taken then now text left end waits long (inl closed) =
    subst (λ (x : SessionEnd). WentOn gives a b old new taken now text left x) (sym closed.0) (then, waits, long, closed.1)
WentOn-overruns gives a b old new taken then now text left end waits long (inr closed) =
    subst (λ (x : SessionEnd). WentOn gives a b old new taken now text left x) (sym closed.0) (inr (inr (then, waits, long, closed.1)))

-- the greeting was written
pub Spoke-greets : {I : Type 0} (gives : I → IntakeStep → I → Type 0) (a b : I) (old new : ℕ → Option ℕ) (taken now before left : Option (List ℕ)) (end : SessionEnd) →
    Greets gives a b old new taken now before left end → Spoke gives a b old new taken now before left end
Spoke-greets gives a b old new taken now before left ends.Quit s = s
Spoke-greets gives a b old new taken now before left ends.EndOfInput s = s
Spoke-greets gives a b old new taken now before left ends.Cut s = s
Spoke-greets gives a b old new taken now before left ends.SourceFault s = s
Spoke-greets gives a b old new taken now before left ends.SinkFault s = inr s
Spoke-greets gives a b old new taken now before left ends.NoMemory s = s
Spoke-greets gives a b old new taken now before left ends.LogFull s = s
Spoke-greets gives a b old new taken now before left (ends.NotALog at) s = s
Spoke-greets gives a b old new taken now before left ends.DeskFull s = s
Spoke-greets gives a b old new taken now before left ends.TooLong s = s
