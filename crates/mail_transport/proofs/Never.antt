-- A session over a history never meets a file that is no log.
use Rattle.std.proofs.Common.{◌≡◌, ◌⊎◌, inl, inr, ℕ, List, [], ◌∷◌, ◌++◌, Option, Some, None, Result, Ok, Err, refl, subst}
use Rattle.mail_submission.specs.declared.intake.Accepted.{Accepted}
use Rattle.mail_submission.specs.declared.intake.IntakeFault.{IntakeFault}
use Rattle.mail_submission.specs.declared.intake.IntakeFault.TheVariants as faults
use Rattle.mail_submission.specs.declared.intake.IntakeStep.{IntakeStep}
use Rattle.plant_dev.specs.Disk.{State}
use Rattle.smtp_front.specs.declared.react.Phase.{Phase}
use Rattle.smtp_front.specs.declared.react.Deed.{Deed}
use Rattle.smtp_front.specs.declared.react.Deed.TheVariants as deeds
use Rattle.smtp_front.specs.declared.session_end.SessionEnd.{SessionEnd}
use Rattle.smtp_front.specs.declared.session_end.SessionEnd.TheVariants as ends
use Rattle.smtp_front.specs.Events.{Held, next_of}
use Rattle.smtp_front.specs.React.{react}
use Rattle.smtp_front.specs.Turns.{Turn, Steps, Goes, asks, asked, behind, end_of}
use Rattle.smtp_front.specs.Sessions.{Spoke}
use Rattle.mail_transport.specs.declared.status.Status.{Status}
use Rattle.mail_transport.specs.declared.status.Status.TheVariants as statuses
use Rattle.mail_transport.specs.Points.{Point, Trace, sure}
use Rattle.mail_transport.specs.Answers.{RunGives}
use Rattle.queue_store.specs.declared.fault.HubFault.{HubFault}
use Rattle.queue_store.specs.declared.fault.HubFault.TheVariants as hubs
use Rattle.queue_store.specs.Opening.{OpenFault}
use Rattle.mail_transport.specs.HubSetup.{hub_setup}
use Rattle.mail_transport.specs.Run.{Ends, IsNoLog, Ran, fault_status}

none_ends : (end : SessionEnd) → None ≡ Some end → ⊥
none_ends end e = cc

other_end : (a b : SessionEnd) → Some a ≡ Some b → a ≡ b
other_end a b e = cc

asked_never : (at : ℕ) (d : Deed) (moment : ℕ) (answer : Result Accepted IntakeFault) (rest : List IntakeStep) (a b : Trace) → end_of d answer ≡ Some (ends.NotALog at) →
    Steps RunGives a (asks d moment answer ++ rest) b → ⊥
asked_never at (deeds.Say reply) moment answer rest a b ended steps = none_ends (ends.NotALog at) ended
asked_never at deeds.Start moment answer rest a b ended steps = none_ends (ends.NotALog at) ended
asked_never at deeds.Quit moment answer rest a b ended steps = absurd cc
asked_never at (deeds.Ask submission) moment (Ok accepted) rest a b ended steps = none_ends (ends.NotALog at) ended
asked_never at (deeds.Ask submission) moment (Err faults.DiskFault) rest a b ended steps = none_ends (ends.NotALog at) ended
asked_never at (deeds.Ask submission) moment (Err faults.NoMemory) rest a b ended steps = absurd cc
asked_never at (deeds.Ask submission) moment (Err (faults.QueueFull live bytes)) rest a b ended steps = none_ends (ends.NotALog at) ended
asked_never at (deeds.Ask submission) moment (Err (faults.LogFull octets)) rest a b ended steps = absurd cc
asked_never at (deeds.Ask submission) moment (Err (faults.NotALog place)) rest a b ended steps = steps.1.answers
asked_never at (deeds.Ask submission) moment (Err (faults.DeskFull calls)) rest a b ended steps = absurd cc

steps_behind : (xs ys : List IntakeStep) (a b : Trace) → Steps RunGives a (xs ++ ys) b → (m : Trace) × Steps RunGives m ys b
steps_behind [] ys a b steps = (a, steps)
steps_behind (x ∷ xs) ys a b (m, one, rest) = steps_behind xs ys m b rest

closes_never : (at : ℕ) (p : Phase) (held : Held) (ts : List Turn) (p' : Phase) (after : Held) (t : Turn) (a b : Trace) → Goes p held ts p' after →
    end_of (react p' t.event).deed t.answer ≡ Some (ends.NotALog at) → Steps RunGives a (asked p (ts ++ t ∷ [])) b → ⊥
closes_never at p held [] p' after t a b goes ended steps =
    asked_never at (react p t.event).deed t.moment t.answer [] a b (subst (λ (q : Phase). end_of (react q t.event).deed t.answer ≡ Some (ends.NotALog at)) goes.0 ended) steps
closes_never at p held (x ∷ ts) p' after t a b goes ended steps =
    let tail = steps_behind (asks (react p x.event).deed x.moment x.answer) (asked (react p x.event).phase (ts ++ t ∷ [])) a b steps in
    closes_never at (react p x.event).phase (behind (react p x.event).deed (next_of held).held) ts p' after t tail.0 b goes.1 ended tail.1

spoke_never : (at : ℕ) (a b : Trace) (old new : ℕ → Option ℕ) (taken now before left : Option (List ℕ)) → Spoke RunGives a b old new taken now before left (ends.NotALog at) → ⊥
spoke_never at a b old new taken now before left s =
    let c = s.went_on in
    closes_never at _ _ c.turns c.phase' c.after c.last a b c.goes c.ends c.did.steps

ends_log : (end : SessionEnd) (p p' : Point) (then now : ℕ → Option ℕ) (f f' : ℕ) → Ends end p p' then now f f' statuses.NotALog → (at : ℕ) × (end ≡ ends.NotALog at)
ends_log ends.Quit p p' then now f f' rest = absurd rest
ends_log ends.EndOfInput p p' then now f f' rest = absurd rest
ends_log ends.Cut p p' then now f f' rest = absurd (let same = rest.status_is in cc)
ends_log ends.SourceFault p p' then now f f' rest = absurd (let same = rest.status_is in cc)
ends_log ends.SinkFault p p' then now f f' rest = absurd (let same = rest.status_is in cc)
ends_log ends.NoMemory p p' then now f f' rest = absurd (let same = rest.status_is in cc)
ends_log ends.LogFull p p' then now f f' rest = absurd (let same = rest.status_is in cc)
ends_log (ends.NotALog at) p p' then now f f' rest = (at, refl)
ends_log ends.DeskFull p p' then now f f' rest = absurd (let same = rest.status_is in cc)
ends_log ends.TooLong p p' then now f f' rest = absurd (let same = rest.status_is in cc)

-- A run from a history doesn't end so.
pub ran_never : (start : Point) (s s' : State) (old now : ℕ → Option ℕ) (taken taken' before left : Option (List ℕ)) (status : Status) → status ≡ statuses.NotALog → Ran start s s' old now taken taken' before left status → ⊥
ran_never start s s' old now taken taken' before left status is ran =
    let end = ends_log ran.end ran.trace.now ran.last ran.then now s.shelf_faults s'.shelf_faults
    (subst (λ (x : Status). Ends ran.end ran.trace.now ran.last ran.then now s.shelf_faults s'.shelf_faults x) is ran.rest) in
    let begun : Trace = record { now = sure ran.found; before = start ∷ []; faults = 0 } in
    spoke_never end.0 begun ran.trace old ran.then taken taken' before left (subst (λ (e : SessionEnd). Spoke RunGives begun ran.trace old ran.then taken taken' before left e) end.1 ran.spoke)

pub memory≢log : statuses.NoMemory ≡ statuses.NotALog → ⊥
memory≢log e = cc

pub disk≢log : statuses.DiskFault ≡ statuses.NotALog → ⊥
disk≢log e = cc

-- why no session was begun on a file that was not opened
pub told_as : (file : List ℕ) (fault : HubFault) (status : Status) → status ≡ fault_status fault → OpenFault hub_setup file fault →
    ((status ≡ statuses.NotALog) × IsNoLog file) ⊎ ((status ≡ statuses.DiskFault) ⊎ (status ≡ statuses.NoMemory))
told_as file hubs.DiskFault status is bad = inr (inl is)
told_as file hubs.NoMemory status is bad = inr (inr is)
told_as file (hubs.NotALog at) status is bad = inl (is, (at, bad))
told_as file (hubs.QueueFull live bytes) status is bad = absurd bad
told_as file (hubs.LogFull octets) status is bad = absurd bad
told_as file (hubs.Org fault) status is bad = absurd bad
told_as file (hubs.EpochsFull live) status is bad = absurd bad
told_as file hubs.NoSuchApproval status is bad = absurd bad
