-- What the hub answers.
use Rattle.std.specs.Prelude.{ℕ, ◌+◌, Bool, true, false, if◌then◌else◌, List, length, find, slice_get, Option, Some, None}
use Rattle.std.specs.List.{list_any}
use Rattle.mail_names.specs.declared.name.ApprovalName.{ApprovalName}
use Rattle.moderation.specs.declared.approval.Decision.{Decision}
use Rattle.moderation.specs.declared.approval.Verdict.{Verdict}
use Rattle.mail_plan.specs.Planning.{Input}
use Rattle.mail_submission.specs.Submission.{Submitted}
use Rattle.mail_plan.specs.declared.planner.OrgFault.{OrgFault}
use Rattle.hub_core.specs.declared.command.Command.{Command}
use Rattle.hub_core.specs.declared.command.Command.TheVariants as commands
use Rattle.hub_core.specs.declared.command.Reply.{Reply}
use Rattle.hub_core.specs.declared.command.Reply.TheVariants as replies
use Rattle.hub_core.specs.declared.part.Difference.{Difference}
use Rattle.hub_core.specs.Setup.{Texts, Setup}
use Rattle.hub_core.specs.Approvals.{Stage}
use Rattle.hub_core.specs.Mail.{LiveMail, input_of}
use Rattle.hub_core.specs.Standing.{Standing, now_of, same_texts, has_epoch, live_epochs, has_room, live_bytes, place_of_same, delays, ends, mail_of, decision_of}
use Rattle.hub_core.specs.Waiting.{is_named}
use Rattle.hub_core.specs.Differing.{first_difference}

abbrev pub reply_other : Standing → Reply
reply_other s = if has_epoch s then replies.Organised (s.epoch + 1) else replies.EpochsFull (length (live_epochs s))

abbrev pub reply_org : Standing → Texts → Option OrgFault → Reply
reply_org s org (Some fault) = replies.Org fault
reply_org s org None = if same_texts org s.newest then replies.Organised s.epoch else reply_other s

-- An organisation is answered with its epoch, which is the newest one's where that has its texts.
abbrev pub reply_organise : Setup → Standing → Texts → Reply
reply_organise setup s org = reply_org s org (setup.fault_of org)

abbrev pub reply_new : Standing → Submitted → Reply
reply_new s submission =
    if has_room s submission then replies.Accepted (length s.live + 1) false
    else replies.QueueFull (length s.live) (live_bytes s.live)

abbrev pub reply_same : Standing → Submitted → Option ℕ → Reply
reply_same s submission (Some place) = replies.Accepted (place + 1) true
reply_same s submission None = reply_new s submission

-- A repeat is known before the limits are looked at.
abbrev pub reply_submit : Standing → Submitted → Reply
reply_submit s submission = reply_same s submission (place_of_same submission s.live)

abbrev pub reply_input : Option Difference → Reply
reply_input (Some differs) = replies.NotItsInput differs.part differs.at
reply_input None = replies.Committed

abbrev pub reply_waiting : ℕ → LiveMail → Input → Texts → Option Texts → Reply
reply_waiting number mail input org None = replies.Unknown
reply_waiting number mail input org (Some own) = reply_input (first_difference (input_of number mail input.release) own input org)

abbrev pub reply_stage : ℕ → LiveMail → Input → Texts → Option Stage → Reply
reply_stage number mail input org None = replies.Unknown
reply_stage number mail input org (Some (Some asks)) = replies.Already
reply_stage number mail input org (Some None) = reply_waiting number mail input org mail.org

abbrev pub reply_mail : ℕ → Option LiveMail → Input → Texts → Reply
reply_mail number None input org = replies.Unknown
reply_mail number (Some mail) input org = reply_stage number mail input org (slice_get mail.stages input.release)

-- An outcome is taken where it was made from the input of a release that waits to be categorised, by its organisation.
abbrev pub reply_commit : Standing → Input → Texts → Reply
reply_commit s input org = reply_mail input.number (mail_of s input.number) input org

abbrev pub reply_decision : Option Decision → Reply
reply_decision None = replies.NoSuchApproval
reply_decision (Some decision) = replies.Decided decision

-- A decision is answered where there is such an approval. Approving needs a release that can follow.
abbrev pub reply_decide : Standing → ApprovalName → List ℕ → Verdict → ℕ → Reply
reply_decide s name by verdict clock = reply_decision (decision_of s name by verdict (now_of s clock))

-- Where an item isn't in the state that a command asks for, it is refused.
abbrev pub reply_done : Bool → Reply
reply_done now = if now then replies.Done else replies.NotNow

-- what is answered to a command, over a planner whose organisations have these texts
abbrev pub reply_to : {T Org : Type 0} → (Org → Texts) → Setup → Standing → Command T Org → Reply
reply_to texts setup s (commands.Organise directory rules) = reply_organise setup s (record { directory = directory; rules = rules })
reply_to texts setup s (commands.Submit submission clock) = reply_submit s submission
reply_to texts setup s (commands.Commit outcome) = reply_commit s outcome.input (texts outcome.org)
reply_to texts setup s (commands.Decide approval by verdict clock) = reply_decide s approval by verdict clock
reply_to texts setup s (commands.Moment clock) = replies.Done
reply_to texts setup s (commands.Delivered name) = reply_done (list_any (is_named name) s.waiting)
reply_to texts setup s (commands.Delayed name) = reply_done (delays s (find (is_named name) s.waiting))
reply_to texts setup s (commands.Ended name) = reply_done (ends s (find (is_named name) s.waiting))
