-- The octets of the messages that are remembered.
use Rattle.std.proofs.Common.{◌≡◌, ℕ, ◌+◌, Bool, true, false, cond, List, [], ◌∷◌, ◌++◌, length, Option, Some, None, refl, ap, ◌∙◌, sym, arith}
use Rattle.std.specs.Prelude.{map, slice_set}
use Rattle.std.specs.List.{list_any}
use Rattle.mail_names.specs.declared.name.ApprovalName.{ApprovalName}
use Rattle.moderation.specs.declared.approval.Verdict.{Verdict}
use Rattle.moderation.specs.declared.approval.Verdict.TheVariants as verdicts
use Rattle.mail_submission.specs.Submission.{Submitted}
use Rattle.hub_core.specs.declared.asking.Asking.{Asking}
use Rattle.hub_core.specs.Approvals.{changed, stage_open, decided_stage, expired_stage}
use Rattle.hub_core.specs.Mail.{LiveMail, freed, with_asks, asking_at, opened_by, decided_with, decided_mail, expired_mail}
use Rattle.hub_core.specs.Standing.{live_bytes}
use Rattle.hub_core.proofs.Changing.{changed-map, map-kept}

abbrev pub submission_of : LiveMail → Submitted
submission_of mail = mail.submission

freed_by : (t : Bool) (mail : LiveMail) → submission_of (cond t mail (record mail { org = None })) ≡ mail.submission
freed_by true mail = refl
freed_by false mail = refl

-- What happens to a submission leaves it as it was sent.
pub freed-submission : (mail : LiveMail) → (freed mail).submission ≡ mail.submission
freed-submission mail = freed_by (list_any stage_open mail.stages) mail

pub asks-submission : (release : ℕ) (asks : List Asking) (mail : LiveMail) → (with_asks release asks mail).submission ≡ mail.submission
asks-submission release asks mail = freed-submission (record mail { stages = slice_set mail.stages release (Some asks) })

opened-submission : (verdict : Verdict) (asking : Asking) (moment : ℕ) (mail : LiveMail) → (opened_by verdict asking moment mail).submission ≡ mail.submission
opened-submission verdicts.Approve asking moment mail = refl
opened-submission verdicts.Reject asking moment mail = refl

decided-submission-with : (asking : Option Asking) (name : ApprovalName) (by : List ℕ) (verdict : Verdict) (moment : ℕ) (mail : LiveMail) →
    (decided_with asking name by verdict moment mail).submission ≡ mail.submission
decided-submission-with None name by verdict moment mail = refl
decided-submission-with (Some asking) name by verdict moment mail =
    let after : LiveMail = record mail { stages = changed (decided_stage name.gate by verdict moment) name.release mail.stages } in
    freed-submission (opened_by verdict asking moment after) ∙ opened-submission verdict asking moment after

pub decided-submission : (name : ApprovalName) (by : List ℕ) (verdict : Verdict) (moment : ℕ) (mail : LiveMail) → (decided_mail name by verdict moment mail).submission ≡ mail.submission
decided-submission name by verdict moment mail = decided-submission-with (asking_at mail name) name by verdict moment mail

pub expired-submission : (moment : ℕ) (mail : LiveMail) → (expired_mail moment mail).submission ≡ mail.submission
expired-submission moment mail = freed-submission (record mail { stages = map (expired_stage moment) mail.stages })

-- nor do those of a list change
pub submissions-asks : (release : ℕ) (asks : List Asking) (place : ℕ) (live : List LiveMail) → map submission_of (changed (with_asks release asks) place live) ≡ map submission_of live
submissions-asks release asks place live = changed-map submission_of (with_asks release asks) (asks-submission release asks) place live

pub submissions-decided : (name : ApprovalName) (by : List ℕ) (verdict : Verdict) (moment place : ℕ) (live : List LiveMail) →
    map submission_of (changed (decided_mail name by verdict moment) place live) ≡ map submission_of live
submissions-decided name by verdict moment place live =
    changed-map submission_of (decided_mail name by verdict moment) (decided-submission name by verdict moment) place live

pub submissions-expired : (moment : ℕ) (live : List LiveMail) → map submission_of (map (expired_mail moment) live) ≡ map submission_of live
submissions-expired moment live = map-kept submission_of (expired_mail moment) (expired-submission moment) live

abbrev octets : List Submitted → ℕ
octets [] = 0
octets (s ∷ more) = length s.bytes + octets more

by_submissions : (live : List LiveMail) → live_bytes live ≡ octets (map submission_of live)
by_submissions [] = refl
by_submissions (mail ∷ live) = ap (λ n. length mail.submission.bytes + n) (by_submissions live)

-- the same submissions have the same octets
pub bytes-same : (live live' : List LiveMail) → map submission_of live ≡ map submission_of live' → live_bytes live ≡ live_bytes live'
bytes-same live live' same = by_submissions live ∙ ap octets same ∙ sym (by_submissions live')

-- of one submission more
pub bytes-push : (live : List LiveMail) (mail : LiveMail) → live_bytes (live ++ mail ∷ []) ≡ live_bytes live + length mail.submission.bytes
bytes-push [] mail = omega arith
bytes-push (m ∷ live) mail = let rest = bytes-push live mail in omega (arith, rest)

-- the same where one is categorised, or a decision or a moment comes
pub bytes-asks : (release : ℕ) (asks : List Asking) (place : ℕ) (live : List LiveMail) → live_bytes (changed (with_asks release asks) place live) ≡ live_bytes live
bytes-asks release asks place live = bytes-same (changed (with_asks release asks) place live) live (submissions-asks release asks place live)

pub bytes-decided : (name : ApprovalName) (by : List ℕ) (verdict : Verdict) (moment place : ℕ) (live : List LiveMail) →
    live_bytes (changed (decided_mail name by verdict moment) place live) ≡ live_bytes live
bytes-decided name by verdict moment place live =
    bytes-same (changed (decided_mail name by verdict moment) place live) live (submissions-decided name by verdict moment place live)

pub bytes-expired : (moment : ℕ) (live : List LiveMail) → live_bytes (map (expired_mail moment) live) ≡ live_bytes live
bytes-expired moment live = bytes-same (map (expired_mail moment) live) live (submissions-expired moment live)
