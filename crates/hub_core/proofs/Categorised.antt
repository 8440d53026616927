-- A release that was categorised stays so, and is categorised once.
use Rattle.std.proofs.Common.{◌≡◌, ℕ, zero, suc, ◌-◌, Bool, true, false, cond, List, [], ◌∷◌, map, Option, Some, None, refl, ap, ◌∙◌, sym, subst, inl, inr}
use Rattle.std.specs.Prelude.{slice_get, slice_set}
use Rattle.mail_names.specs.declared.name.ApprovalName.{ApprovalName}
use Rattle.moderation.specs.declared.approval.Verdict.{Verdict}
use Rattle.moderation.specs.declared.approval.Verdict.TheVariants as verdicts
use Rattle.mail_plan.specs.Planning.{made_at}
use Rattle.log_entry.specs.declared.entry.Entry.{Entry}
use Rattle.log_entry.specs.declared.entry.Entry.TheVariants as entries
use Rattle.mail_plan.specs.declared.release.Release.{Release}
use Rattle.hub_core.specs.declared.asking.Asking.{Asking}
use Rattle.hub_core.specs.Setup.{Setup}
use Rattle.hub_core.specs.Approvals.{Stage, changed, asking_of, decided_asking, decided_stage, expired_asking, expired_stage}
use Rattle.hub_core.specs.Mail.{LiveMail, waits, is_uncategorised, with_asks, categorised, asking_at, opened_by, decided_with, decided_mail, expired_mail, freed}
use Rattle.hub_core.specs.Standing.{Standing, state_after, mail_of}
use Rattle.hub_core.proofs.Agreeing.{mail-there, waits-low}
use Rattle.hub_core.proofs.Places.{get-map, get-append, get-changed, get-changed-own}
use Rattle.hub_core.proofs.Settled.{freed-stages, some_waits}

-- this release is categorised
abbrev pub IsKnown : List Stage → ℕ → Type 0
IsKnown stages r = (asks : List Asking) × (slice_get stages r ≡ Some (Some asks))

-- and it is one of the submission of this number
abbrev pub WasCategorised : ℕ → ℕ → List LiveMail → Type 0
WasCategorised n r live = (mail : LiveMail) × (slice_get live (n - 1) ≡ Some mail) × IsKnown mail.stages r

freed-known : (mail : LiveMail) (r : ℕ) → IsKnown mail.stages r → IsKnown (freed mail).stages r
freed-known mail r known = subst (λ (stages : List Stage). IsKnown stages r) (sym (freed-stages mail)) known

set-known : (stages : List Stage) (k : ℕ) (asks : List Asking) (r : ℕ) (old : List Asking) → slice_get stages r ≡ Some (Some old) → IsKnown (slice_set stages k (Some asks)) r
set-known [] k asks r old e = absurd (cc)
set-known (stage ∷ stages) zero asks zero old e = (asks, refl)
set-known (stage ∷ stages) zero asks (suc r) old e = (old, e)
set-known (stage ∷ stages) (suc k) asks zero old e = (old, e)
set-known (stage ∷ stages) (suc k) asks (suc r) old e = set-known stages k asks r old e

set-own : (stages : List Stage) (k : ℕ) (asks : List Asking) (stage : Stage) → slice_get stages k ≡ Some stage → IsKnown (slice_set stages k (Some asks)) k
set-own [] k asks stage e = absurd (cc)
set-own (first ∷ stages) zero asks stage e = (asks, refl)
set-own (first ∷ stages) (suc k) asks stage e = set-own stages k asks stage e

abbrev asks_for : ℕ → Release → LiveMail → List Asking
asks_for release plan mail = map (asking_of (made_at mail.accepted_at mail.opened release)) plan.holds

categorised-known : (release : ℕ) (plan : Release) (mail : LiveMail) (r : ℕ) → IsKnown mail.stages r → IsKnown (categorised release plan mail).stages r
categorised-known release plan mail r known = by (waits mail release)
  where
    by : (b : Bool) → IsKnown (cond b (with_asks release (asks_for release plan mail) mail) mail).stages r
    by true =
        freed-known (record mail { stages = slice_set mail.stages release (Some (asks_for release plan mail)) }) r
        (set-known mail.stages release (asks_for release plan mail) r known.0 known.1)
    by false = known

-- A release that waits is categorised by a plan.
pub categorised-own : (release : ℕ) (plan : Release) (mail : LiveMail) → waits mail release ≡ true → IsKnown (categorised release plan mail).stages release
categorised-own release plan mail wait = by (waits mail release) refl
  where
    by : (b : Bool) → waits mail release ≡ b → IsKnown (cond b (with_asks release (asks_for release plan mail) mail) mail).stages release
    by true e =
        let (stage, stands) = waits-low mail.stages release (slice_get mail.stages release) refl e in
        freed-known (record mail { stages = slice_set mail.stages release (Some (asks_for release plan mail)) }) release
        (set-own mail.stages release (asks_for release plan mail) stage stands)
    by false e = absurd (never (sym wait ∙ e))
      where
        never : true ≡ false → ⊥
        never p = cc

-- what a change of a release leaves categorised
abbrev KeepsKnown : (Stage → Stage) → Type 0
KeepsKnown f = (asks : List Asking) → (later : List Asking) × (f (Some asks) ≡ Some later)

decided-keeps : (gate : ℕ) (by : List ℕ) (verdict : Verdict) (moment : ℕ) → KeepsKnown (decided_stage gate by verdict moment)
decided-keeps gate by verdict moment asks = (changed (decided_asking by verdict moment) gate asks, refl)

expired-keeps : (moment : ℕ) → KeepsKnown (expired_stage moment)
expired-keeps moment asks = (map (expired_asking moment) asks, refl)

changed-known : (f : Stage → Stage) → KeepsKnown f → (stages : List Stage) (k r : ℕ) → IsKnown stages r → IsKnown (changed f k stages) r
changed-known f keeps stages k r known =
    elim (get-changed f stages k r (Some known.0) known.1) [
      | inl same ↦ (known.0, same)
      | inr new ↦ (let later = keeps known.0 in (later.0, new ∙ ap (λ (s : Stage). Some s) later.1))
    ]

mapped-known : (f : Stage → Stage) → KeepsKnown f → (stages : List Stage) (r : ℕ) → IsKnown stages r → IsKnown (map f stages) r
mapped-known f keeps stages r known =
    let later = keeps known.0 in (later.0, get-map f stages r (Some known.0) known.1 ∙ ap (λ (s : Stage). Some s) later.1)

expired-known : (moment : ℕ) (mail : LiveMail) (r : ℕ) → IsKnown mail.stages r → IsKnown (expired_mail moment mail).stages r
expired-known moment mail r known =
    freed-known (record mail { stages = map (expired_stage moment) mail.stages }) r (mapped-known (expired_stage moment) (expired-keeps moment) mail.stages r known)

opened-known : (verdict : Verdict) (asking : Asking) (moment : ℕ) (mail : LiveMail) (r : ℕ) → IsKnown mail.stages r → IsKnown (opened_by verdict asking moment mail).stages r
opened-known verdicts.Approve asking moment mail r known = (known.0, get-append mail.stages (None ∷ []) r (Some known.0) known.1)
opened-known verdicts.Reject asking moment mail r known = known

decided-known : (at : Option Asking) (name : ApprovalName) (by : List ℕ) (verdict : Verdict) (moment : ℕ) (mail : LiveMail) (r : ℕ) → IsKnown mail.stages r →
    IsKnown (decided_with at name by verdict moment mail).stages r
decided-known None name by verdict moment mail r known = known
decided-known (Some asking) name by verdict moment mail r known =
    let f = decided_stage name.gate by verdict moment in
    let with = (let m : LiveMail = record mail { stages = changed f name.release mail.stages } in m) in
    freed-known (opened_by verdict asking moment with) r
    (opened-known verdict asking moment with r (changed-known f (decided-keeps name.gate by verdict moment) mail.stages name.release r known))

changed-categorised : (f : LiveMail → LiveMail) → ((mail : LiveMail) (r : ℕ) → IsKnown mail.stages r → IsKnown (f mail).stages r) → (k : ℕ) (live : List LiveMail) (n r : ℕ) →
    WasCategorised n r live → WasCategorised n r (changed f k live)
changed-categorised f keeps k live n r was =
    elim (get-changed f live k (n - 1) was.0 was.1) [
      | inl same ↦ (was.0, same, was.2)
      | inr new ↦ (f was.0, new, keeps was.0 r was.2)
    ]

-- A release that was categorised stays so.
pub categorised-stays : (setup : Setup) (s : Standing) (e : Entry) (n r : ℕ) → WasCategorised n r s.live → WasCategorised n r (state_after setup s e).live
categorised-stays setup s (entries.Organised d texts) n r was = was
categorised-stays setup s (entries.Accepted m x) n r was = (was.0, get-append s.live _ (n - 1) was.0 was.1, was.2)
categorised-stays setup s (entries.Categorised number release plan) n r was = changed-categorised (categorised release plan) (categorised-known release plan) (number - 1) s.live n r was
categorised-stays setup s (entries.Decided approval by verdict m) n r was =
    changed-categorised (decided_mail approval by verdict m) (λ mail k known. decided-known (asking_at mail approval) approval by verdict m mail k known)
    (approval.submission - 1) s.live n r was
categorised-stays setup s (entries.Moment m) n r was =
    (expired_mail m was.0, get-map (expired_mail m) s.live (n - 1) was.0 was.1, expired-known m was.0 r was.2)
categorised-stays setup s (entries.Delivered name) n r was = was
categorised-stays setup s (entries.Delayed name) n r was = was
categorised-stays setup s (entries.Ended name) n r was = was
categorised-stays setup s (entries.Forgot number) n r was = was

uncategorised-there : (s : Standing) (n r : ℕ) → is_uncategorised (mail_of s n) r ≡ true → (mail : LiveMail) × (slice_get s.live (n - 1) ≡ Some mail) × (waits mail r ≡ true)
uncategorised-there s n r h = by (mail_of s n) refl h
  where
    by : (at : Option LiveMail) → mail_of s n ≡ at → is_uncategorised at r ≡ true → (mail : LiveMail) × (slice_get s.live (n - 1) ≡ Some mail) × (waits mail r ≡ true)
    by None e wait = absurd (cc)
    by (Some mail) e wait = (mail, (mail-there s n mail e).1, wait)

-- A release that waits was not categorised.
pub not-categorised : (s : Standing) (n r : ℕ) → is_uncategorised (mail_of s n) r ≡ true → WasCategorised n r s.live → ⊥
not-categorised s n r h was =
    let (mail, there, wait) = uncategorised-there s n r h in
    some_waits was.2.0 (slice_get was.0.stages r) was.2.1 (ap (λ (m : LiveMail). waits m r) (mail_is was.0 mail (sym was.1 ∙ there)) ∙ wait)
  where
    mail_is : (a b : LiveMail) → Some a ≡ Some b → a ≡ b
    mail_is a b e = cc

-- Its entry categorises it.
pub now-categorised : (s : Standing) (n r : ℕ) (plan : Release) → is_uncategorised (mail_of s n) r ≡ true → WasCategorised n r (changed (categorised r plan) (n - 1) s.live)
now-categorised s n r plan h =
    let (mail, there, wait) = uncategorised-there s n r h in
    (categorised r plan mail, get-changed-own (categorised r plan) s.live (n - 1) mail there, categorised-own r plan mail wait)
