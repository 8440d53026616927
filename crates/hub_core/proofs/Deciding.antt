-- A decision that is taken, or that memory was missing for.
use Rattle.std.proofs.Common.{◌≡◌, ℕ, ◌<◌, Bool, true, false, cond, List, length, get_or, set, Option, Some, None, Result, Ok, Err, OnOk, OnErr, refl, ap, ◌∙◌, sym}
use Rattle.std.specs.Prelude.{is_err, is_ok, slice_get}
use Rattle.std.proofs.lemmas.Option.{slice_get_within}
use Rattle.mail_names.specs.declared.name.ApprovalName.{ApprovalName}
use Rattle.moderation.specs.declared.approval.Verdict.{Verdict}
use Rattle.hub_core.specs.Approvals.{changed}
use Rattle.hub_core.specs.Mail.{LiveMail, decision_in, is_taken, decided_mail}
use Rattle.hub_core.proofs.Changing.{changed-set}
use Rattle.hub_core.proofs.Room.{decided-submission}

true≢false : true ≡ false → ⊥
true≢false e = cc

pub pushed-ok : {A E X : Type 0} (r : Result A E) (t : Bool) (new all old : List X) → t ≡ is_err r → t ≡ false → new ≡ cond (is_ok r) all old → new ≡ all
pushed-ok (Ok a) t new all old is e held = held
pushed-ok (Err fault) t new all old is e held = absurd (true≢false (sym is ∙ e))

-- The submission stays either way.
pub decided-either : {A E : Type 0} (r : Result A E) (name : ApprovalName) (by : List ℕ) (verdict : Verdict) (moment : ℕ) (old new : LiveMail) →
    OnOk r (new ≡ decided_mail name by verdict moment old) → OnErr r (new ≡ old) → new.submission ≡ old.submission
decided-either (Ok a) name by verdict moment old new ok err = ap (λ (m : LiveMail). m.submission) ok ∙ decided-submission name by verdict moment old
decided-either (Err fault) name by verdict moment old new ok err = ap (λ (m : LiveMail). m.submission) err

pub taken-within : (live : List LiveMail) (place : ℕ) (name : ApprovalName) (by : List ℕ) (verdict : Verdict) (moment : ℕ) →
    is_taken (decision_in (slice_get live place) name by verdict moment) ≡ true → place < length live
taken-within live place name by verdict moment taken = stands (slice_get live place) refl taken
  where
    stands : (o : Option LiveMail) → slice_get live place ≡ o → is_taken (decision_in o name by verdict moment) ≡ true → place < length live
    stands None at e = absurd (true≢false (sym e))
    stands (Some mail) at e = slice_get_within live place mail at

-- Where it is taken, the list has it.
pub decided-ok : {A E : Type 0} (r : Result A E) (f : LiveMail → LiveMail) (place : ℕ) (live : List LiveMail) (old new : LiveMail) → place < length live → old ≡ get_or live place old →
    OnOk r (new ≡ f old) → OnOk r (set live place new ≡ changed f place live)
decided-ok (Ok a) f place live old new below at ok = changed-set f place live old new below (ok ∙ ap f at)
decided-ok (Err fault) f place live old new below at ok = tt
