-- What happens to a submission keeps what is kept of it.
use Rattle.std.proofs.Common.{◌≡◌, ℕ, zero, suc, ◌<◌, Bool, true, false, cond, List, [], ◌∷◌, ◌++◌, length, get_or, set, Option, Some, None, refl, ap, ◌∙◌, sym, arith}
use Rattle.std.specs.Prelude.{◌||◌, map, is_some, slice_get, option_map}
use Rattle.std.specs.List.{list_any}
use Rattle.std.proofs.lemmas.List.Folds.{list_any-append}
use Rattle.std.proofs.lemmas.Bool.Decides.{Decides-ltb}
use Rattle.mail_names.specs.declared.name.ApprovalName.{ApprovalName}
use Rattle.moderation.specs.Approval.{is_pending, place_of, answer, decide_answer, state_with, runs_out}
use Rattle.moderation.specs.declared.approval.ApprovalState.{ApprovalState}
use Rattle.moderation.specs.declared.approval.ApprovalState.TheVariants as states
use Rattle.moderation.specs.declared.approval.Decision.{Decision}
use Rattle.moderation.specs.declared.approval.Decision.TheVariants as decisions
use Rattle.moderation.specs.declared.approval.Verdict.{Verdict}
use Rattle.moderation.specs.declared.approval.Verdict.TheVariants as verdicts
use Rattle.mail_plan.specs.Planning.{Opening}
use Rattle.hub_core.specs.declared.asking.Asking.{Asking}
use Rattle.moderation.specs.declared.tell.Tell.{Tell}
use Rattle.moderation.specs.declared.tell.Tell.TheVariants as tellings
use Rattle.hub_core.specs.Setup.{Texts, Setup}
use Rattle.hub_core.specs.Ending.{is_inside, is_told}
use Rattle.hub_core.specs.Approvals.{Stage, changed, pends, stage_open, decided_asking, decided_stage, expired_asking, expired_stage, asking_in}
use Rattle.hub_core.specs.Mail.{LiveMail, IsLive, freed, waits, waits_in, asking_at, decided_with, decided_mail, can_decide, decision_in, is_taken}
use Rattle.hub_core.proofs.Changing.{changed-tail, changed-set, changed-length, changed-push}

true≢false : true ≡ false → ⊥
true≢false e = cc

no_item : {X : Type 0} (x : X) → None ≡ Some x → ⊥
no_item x e = cc

some_item : {X : Type 0} (a b : X) → Some a ≡ Some b → a ≡ b
some_item a b e = cc

left_true : (a b : Bool) → a ≡ true → (a || b) ≡ true
left_true true b e = refl
left_true false b e = absurd (true≢false (sym e))

right_true : (a b : Bool) → b ≡ true → (a || b) ≡ true
right_true true b e = refl
right_true false b e = e

-- What passes a test after a change passed it before.
module _ {X : Type 0} (p : X → Bool) where
  head_or : (a b c d : Bool) → (c ≡ true → a ≡ true) → (d ≡ true → b ≡ true) → (c || d) ≡ true → (a || b) ≡ true
  head_or a b true d first rest e = left_true a b (first refl)
  head_or a b false d first rest e = right_true a b (rest e)

  pub any-map : (f : X → X) → ((x : X) → p (f x) ≡ true → p x ≡ true) → (xs : List X) → list_any p (map f xs) ≡ true → list_any p xs ≡ true
  any-map f before [] e = e
  any-map f before (x ∷ xs) e = head_or (p x) (list_any p xs) (p (f x)) (list_any p (map f xs)) (before x) (any-map f before xs) e

  pub any-changed : (f : X → X) → ((x : X) → p (f x) ≡ true → p x ≡ true) → (k : ℕ) (xs : List X) → list_any p (changed f k xs) ≡ true → list_any p xs ≡ true
  any-changed f before k [] e = e
  any-changed f before zero (x ∷ xs) e = head_or (p x) (list_any p xs) (p (f x)) (list_any p xs) (before x) (λ h. h) e
  any-changed f before (suc k) (x ∷ xs) e =
      head_or (p x) (list_any p xs) (p x) (list_any p (changed f k xs)) (λ h. h) (any-changed f before k xs) (sym (ap (list_any p) (changed-tail f k x xs)) ∙ e)

  pub any-at : (k : ℕ) (x : X) (xs : List X) → slice_get xs k ≡ Some x → p x ≡ true → list_any p xs ≡ true
  any-at k x [] at is = absurd (no_item x at)
  any-at zero x (y ∷ ys) at is = left_true (p y) (list_any p ys) (ap p (some_item y x at) ∙ is)
  any-at (suc k) x (y ∷ ys) at is = right_true (p y) (list_any p ys) (any-at k x ys at is)

pended_with : (place : Option ℕ) (verdict : Verdict) (reply : Decision) (state : ApprovalState) → is_pending (state_with place verdict reply state) ≡ true → is_pending state ≡ true
pended_with None verdict reply state e = e
pended_with (Some place) verdict decisions.NotModerator state e = e
pended_with (Some place) verdict (decisions.Already by other) state e = e
pended_with (Some place) verdict (decisions.Expired deadline) state e = e
pended_with (Some place) verdict decisions.Taken state e = absurd (true≢false (sym e))

asking_pended : (by : List ℕ) (verdict : Verdict) (moment : ℕ) (asking : Asking) → pends (decided_asking by verdict moment asking) ≡ true → pends asking ≡ true
asking_pended by verdict moment asking e =
    pended_with (place_of asking.approval by) verdict (decide_answer asking.approval by moment) asking.approval.state e

-- A release that is open after a decision was open before it.
pub open-decided : (gate : ℕ) (by : List ℕ) (verdict : Verdict) (moment : ℕ) (stage : Stage) → stage_open (decided_stage gate by verdict moment stage) ≡ true → stage_open stage ≡ true
open-decided gate by verdict moment None e = refl
open-decided gate by verdict moment (Some asks) e = any-changed pends (decided_asking by verdict moment) (asking_pended by verdict moment) gate asks e

pended_before : (t : Bool) (state : ApprovalState) → is_pending (cond t states.Ended state) ≡ true → is_pending state ≡ true
pended_before true state e = absurd (true≢false (sym e))
pended_before false state e = e

asking_pends : (moment : ℕ) (asking : Asking) → pends (expired_asking moment asking) ≡ true → pends asking ≡ true
asking_pends moment asking e = pended_before (runs_out asking.approval moment) asking.approval.state e

pub open-expired : (moment : ℕ) (stage : Stage) → stage_open (expired_stage moment stage) ≡ true → stage_open stage ≡ true
open-expired moment None e = refl
open-expired moment (Some asks) e = any-map pends (expired_asking moment) (asking_pends moment) asks e

-- and one of a list of them
pub any-decided : (gate : ℕ) (by : List ℕ) (verdict : Verdict) (moment release : ℕ) (stages : List Stage) →
    list_any stage_open (changed (decided_stage gate by verdict moment) release stages) ≡ true → list_any stage_open stages ≡ true
any-decided gate by verdict moment release stages e =
    any-changed stage_open (decided_stage gate by verdict moment) (open-decided gate by verdict moment) release stages e

pub any-expired : (moment : ℕ) (stages : List Stage) → list_any stage_open (map (expired_stage moment) stages) ≡ true → list_any stage_open stages ≡ true
any-expired moment stages e = any-map stage_open (expired_stage moment) (open-expired moment) stages e

has_org : (t : Bool) (org : Option Texts) → (t ≡ true → is_some org ≡ true) → is_some (cond t org None) ≡ t
has_org true org there = there refl
has_org false org there = refl

-- the organisation is given up where nothing needs it any more
pub kept-live : (old : LiveMail) (stages : List Stage) (org : Option Texts) → IsLive old → length stages ≡ length old.stages → (list_any stage_open stages ≡ true → list_any stage_open old.stages ≡ true) →
    org ≡ cond (list_any stage_open stages) old.org None → IsLive (record old { org = org; stages = stages })
kept-live old stages org live same before is = record {
  moment = live.moment;
  needed = ap is_some is ∙ has_org (list_any stage_open stages) old.org (λ still. live.needed ∙ before still);
  releases = same ∙ live.releases;
  few = let few = live.few in omega (arith, same, few);
}

freed_as : (t : Bool) (old : LiveMail) (stages : List Stage) → record old { org = cond t old.org None; stages = stages } ≡ cond t (record old { stages = stages }) (record old { org = None; stages = stages })
freed_as true old stages = refl
freed_as false old stages = refl

pub freed-is : (old : LiveMail) (stages : List Stage) (org : Option Texts) → org ≡ cond (list_any stage_open stages) old.org None →
    record old { org = org; stages = stages } ≡ freed (record old { stages = stages })
freed-is old stages org is =
    ap (λ (o : Option Texts). record old { org = o; stages = stages }) is ∙ freed_as (list_any stage_open stages) old stages

freed_none : (t : Bool) (mail : LiveMail) → t ≡ true → cond t mail (record mail { org = None }) ≡ mail
freed_none true mail e = refl
freed_none false mail e = absurd (true≢false (sym e))

-- What is open keeps its organisation.
pub freed-open : (mail : LiveMail) → list_any stage_open mail.stages ≡ true → freed mail ≡ mail
freed-open mail is = freed_none (list_any stage_open mail.stages) mail is

answer_pends : (place : Option ℕ) (state : ApprovalState) (deadline moment : ℕ) → is_taken (Some (answer place state deadline moment)) ≡ true → is_pending state ≡ true
answer_pends None state deadline moment e = absurd (true≢false (sym e))
answer_pends (Some place) (states.Decided by verdict) deadline moment e = absurd (true≢false (sym e))
answer_pends (Some place) states.Ended deadline moment e = absurd (true≢false (sym e))
answer_pends (Some place) states.Pending deadline moment e = refl

-- A decision that is taken is on an approval that pends, of a release that stands.
pub record Takes (mail : LiveMail) (name : ApprovalName) (verdict : Verdict) : Type 0 where
  pub asking : Asking
  pub at : asking_at mail name ≡ Some asking
  pub pends : pends asking ≡ true
  pub can : can_decide verdict mail ≡ true

takes_by : (t : Bool) (at : Option Asking) (by : List ℕ) (moment : ℕ) →
    is_taken (option_map (λ (asking : Asking). decide_answer asking.approval by moment) (cond t at None)) ≡ true → (asking : Asking) × (at ≡ Some asking) × (pends asking ≡ true) × (t ≡ true)
takes_by true None by moment e = absurd (true≢false (sym e))
takes_by true (Some asking) by moment e =
    (asking, refl, answer_pends (place_of asking.approval by) asking.approval.state asking.approval.deadline moment e, refl)
takes_by false at by moment e = absurd (true≢false (sym e))

pub takes : (mail : LiveMail) (name : ApprovalName) (by : List ℕ) (verdict : Verdict) (moment : ℕ) → is_taken (decision_in (Some mail) name by verdict moment) ≡ true → Takes mail name verdict
takes mail name by verdict moment e =
    let parts = takes_by (can_decide verdict mail) (asking_at mail name) by moment e in
    record { asking = parts.0; at = parts.1; pends = parts.2; can = parts.3 }

asked_in : (o : Option Stage) (gate : ℕ) (asking : Asking) → asking_in o gate ≡ Some asking → (asks : List Asking) × (o ≡ Some (Some asks)) × (slice_get asks gate ≡ Some asking)
asked_in None gate asking e = absurd (no_item asking e)
asked_in (Some None) gate asking e = absurd (no_item asking e)
asked_in (Some (Some asks)) gate asking e = (asks, refl, e)

-- its submission is open
pub asked-open : (mail : LiveMail) (name : ApprovalName) (asking : Asking) → asking_at mail name ≡ Some asking → pends asking ≡ true → list_any stage_open mail.stages ≡ true
asked-open mail name asking at is =
    let (asks, stands, has) = asked_in (slice_get mail.stages name.release) name.gate asking at in
    any-at stage_open name.release (Some asks) mail.stages stands (any-at pends name.gate asking asks has is)

within : {X : Type 0} (xs : List X) (k : ℕ) (x : X) → slice_get xs k ≡ Some x → k < length xs
within [] k x e = absurd (no_item x e)
within (y ∷ ys) zero x e = omega arith
within (y ∷ ys) (suc k) x e = let rest = within ys k x e in omega (arith, rest)

pub asked-within : (mail : LiveMail) (name : ApprovalName) (asking : Asking) → asking_at mail name ≡ Some asking → name.release < length mail.stages
asked-within mail name asking at =
    let (asks, stands, has) = asked_in (slice_get mail.stages name.release) name.gate asking at in
    within mail.stages name.release (Some asks) stands

waited : (o : Option Stage) → waits_in o ≡ true → o ≡ Some None
waited None e = absurd (true≢false (sym e))
waited (Some None) e = refl
waited (Some (Some asks)) e = absurd (true≢false (sym e))

-- What waits to be categorised is open, and has its organisation.
pub waits-open : (mail : LiveMail) (release : ℕ) → waits mail release ≡ true → list_any stage_open mail.stages ≡ true
waits-open mail release e = any-at stage_open release None mail.stages (waited (slice_get mail.stages release) e) refl

waits-kept : (mail : LiveMail) (release : ℕ) → IsLive mail → waits mail release ≡ true → is_some mail.org ≡ true
waits-kept mail release live e = live.needed ∙ waits-open mail release e

pub none-waits : (mail : LiveMail) (release : ℕ) → IsLive mail → mail.org ≡ None → false ≡ waits mail release
none-waits mail release live none = by (waits mail release) refl
  where
    by : (t : Bool) → waits mail release ≡ t → false ≡ t
    by false is = refl
    by true is = absurd (true≢false (sym (waits-kept mail release live is) ∙ ap is_some none))

-- An organisation that is given up or kept, in the form that is kept of it.
module _ {Org : Type 0} (f : Org → Texts) where
  map_cond : (t : Bool) (o : Option Org) → option_map f (cond t o None) ≡ cond t (option_map f o) None
  map_cond true o = refl
  map_cond false o = refl

  given_up : (own : Option Texts) (held kept : Option Org) (stages seen : List Stage) → own ≡ option_map f held → seen ≡ stages → kept ≡ cond (list_any stage_open seen) held None →
      option_map f kept ≡ cond (list_any stage_open stages) own None
  given_up own held kept stages seen has same is =
      ap (option_map f) is ∙ map_cond (list_any stage_open seen) held
      ∙ ap (λ (l : List Stage). cond (list_any stage_open l) (option_map f held) None) same
      ∙ ap (λ (o : Option Texts). cond (list_any stage_open stages) o None) (sym has)

  pub free-live : (old : LiveMail) (held kept : Option Org) (stages seen : List Stage) → old.org ≡ option_map f held → IsLive old → length stages ≡ length old.stages →
      (list_any stage_open stages ≡ true → list_any stage_open old.stages ≡ true) → seen ≡ stages → kept ≡ cond (list_any stage_open seen) held None →
      IsLive (record old { org = option_map f kept; stages = stages })
  free-live old held kept stages seen has live size before same is =
      kept-live old stages (option_map f kept) live size before (given_up old.org held kept stages seen has same is)

  pub free-is : (old : LiveMail) (held kept : Option Org) (stages seen : List Stage) → old.org ≡ option_map f held → seen ≡ stages → kept ≡ cond (list_any stage_open seen) held None →
      record old { org = option_map f kept; stages = stages } ≡ freed (record old { stages = stages })
  free-is old held kept stages seen has same is =
      freed-is old stages (option_map f kept) (given_up old.org held kept stages seen has same is)

-- What is refused.
pub refused-is : (old : LiveMail) (name : ApprovalName) (by : List ℕ) (moment : ℕ) (asking : Asking) → asking_at old name ≡ Some asking →
    freed (record old { stages = changed (decided_stage name.gate by verdicts.Reject moment) name.release old.stages }) ≡ decided_mail name by verdicts.Reject moment old
refused-is old name by moment asking at =
    sym (ap (λ (o : Option Asking). decided_with o name by verdicts.Reject moment old) at)

or_true : (a : Bool) → (a || true) ≡ true
or_true true = refl
or_true false = refl

open_pushed : (stages : List Stage) → list_any stage_open (stages ++ None ∷ []) ≡ true
open_pushed stages = list_any-append stage_open stages (None ∷ []) ∙ or_true (list_any stage_open stages)

pushed-length : {X : Type 0} (xs : List X) (y : X) → length (xs ++ y ∷ []) ≡ suc (length xs)
pushed-length [] y = refl
pushed-length (x ∷ xs) y = ap (λ n. suc n) (pushed-length xs y)

-- What is approved has a release more.
pub approved-live : (old : LiveMail) (name : ApprovalName) (by : List ℕ) (moment : ℕ) (opening : Opening) → IsLive old → is_taken (decision_in (Some old) name by verdicts.Approve moment) ≡ true →
    IsLive (record old { opened = old.opened ++ opening ∷ []; stages = changed (decided_stage name.gate by verdicts.Approve moment) name.release old.stages ++ None ∷ [] })
approved-live old name by moment opening live taken =
    let is = takes old name by verdicts.Approve moment taken in
    let stages = changed (decided_stage name.gate by verdicts.Approve moment) name.release old.stages in
    let size : length (stages ++ None ∷ []) ≡ suc (length old.stages) =
    pushed-length stages None ∙ ap (λ n. suc n) (changed-length (decided_stage name.gate by verdicts.Approve moment) name.release old.stages) in
    let below = (Decides-ltb (length old.stages) 4294967295).0 is.can in
    record {
      moment = live.moment;
      needed = live.needed ∙ asked-open old name is.asking is.at is.pends ∙ sym (open_pushed stages);
      releases = size ∙ ap (λ n. suc n) live.releases ∙ ap (λ n. suc n) (sym (pushed-length old.opened opening));
      few = omega (arith, size, below);
    }

pub approved-is : (old : LiveMail) (name : ApprovalName) (by : List ℕ) (moment : ℕ) (asking : Asking) → asking_at old name ≡ Some asking →
    record old { opened = old.opened ++ (record { gate = asking.approval.gate; moment = moment }) ∷ []; stages = changed (decided_stage name.gate by verdicts.Approve moment) name.release old.stages ++ None ∷ [] }
    ≡ decided_mail name by verdicts.Approve moment old
approved-is old name by moment asking at =
    let f = decided_stage name.gate by verdicts.Approve moment in
    let opened = old.opened ++ (record { gate = asking.approval.gate; moment = moment }) ∷ [] in
    let after : LiveMail = record old { opened = opened; stages = changed f name.release old.stages ++ None ∷ [] } in
    sym (ap (λ (o : Option Asking). decided_with o name by verdicts.Approve moment old) at ∙ freed-open after (open_pushed (changed f name.release old.stages)))

-- as a push and then a decision make it
pub decided-pushed : (old : List Stage) (pushed : List Stage) (gate : ℕ) (by : List ℕ) (verdict : Verdict) (moment release : ℕ) (d y : Stage) → pushed ≡ old ++ None ∷ [] → release < length old →
    y ≡ decided_stage gate by verdict moment (get_or pushed release d) → set pushed release y ≡ changed (decided_stage gate by verdict moment) release old ++ None ∷ []
decided-pushed old pushed gate by verdict moment release d y is below set_to =
    let f = decided_stage gate by verdict moment in
    let size = ap length is ∙ pushed-length old None in
    changed-set f release pushed d y (omega (arith, below, size)) set_to ∙ ap (changed f release) is ∙ changed-push f release old None below

-- what the planner's own word for who is inside says of a submission
pub told-inside : (setup : Setup) (org : Option Texts) (texts : Texts) (sender : List ℕ) (tell : Tell) → tell ≡ tellings.Internal → org ≡ Some texts → setup.inside texts sender ≡ is_told setup org sender tell
told-inside setup org texts sender tell is has =
    ap (λ (o : Option Texts). is_inside setup o sender) (sym has) ∙ ap (λ (t : Tell). is_told setup org sender t) (sym is)
