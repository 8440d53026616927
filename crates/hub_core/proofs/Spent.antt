-- A notice is told once: what has told it stays so.
use Rattle.std.proofs.Common.{◌≡◌, ℕ, ◌+◌, ◌-◌, ◌≤◌, Bool, true, false, cond, List, [], ◌∷◌, ◌++◌, map, Option, Some, None, refl, ap, ◌∙◌, sym, subst, arith}
use Rattle.std.specs.Prelude.{◌&&◌, find, is_some}
use Rattle.std.specs.List.{AllByRecursion}
use Rattle.journal_report.specs.declared.why.Why.{Why}
use Rattle.mail_names.specs.declared.name.ItemName.{ItemName}
use Rattle.mail_names.specs.declared.name.Mark.{Mark}
use Rattle.mail_names.specs.declared.name.Mark.TheVariants as marks
use Rattle.mail_names.specs.Names.{same_name}
use Rattle.mail_notices.specs.declared.kinds.Notice.{Notice}
use Rattle.mail_plan.specs.Planning.{are_named, is_release, made_at}
use Rattle.mail_plan.specs.declared.release.Item.{Item}
use Rattle.mail_plan.specs.declared.release.Release.{Release}
use Rattle.mail_submission.specs.Submission.{Submitted}
use Rattle.log_entry.specs.declared.entry.Entry.{Entry}
use Rattle.log_entry.specs.declared.entry.Entry.TheVariants as entries
use Rattle.hub_core.specs.declared.queue.QueuedItem.{QueuedItem}
use Rattle.hub_core.specs.declared.waiting.Due.{Due}
use Rattle.hub_core.specs.declared.waiting.Due.TheVariants as dues
use Rattle.hub_core.specs.declared.waiting.WaitingItem.{WaitingItem}
use Rattle.hub_core.specs.Setup.{Setup}
use Rattle.hub_core.specs.Approvals.{changed}
use Rattle.hub_core.specs.Mail.{LiveMail, waits, is_uncategorised, categorised}
use Rattle.hub_core.specs.Ending.{all_told}
use Rattle.hub_core.specs.Waiting.{is_named, met, noticed, with_told, without}
use Rattle.hub_core.specs.Delivery.{delay_name, delay_notice, failure_name, failure_notice, of_version, to_sender}
use Rattle.hub_core.specs.Standing.{Standing, start, state_after, decision_told, delayed_told, ended_told, mail_in, mail_of, released, told_by, waiting_of}
use Rattle.hub_core.proofs.Sending.{both, found_named, name_is}
use Rattle.hub_core.proofs.Settled.{Settled, settled-stays, All, Ends, decision-ends, moment-ends}
use Rattle.hub_core.proofs.Named.{all-map, at_place, differs, own_name}
use Rattle.hub_core.proofs.Categorised.{WasCategorised, categorised-stays, not-categorised, now-categorised}

false≢true : false ≡ true → ⊥
false≢true e = cc

abbrev IsNotice : ItemName → Type 0
IsNotice name = name.mark ≡ marks.Plain → ⊥

-- What holds of each item that waits, whatever becomes of it, and of each notice.
record Lasts (Q : WaitingItem → Type 0) : Type 0 where
  met : (moment : ℕ) (w : WaitingItem) → Q w → Q (met moment w)
  told : (w : WaitingItem) → Q w → Q (record w { told = true })
  noticed : (moment : ℕ) (due : Due) (item : QueuedItem) → IsNotice item.name → Q (noticed moment due item)

module _ (Q : WaitingItem → Type 0) where
  every-both : (xs ys : List WaitingItem) → AllByRecursion Q xs → AllByRecursion Q ys → AllByRecursion Q (xs ++ ys)
  every-both [] ys h g = g
  every-both (x ∷ xs) ys h g = (h.0, every-both xs ys h.1 g)

  every-without : (name : ItemName) (ws : List WaitingItem) → AllByRecursion Q ws → AllByRecursion Q (without name ws)
  every-without name [] h = tt
  every-without name (w ∷ ws) h = by (is_named name w) (every-without name ws h.1)
    where
      by : (b : Bool) → AllByRecursion Q (without name ws) → AllByRecursion Q (cond b ws (w ∷ without name ws))
      by true rest = h.1
      by false rest = (h.0, rest)

  every-told : ((w : WaitingItem) → Q w → Q (record w { told = true })) → (name : ItemName) (ws : List WaitingItem) → AllByRecursion Q ws → AllByRecursion Q (with_told name ws)
  every-told keeps name [] h = tt
  every-told keeps name (w ∷ ws) h = by (is_named name w) (every-told keeps name ws h.1)
    where
      by : (b : Bool) → AllByRecursion Q (with_told name ws) → AllByRecursion Q (cond b (record w { told = true } ∷ ws) (w ∷ with_told name ws))
      by true rest = (keeps w h.0, h.1)
      by false rest = (h.0, rest)

  every-met : (moment : ℕ) → ((w : WaitingItem) → Q w → Q (met moment w)) → (ws : List WaitingItem) → AllByRecursion Q ws → AllByRecursion Q (map (met moment) ws)
  every-met moment keeps [] h = tt
  every-met moment keeps (w ∷ ws) h = (keeps w h.0, every-met moment keeps ws h.1)

  every-noticed : (moment : ℕ) (due : Due) → ((item : QueuedItem) → IsNotice item.name → Q (noticed moment due item)) → (items : List QueuedItem) → All IsNotice items →
      AllByRecursion Q (map (noticed moment due) items)
  every-noticed moment due is [] h = tt
  every-noticed moment due is (item ∷ items) h = (is item h.0, every-noticed moment due is items h.1)

  every-found : (name : ItemName) (ws : List WaitingItem) (w : WaitingItem) → find (is_named name) ws ≡ Some w → AllByRecursion Q ws → Q w
  every-found name [] w e h = absurd (none w e)
    where
      none : (w : WaitingItem) → None ≡ Some w → ⊥
      none w e = cc
  every-found name (v ∷ ws) w e h = by (is_named name v) e (λ later. every-found name ws w later h.1)
    where
      is : (a b : WaitingItem) → Some a ≡ Some b → a ≡ b
      is a b e = cc

      by : (b : Bool) → cond b (Some v) (find (is_named name) ws) ≡ Some w → (find (is_named name) ws ≡ Some w → Q w) → Q w
      by true e rest = subst (λ (x : WaitingItem). Q x) (is v w e) h.0
      by false e rest = rest e

  -- what a release makes wait
  every-released : (n r : ℕ) (plan : Release) (at : Option LiveMail) →
      ((mail : LiveMail) → at ≡ Some mail → waits mail r ≡ true → is_release n r plan ≡ true →
      AllByRecursion Q (map (waiting_of (made_at mail.accepted_at mail.opened r) plan.texts) plan.items)) → AllByRecursion Q (released n r plan at)
  every-released n r plan None is = tt
  every-released n r plan (Some mail) is = by (waits mail r) (is_release n r plan) refl refl
    where
      new : List WaitingItem
      new = map (waiting_of (made_at mail.accepted_at mail.opened r) plan.texts) plan.items

      by : (a b : Bool) → waits mail r ≡ a → is_release n r plan ≡ b → AllByRecursion Q (cond (a && b) new [])
      by true true e f = is mail refl e f
      by true false e f = tt
      by false b e f = tt

  every-named : (n r made : ℕ) (texts : List (List ℕ)) (low place : ℕ) (items : List Item) → low ≤ place →
      ((item : Item) → item.name.submission ≡ n → item.name.release ≡ r → low ≤ item.name.place → item.name.mark ≡ marks.Plain → Q (waiting_of made texts item)) →
      are_named n r place items ≡ true → AllByRecursion Q (map (waiting_of made texts) items)
  every-named n r made texts low place [] below is e = tt
  every-named n r made texts low place (item ∷ items) below is e =
      let parts = both _ _ e in
      let at = at_place n r place item.name parts.0 in
      let stands = at.2 in
      (is item at.0 at.1 (omega arith) at.3, every-named n r made texts low (place + 1) items (omega arith) is parts.1)

every-map : (P Q : WaitingItem → Type 0) → ((w : WaitingItem) → P w → Q w) → (ws : List WaitingItem) → AllByRecursion P ws → AllByRecursion Q ws
every-map P Q f [] h = tt
every-map P Q f (w ∷ ws) h = (f w h.0, every-map P Q f ws h.1)

-- What an entry tells is a notice.
sender-all : (P : ItemName → Type 0) (own : ItemName) (moment : ℕ) (what : Notice) (submission : Submitted) (reverse : Option (List ℕ)) → P own →
    All P (to_sender own moment what submission reverse)
sender-all P own moment what submission None p = tt
sender-all P own moment what submission (Some sender) p = (p, tt)

version-all : (P : ItemName → Type 0) (own : ItemName) (moment : ℕ) (what : Why → Notice) (mail : Option LiveMail) (version : Option Why) → (is_some version ≡ true → P own) →
    All P (of_version own moment what mail version)
version-all P own moment what None version p = tt
version-all P own moment what (Some mail) None p = tt
version-all P own moment what (Some mail) (Some why) p = sender-all P own moment (what why) mail.submission mail.submission.reverse (p refl)

delay-all : (P : ItemName → Type 0) (s : Standing) (name : ItemName) (at : Option WaitingItem) → find (is_named name) s.waiting ≡ at →
    ((w : WaitingItem) → find (is_named name) s.waiting ≡ Some w → w.told ≡ false → is_some w.version ≡ true → P (delay_name w.item.name)) → All P (delayed_told s at)
delay-all P s name None e p = tt
delay-all P s name (Some w) e p = by w.told refl
  where
    notice : List QueuedItem
    notice = of_version (delay_name w.item.name) s.moment (delay_notice w) (mail_in s w) w.version

    by : (told : Bool) → w.told ≡ told → All P (cond told [] notice)
    by true t = tt
    by false t = version-all P (delay_name w.item.name) s.moment (delay_notice w) (mail_in s w) w.version (λ is. p w e t is)

failure-all : (P : ItemName → Type 0) (s : Standing) (name : ItemName) (at : Option WaitingItem) → find (is_named name) s.waiting ≡ at →
    ((w : WaitingItem) → find (is_named name) s.waiting ≡ Some w → is_some w.version ≡ true → P (failure_name w.item.name)) → All P (ended_told s at)
failure-all P s name None e p = tt
failure-all P s name (Some w) e p = version-all P (failure_name w.item.name) s.moment (failure_notice w s.moment) (mail_in s w) w.version (λ is. p w e is)

gate≢plain : (mark : Mark) → mark ≡ marks.Gate → mark ≡ marks.Plain → ⊥
gate≢plain mark e f = never (sym e ∙ f)
  where
    never : marks.Gate ≡ marks.Plain → ⊥
    never q = cc

ends-notice : (before after : List LiveMail) (name : ItemName) → Ends before after name → IsNotice name
ends-notice before after name ends = gate≢plain name.mark ends.mark

delay≢plain : marks.Delay ≡ marks.Plain → ⊥
delay≢plain e = cc

failure≢plain : marks.Failure ≡ marks.Plain → ⊥
failure≢plain e = cc

told-notice : (setup : Setup) (s : Standing) (e : Entry) → All IsNotice (told_by setup s e)
told-notice setup s (entries.Organised d r) = tt
told-notice setup s (entries.Accepted m x) = tt
told-notice setup s (entries.Categorised n r plan) = tt
told-notice setup s (entries.Decided name by verdict m) =
    all-map (Ends s.live (state_after setup s (entries.Decided name by verdict m)).live) IsNotice (ends-notice s.live _) (decision_told setup s name by verdict m) (decision-ends setup s name by verdict m)
told-notice setup s (entries.Moment m) =
    all-map (Ends s.live (state_after setup s (entries.Moment m)).live) IsNotice (ends-notice s.live _) (all_told setup m 1 s.live) (moment-ends setup s m)
told-notice setup s (entries.Delivered n) = tt
told-notice setup s (entries.Delayed n) = delay-all IsNotice s n (find (is_named n) s.waiting) refl (λ w e t is. delay≢plain)
told-notice setup s (entries.Ended n) = failure-all IsNotice s n (find (is_named n) s.waiting) refl (λ w e is. failure≢plain)
told-notice setup s (entries.Forgot n) = tt

-- What lasts holds of all that waits behind an entry, if it holds of what the entry categorises.
every-stays : (Q : WaitingItem → Type 0) → Lasts Q → (setup : Setup) (s : Standing) (e : Entry) →
    ((n r : ℕ) (plan : Release) → e ≡ entries.Categorised n r plan → AllByRecursion Q (released n r plan (mail_of s n))) → AllByRecursion Q s.waiting →
    AllByRecursion Q (state_after setup s e).waiting
every-stays Q lasts setup s (entries.Organised d r) new h = h
every-stays Q lasts setup s (entries.Accepted m x) new h = h
every-stays Q lasts setup s (entries.Categorised n r plan) new h = every-both Q s.waiting (released n r plan (mail_of s n)) h (new n r plan refl)
every-stays Q lasts setup s (entries.Decided name by verdict m) new h =
    every-both Q s.waiting _ h (every-noticed Q m dues.First (lasts.noticed m dues.First) _ (told-notice setup s (entries.Decided name by verdict m)))
every-stays Q lasts setup s (entries.Moment m) new h =
    every-met Q m (lasts.met m) _ (every-both Q s.waiting _ h (every-noticed Q m dues.Fresh (lasts.noticed m dues.Fresh) _ (told-notice setup s (entries.Moment m))))
every-stays Q lasts setup s (entries.Delivered n) new h = every-without Q n s.waiting h
every-stays Q lasts setup s (entries.Delayed n) new h =
    every-told Q lasts.told n _ (every-both Q s.waiting _ h (every-noticed Q s.moment dues.Made (lasts.noticed s.moment dues.Made) _ (told-notice setup s (entries.Delayed n))))
every-stays Q lasts setup s (entries.Ended n) new h =
    every-without Q n _ (every-both Q s.waiting _ h (every-noticed Q s.moment dues.Made (lasts.noticed s.moment dues.Made) _ (told-notice setup s (entries.Ended n))))
every-stays Q lasts setup s (entries.Forgot n) new h = h

-- no later item has the name of this one
abbrev Leaves : WaitingItem → WaitingItem → Type 0
Leaves w v = same_name w.item.name v.item.name ≡ false

-- No two items have one name, but for notices.
abbrev Apart : List WaitingItem → Type 0
Apart [] = Unit {0}
Apart (w ∷ ws) = (w.item.name.mark ≡ marks.Plain → AllByRecursion (Leaves w) ws) × Apart ws

apart-both : (xs ys : List WaitingItem) → Apart xs → Apart ys → AllByRecursion (λ (x : WaitingItem). x.item.name.mark ≡ marks.Plain → AllByRecursion (Leaves x) ys) xs → Apart (xs ++ ys)
apart-both [] ys h g cross = g
apart-both (x ∷ xs) ys h g cross = (λ plain. every-both (Leaves x) xs ys (h.0 plain) (cross.0 plain), apart-both xs ys h.1 g cross.1)

apart-without : (name : ItemName) (ws : List WaitingItem) → Apart ws → Apart (without name ws)
apart-without name [] h = tt
apart-without name (w ∷ ws) h = by (is_named name w) (apart-without name ws h.1)
  where
    by : (b : Bool) → Apart (without name ws) → Apart (cond b ws (w ∷ without name ws))
    by true rest = h.1
    by false rest = (λ plain. every-without (Leaves w) name ws (h.0 plain), rest)

apart-told : (name : ItemName) (ws : List WaitingItem) → Apart ws → Apart (with_told name ws)
apart-told name [] h = tt
apart-told name (w ∷ ws) h = by (is_named name w) (apart-told name ws h.1)
  where
    by : (b : Bool) → Apart (with_told name ws) → Apart (cond b (record w { told = true } ∷ ws) (w ∷ with_told name ws))
    by true rest = (λ plain. h.0 plain, h.1)
    by false rest = (λ plain. every-told (Leaves w) (λ v is. is) name ws (h.0 plain), rest)

apart-met : (moment : ℕ) (ws : List WaitingItem) → Apart ws → Apart (map (met moment) ws)
apart-met moment [] h = tt
apart-met moment (w ∷ ws) h = (λ plain. every-met (Leaves w) moment (λ v is. is) ws (h.0 plain), apart-met moment ws h.1)

apart-noticed : (moment : ℕ) (due : Due) (items : List QueuedItem) → All IsNotice items → Apart (map (noticed moment due) items)
apart-noticed moment due [] h = tt
apart-noticed moment due (item ∷ items) h = (λ plain. absurd (h.0 plain), apart-noticed moment due items h.1)

leaves-noticed : (w : WaitingItem) (moment : ℕ) (due : Due) (items : List QueuedItem) → w.item.name.mark ≡ marks.Plain → All IsNotice items → AllByRecursion (Leaves w) (map (noticed moment due) items)
leaves-noticed w moment due items plain h =
    every-noticed (Leaves w) moment due
    (λ item notice. differs w.item.name item.name (λ same. notice (ap (λ (x : ItemName). x.mark) (sym same) ∙ plain))) items h

with-noticed : (moment : ℕ) (due : Due) (items : List QueuedItem) (ws : List WaitingItem) → All IsNotice items → Apart ws → Apart (ws ++ map (noticed moment due) items)
with-noticed moment due items ws h apart =
    apart-both ws (map (noticed moment due) items) apart (apart-noticed moment due items h) (cross ws)
  where
    cross : (xs : List WaitingItem) → AllByRecursion (λ (x : WaitingItem). x.item.name.mark ≡ marks.Plain → AllByRecursion (Leaves x) (map (noticed moment due) items)) xs
    cross [] = tt
    cross (x ∷ xs) = (λ plain. leaves-noticed x moment due items plain h, cross xs)

apart-named : (n r made : ℕ) (texts : List (List ℕ)) (place : ℕ) (items : List Item) → are_named n r place items ≡ true → Apart (map (waiting_of made texts) items)
apart-named n r made texts place [] e = tt
apart-named n r made texts place (item ∷ items) e =
    let parts = both _ _ e in
    let at = at_place n r place item.name parts.0 in
    let stands = at.2 in (
      λ plain.
          every-named (Leaves (waiting_of made texts item)) n r made texts (place + 1) (place + 1) items (omega arith)
          (λ other sub rel behind mark. differs item.name other.name (λ same. (let places = ap (λ (x : ItemName). x.place) same in omega arith))) parts.1,
      apart-named n r made texts (place + 1) items parts.1,
    )

apart-released : (n r : ℕ) (plan : Release) (at : Option LiveMail) → Apart (released n r plan at)
apart-released n r plan None = tt
apart-released n r plan (Some mail) = by (waits mail r) (is_release n r plan) refl
  where
    made : ℕ
    made = made_at mail.accepted_at mail.opened r

    by : (a b : Bool) → is_release n r plan ≡ b → Apart (cond (a && b) (map (waiting_of made plan.texts) plan.items) [])
    by true true e = apart-named n r made plan.texts 0 plan.items (both _ _ e).0
    by true false e = tt
    by false b e = tt

-- the item's release is categorised, if it is an item of a release
abbrev Known : List LiveMail → WaitingItem → Type 0
Known live w = w.item.name.mark ≡ marks.Plain → WasCategorised w.item.name.submission w.item.name.release live

-- a version is an item of a release
abbrev IsVersion : WaitingItem → Type 0
IsVersion w = is_some w.version ≡ true → w.item.name.mark ≡ marks.Plain

-- Each item of a release that waits is of one that is categorised, and waits once.
pub record Sound (s : Standing) : Type 0 where
  pub known : AllByRecursion (Known s.live) s.waiting
  pub versions : AllByRecursion IsVersion s.waiting
  pub apart : Apart s.waiting

pub sound-start : (setup : Setup) → Sound (start setup)
sound-start setup = record { known = tt; versions = tt; apart = tt }

known-lasts : (live : List LiveMail) → Lasts (Known live)
known-lasts live = record { met = λ moment w is. is; told = λ w is. is; noticed = λ moment due item notice plain. absurd (notice plain) }

version-lasts : Lasts IsVersion
version-lasts = record { met = λ moment w is. is; told = λ w is. is; noticed = λ moment due item notice some. absurd (false≢true some) }

waits-there : (s : Standing) (n r : ℕ) (mail : LiveMail) → mail_of s n ≡ Some mail → waits mail r ≡ true → is_uncategorised (mail_of s n) r ≡ true
waits-there s n r mail at wait = ap (λ (o : Option LiveMail). is_uncategorised o r) at ∙ wait

known-new : (setup : Setup) (s : Standing) (n r : ℕ) (plan : Release) →
    AllByRecursion (Known (changed (categorised r plan) (n - 1) s.live)) (released n r plan (mail_of s n))
known-new setup s n r plan =
    every-released (Known (changed (categorised r plan) (n - 1) s.live)) n r plan (mail_of s n)
    (λ mail at wait form.
    every-named (Known (changed (categorised r plan) (n - 1) s.live)) n r _ plan.texts 0 0 plan.items (omega arith)
    (λ item sub rel low mark plain. categorised-for item.name.submission item.name.release n r _ (sym sub) (sym rel) (now-categorised s n r plan (waits-there s n r mail at wait)))
    (both _ _ form).0)
  where
    categorised-for : (a b n r : ℕ) (live : List LiveMail) → n ≡ a → r ≡ b → WasCategorised n r live → WasCategorised a b live
    categorised-for a b n r live sub rel was = subst (λ (k : ℕ). WasCategorised k b live) sub (subst (λ (k : ℕ). WasCategorised n k live) rel was)

known-stays : (setup : Setup) (s : Standing) (e : Entry) → AllByRecursion (Known s.live) s.waiting → AllByRecursion (Known (state_after setup s e).live) (state_after setup s e).waiting
known-stays setup s e h =
    every-stays (Known (state_after setup s e).live) (known-lasts (state_after setup s e).live) setup s e
    (λ n r plan same.
    subst (λ (x : Entry). AllByRecursion (Known (state_after setup s x).live) (released n r plan (mail_of s n))) (sym same) (known-new setup s n r plan))
    (every-map (Known s.live) (Known (state_after setup s e).live)
    (λ w known plain. categorised-stays setup s e w.item.name.submission w.item.name.release (known plain)) s.waiting h)

versions-stay : (setup : Setup) (s : Standing) (e : Entry) → AllByRecursion IsVersion s.waiting → AllByRecursion IsVersion (state_after setup s e).waiting
versions-stay setup s e h =
    every-stays IsVersion version-lasts setup s e
    (λ n r plan same.
    every-released IsVersion n r plan (mail_of s n)
    (λ mail at wait form. every-named IsVersion n r _ plan.texts 0 0 plan.items (omega arith) (λ item sub rel low mark some. mark) (both _ _ form).0)) h

-- What is categorised has other items than those that are known.
leaves-released : (s : Standing) (w : WaitingItem) (n r : ℕ) (plan : Release) → WasCategorised w.item.name.submission w.item.name.release s.live →
    AllByRecursion (Leaves w) (released n r plan (mail_of s n))
leaves-released s w n r plan was =
    every-released (Leaves w) n r plan (mail_of s n)
    (λ mail at wait form.
    every-named (Leaves w) n r _ plan.texts 0 0 plan.items (omega arith)
    (λ item sub rel low mark.
    differs w.item.name item.name
    (λ same.
    not-categorised s n r (waits-there s n r mail at wait)
    (subst (λ (k : ℕ). WasCategorised k r s.live) (ap (λ (x : ItemName). x.submission) same ∙ sub)
    (subst (λ (k : ℕ). WasCategorised w.item.name.submission k s.live) (ap (λ (x : ItemName). x.release) same ∙ rel) was)))) (both _ _ form).0)

apart-stays : (setup : Setup) (s : Standing) (e : Entry) → Sound s → Apart (state_after setup s e).waiting
apart-stays setup s (entries.Organised d r) sound = sound.apart
apart-stays setup s (entries.Accepted m x) sound = sound.apart
apart-stays setup s (entries.Categorised n r plan) sound =
    apart-both s.waiting (released n r plan (mail_of s n)) sound.apart (apart-released n r plan (mail_of s n))
    (every-map (Known s.live) (λ (x : WaitingItem). x.item.name.mark ≡ marks.Plain → AllByRecursion (Leaves x) (released n r plan (mail_of s n)))
    (λ w known plain. leaves-released s w n r plan (known plain)) s.waiting sound.known)
apart-stays setup s (entries.Decided name by verdict m) sound = with-noticed m dues.First _ s.waiting (told-notice setup s (entries.Decided name by verdict m)) sound.apart
apart-stays setup s (entries.Moment m) sound = apart-met m _ (with-noticed m dues.Fresh _ s.waiting (told-notice setup s (entries.Moment m)) sound.apart)
apart-stays setup s (entries.Delivered n) sound = apart-without n s.waiting sound.apart
apart-stays setup s (entries.Delayed n) sound = apart-told n _ (with-noticed s.moment dues.Made _ s.waiting (told-notice setup s (entries.Delayed n)) sound.apart)
apart-stays setup s (entries.Ended n) sound = apart-without n _ (with-noticed s.moment dues.Made _ s.waiting (told-notice setup s (entries.Ended n)) sound.apart)
apart-stays setup s (entries.Forgot n) sound = sound.apart

pub sound-stays : (setup : Setup) (s : Standing) (e : Entry) → Sound s → Sound (state_after setup s e)
sound-stays setup s e sound = record {
  known = known-stays setup s e sound.known;
  versions = versions-stay setup s e sound.versions;
  apart = apart-stays setup s e sound;
}

abbrev plain_name : ItemName → ItemName
plain_name name = record name { mark = marks.Plain }

abbrev IsTold : ItemName → WaitingItem → Type 0
IsTold name w = w.item.name ≡ name → w.told ≡ true

abbrev IsOther : ItemName → WaitingItem → Type 0
IsOther name w = w.item.name ≡ name → ⊥

-- the notice of this mark and name was told
abbrev SpentBy : Mark → Standing → ItemName → Type 0
SpentBy marks.Plain s name = ⊥
SpentBy marks.Gate s name = Settled name s.live
SpentBy marks.Delay s name = WasCategorised name.submission name.release s.live × AllByRecursion (IsTold (plain_name name)) s.waiting
SpentBy marks.Failure s name = WasCategorised name.submission name.release s.live × AllByRecursion (IsOther (plain_name name)) s.waiting

abbrev pub Spent : Standing → ItemName → Type 0
Spent s name = SpentBy name.mark s name

-- What is categorised later isn't of a release that was.
other-released : (Q : WaitingItem → Type 0) (s : Standing) (name : ItemName) (n r : ℕ) (plan : Release) → ((w : WaitingItem) → IsOther name w → Q w) →
    WasCategorised name.submission name.release s.live → AllByRecursion Q (released n r plan (mail_of s n))
other-released Q s name n r plan is was =
    every-released Q n r plan (mail_of s n)
    (λ mail at wait form.
    every-named Q n r _ plan.texts 0 0 plan.items (omega arith)
    (λ item sub rel low mark.
    is (waiting_of _ plan.texts item)
    (λ same.
    not-categorised s n r (waits-there s n r mail at wait)
    (subst (λ (k : ℕ). WasCategorised k r s.live) (ap (λ (x : ItemName). x.submission) (sym same) ∙ sub)
    (subst (λ (k : ℕ). WasCategorised name.submission k s.live) (ap (λ (x : ItemName). x.release) (sym same) ∙ rel) was)))) (both _ _ form).0)

told-lasts : (name : ItemName) → name.mark ≡ marks.Plain → Lasts (IsTold name)
told-lasts name plain = record {
  met = λ moment w is. is;
  told = λ w is same. refl;
  noticed = λ moment due item notice same. absurd (notice (ap (λ (x : ItemName). x.mark) same ∙ plain));
}

other-lasts : (name : ItemName) → name.mark ≡ marks.Plain → Lasts (IsOther name)
other-lasts name plain = record {
  met = λ moment w is. is;
  told = λ w is. is;
  noticed = λ moment due item notice same. notice (ap (λ (x : ItemName). x.mark) same ∙ plain);
}

spent-by : (mark : Mark) (setup : Setup) (s : Standing) (e : Entry) (name : ItemName) → SpentBy mark s name → SpentBy mark (state_after setup s e) name
spent-by marks.Plain setup s e name spent = spent
spent-by marks.Gate setup s e name spent = settled-stays setup s e name spent
spent-by marks.Delay setup s e name spent = (
  categorised-stays setup s e name.submission name.release spent.0,
  every-stays (IsTold (plain_name name)) (told-lasts (plain_name name) refl) setup s e
      (λ n r plan same. other-released (IsTold (plain_name name)) s (plain_name name) n r plan (λ w other own. absurd (other own)) spent.0) spent.1,
)
spent-by marks.Failure setup s e name spent = (
  categorised-stays setup s e name.submission name.release spent.0,
  every-stays (IsOther (plain_name name)) (other-lasts (plain_name name) refl) setup s e
      (λ n r plan same. other-released (IsOther (plain_name name)) s (plain_name name) n r plan (λ w other. other) spent.0) spent.1,
)

pub spent-stays : (setup : Setup) (s : Standing) (e : Entry) (name : ItemName) → Spent s name → Spent (state_after setup s e) name
spent-stays setup s e name spent = spent-by name.mark setup s e name spent

-- What is told wasn't told before, and was behind it.
pub record Spends (s after : Standing) (name : ItemName) : Type 0 where
  pub fresh : Spent s name → ⊥
  pub spent : Spent after name
  pub marked : name.mark ≡ marks.Plain → ⊥

ends-spends : (s after : Standing) (name : ItemName) → Ends s.live after.live name → Spends s after name
ends-spends s after name ends = record {
  fresh = λ was. ends.fresh (subst (λ (m : Mark). SpentBy m s name) ends.mark was);
  spent = subst (λ (m : Mark). SpentBy m after name) (sym ends.mark) ends.settled;
  marked = gate≢plain name.mark ends.mark;
}

is_own : (name : ItemName) (w : WaitingItem) → is_named name w ≡ true → w.item.name ≡ name
is_own name w e = name_is w.item.name name e

not_own : (name : ItemName) (w : WaitingItem) → is_named name w ≡ false → IsOther name w
not_own name w e same = false≢true (sym e ∙ (ap (λ (x : ItemName). same_name x name) same ∙ own_name name))

-- Behind the first item of a name stands no other of it.
others : (name : ItemName) (w : WaitingItem) (ws : List WaitingItem) → name.mark ≡ marks.Plain → is_named name w ≡ true → Apart (w ∷ ws) → AllByRecursion (IsOther name) ws
others name w ws plain named apart =
    let own = is_own name w named in
    every-map (Leaves w) (IsOther name)
    (λ v leaves same. false≢true (sym leaves ∙ (ap (λ (x : ItemName). same_name w.item.name x) (same ∙ sym own) ∙ own_name w.item.name))) ws
    (apart.0 (ap (λ (x : ItemName). x.mark) own ∙ plain))

told-all : (name : ItemName) (ws : List WaitingItem) → name.mark ≡ marks.Plain → Apart ws → AllByRecursion (IsTold name) (with_told name ws)
told-all name [] plain apart = tt
told-all name (w ∷ ws) plain apart = by (is_named name w) refl (told-all name ws plain apart.1)
  where
    by : (b : Bool) → is_named name w ≡ b → AllByRecursion (IsTold name) (with_told name ws) → AllByRecursion (IsTold name) (cond b (record w { told = true } ∷ ws) (w ∷ with_told name ws))
    by true e rest = (λ same. refl, every-map (IsOther name) (IsTold name) (λ v other own. absurd (other own)) ws (others name w ws plain e apart))
    by false e rest = (λ same. absurd (not_own name w e same), rest)

gone-all : (name : ItemName) (ws : List WaitingItem) → name.mark ≡ marks.Plain → Apart ws → AllByRecursion (IsOther name) (without name ws)
gone-all name [] plain apart = tt
gone-all name (w ∷ ws) plain apart = by (is_named name w) refl (gone-all name ws plain apart.1)
  where
    by : (b : Bool) → is_named name w ≡ b → AllByRecursion (IsOther name) (without name ws) → AllByRecursion (IsOther name) (cond b ws (w ∷ without name ws))
    by true e rest = others name w ws plain e apart
    by false e rest = (not_own name w e, rest)

-- a version that waits, and the name that it has
record Waits (s : Standing) (name : ItemName) (w : WaitingItem) : Type 0 where
  known : WasCategorised w.item.name.submission w.item.name.release s.live
  plain : name.mark ≡ marks.Plain
  own : plain_name w.item.name ≡ name

version-waits : (s : Standing) (name : ItemName) (w : WaitingItem) → Sound s → find (is_named name) s.waiting ≡ Some w → is_some w.version ≡ true → Waits s name w
version-waits s name w sound e version =
    let own = (found_named name s.waiting w e).1 in
    let plain = every-found IsVersion name s.waiting w e sound.versions version in
    record {
      known = every-found (Known s.live) name s.waiting w e sound.known plain;
      plain = ap (λ (x : ItemName). x.mark) (sym own) ∙ plain;
      own = (λ i. record { submission = w.item.name.submission; release = w.item.name.release; place = w.item.name.place; mark = sym plain i }) ∙ own;
    }

delay-spends : (setup : Setup) (s : Standing) (name : ItemName) (w : WaitingItem) → Sound s → find (is_named name) s.waiting ≡ Some w → w.told ≡ false → is_some w.version ≡ true →
    Spends s (state_after setup s (entries.Delayed name)) (delay_name w.item.name)
delay-spends setup s name w sound e untold version =
    let is = version-waits s name w sound e version in
    record {
      fresh = λ was.
          false≢true (sym untold ∙ every-found (IsTold (plain_name w.item.name)) name s.waiting w e was.1 ((found_named name s.waiting w e).1 ∙ sym is.own));
      spent = (
        is.known,
        subst (λ (x : ItemName). AllByRecursion (IsTold x) (state_after setup s (entries.Delayed name)).waiting) (sym is.own)
            (told-all name _ is.plain (with-noticed s.moment dues.Made _ s.waiting (told-notice setup s (entries.Delayed name)) sound.apart)),
      );
      marked = delay≢plain;
    }

failure-spends : (setup : Setup) (s : Standing) (name : ItemName) (w : WaitingItem) → Sound s → find (is_named name) s.waiting ≡ Some w → is_some w.version ≡ true →
    Spends s (state_after setup s (entries.Ended name)) (failure_name w.item.name)
failure-spends setup s name w sound e version =
    let is = version-waits s name w sound e version in
    record {
      fresh = λ was. every-found (IsOther (plain_name w.item.name)) name s.waiting w e was.1 ((found_named name s.waiting w e).1 ∙ sym is.own);
      spent = (
        is.known,
        subst (λ (x : ItemName). AllByRecursion (IsOther x) (state_after setup s (entries.Ended name)).waiting) (sym is.own)
            (gone-all name _ is.plain (with-noticed s.moment dues.Made _ s.waiting (told-notice setup s (entries.Ended name)) sound.apart)),
      );
      marked = failure≢plain;
    }

pub told-spends : (setup : Setup) (s : Standing) (e : Entry) → Sound s → All (Spends s (state_after setup s e)) (told_by setup s e)
told-spends setup s (entries.Organised d r) sound = tt
told-spends setup s (entries.Accepted m x) sound = tt
told-spends setup s (entries.Categorised n r plan) sound = tt
told-spends setup s (entries.Decided name by verdict m) sound =
    let after = state_after setup s (entries.Decided name by verdict m) in
    all-map (Ends s.live after.live) (Spends s after) (ends-spends s after) (decision_told setup s name by verdict m) (decision-ends setup s name by verdict m)
told-spends setup s (entries.Moment m) sound =
    let after = state_after setup s (entries.Moment m) in
    all-map (Ends s.live after.live) (Spends s after) (ends-spends s after) (all_told setup m 1 s.live) (moment-ends setup s m)
told-spends setup s (entries.Delivered n) sound = tt
told-spends setup s (entries.Delayed n) sound =
    delay-all (Spends s (state_after setup s (entries.Delayed n))) s n (find (is_named n) s.waiting) refl
    (λ w e untold version. delay-spends setup s n w sound e untold version)
told-spends setup s (entries.Ended n) sound =
    failure-all (Spends s (state_after setup s (entries.Ended n))) s n (find (is_named n) s.waiting) refl (λ w e version. failure-spends setup s n w sound e version)
told-spends setup s (entries.Forgot n) sound = tt
