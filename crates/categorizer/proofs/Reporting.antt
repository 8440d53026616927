-- Reports and versions among the drafts of a release, and what a mailbox takes of the versions.
use Rattle.std.proofs.Common.{◌≡◌, ℕ, suc, ◌+◌, ◌≤◌, nat_lt, Bool, true, false, ◌||◌, ◌&&◌, if◌then◌else◌, List, [], ◌∷◌, ◌++◌, map, filter, fold, length, bytes_eq, Option, Some, None, refl, sym, ◌∙◌, ap, arith, append_assoc, append-nil}
use Rattle.std.specs.Prelude.{slice_get, unwrap_or}
use Rattle.std.specs.List.{list_all, AllByRecursion}
use Rattle.std.proofs.lemmas.Bool.Decides.{nat_tests}
use Rattle.journal_report.specs.declared.parts.Line.{Line}
use Rattle.journal_report.specs.declared.why.Why.TheVariants as whys
use Rattle.journal_report.specs.Reports.{has_route, FitsLine}
use Rattle.journal_rules.specs.Taking.{places, has_some}
use Rattle.journal_rules.specs.declared.taking.Taken.{Taken}
use Rattle.mail_plan.specs.Planning.{is_version, lines_of, is_report_to, text_in}
use Rattle.mail_plan.specs.Planning as planning
use Rattle.mail_plan.specs.declared.release.Hold.{Hold}
use Rattle.mail_plan.specs.declared.release.ItemKind.{ItemKind}
use Rattle.mail_plan.specs.declared.release.ItemKind.TheVariants as kinds
use Rattle.rule_engine.specs.Run.{is_text, with_text, place_of}
use Rattle.rule_engine.proofs.Offered.{is_text-new, is_text-with}
use Rattle.categorizer.specs.declared.parts.Content.{Content}
use Rattle.categorizer.specs.declared.parts.Draft.{Draft}
use Rattle.categorizer.specs.declared.parts.Letter.{Letter}
use Rattle.categorizer.specs.declared.parts.Loss.{Loss}
use Rattle.categorizer.specs.declared.parts.Send.{Send}
use Rattle.categorizer.specs.Releasing.{draft_texts, item_of, items_from, name_at, version_of, request_to, text_at, asked, with_request, with_requests, notice_of, with_notice, with_notices, with_told, drafts_of, line_of, line_at, lines_at, with_reports}
use Rattle.categorizer.proofs.Differing.{send_target}
use Rattle.categorizer.proofs.Lists.{same_bytes}
use Rattle.categorizer.proofs.Naming.{and_true}

-- reports among drafts, and versions as lines
abbrev pub report_draft_to : List ℕ → Draft → Bool
report_draft_to mailbox draft = planning.is_report draft.kind && bytes_eq mailbox draft.folder

abbrev pub draft_text : Draft → List ℕ
draft_text draft = draft.text

abbrev pub draft_reports : List ℕ → List Draft → List (List ℕ)
draft_reports mailbox drafts = map draft_text (filter (report_draft_to mailbox) drafts)

abbrev pub draft_line : Draft → Line
draft_line draft = record { target = draft.folder; why = draft.why }

abbrev pub draft_lines : List Draft → List Line
draft_lines drafts = map draft_line (filter (λ (draft : Draft). is_version draft.kind) drafts)

-- what is picked of two lists
pub pick-append : {Y : Type 0} (p : Draft → Bool) (f : Draft → Y) (xs ys : List Draft) → map f (filter p (xs ++ ys)) ≡ map f (filter p xs) ++ map f (filter p ys)
pick-append p f [] ys = refl
pick-append {Y = Y} p f (x ∷ xs) ys = at (p x) (pick-append p f xs ys)
  where
    at : (b : Bool) → map f (filter p (xs ++ ys)) ≡ map f (filter p xs) ++ map f (filter p ys) →
        map f (if b then x ∷ filter p (xs ++ ys) else filter p (xs ++ ys)) ≡ map f (if b then x ∷ filter p xs else filter p xs) ++ map f (filter p ys)
    at true h = ap (λ (zs : List Y). f x ∷ zs) h
    at false h = h

-- requests and notices
abbrev pub is_other : ItemKind → Bool
is_other kinds.Version = false
is_other kinds.Report = false
is_other kinds.Request = true
is_other kinds.Notice = true

abbrev pub AllOther : List Draft → Type 0
AllOther drafts = AllByRecursion (λ (draft : Draft). is_other draft.kind ≡ true) drafts

other-append : (xs ys : List Draft) → AllOther xs → AllOther ys → AllOther (xs ++ ys)
other-append [] ys p q = q
other-append (x ∷ xs) ys p q = (p.0, other-append xs ys p.1 q)

pub no-version : (kind : ItemKind) → is_other kind ≡ true → is_version kind ≡ false
no-version kinds.Version h = absurd (cc)
no-version kinds.Report h = absurd (cc)
no-version kinds.Request h = refl
no-version kinds.Notice h = refl

pub no-report : (kind : ItemKind) (b : Bool) → is_other kind ≡ true → (planning.is_report kind && b) ≡ false
no-report kinds.Version b h = absurd (cc)
no-report kinds.Report b h = absurd (cc)
no-report kinds.Request b h = refl
no-report kinds.Notice b h = refl

pub pick-none : {Y : Type 0} (p : Draft → Bool) (f : Draft → Y) → ((draft : Draft) → is_other draft.kind ≡ true → p draft ≡ false) → (xs : List Draft) → AllOther xs → map f (filter p xs) ≡ []
pick-none p f none [] all = refl
pick-none p f none (x ∷ xs) all = ap (λ (b : Bool). map f (if b then x ∷ filter p xs else filter p xs)) (none x all.0) ∙ pick-none p f none xs all.1

-- These drafts go on with requests and notices.
abbrev pub GoesOn : List Draft → List Draft → Type 0
GoesOn drafts all = (rest : List Draft) × (AllOther rest) × (all ≡ drafts ++ rest)

ends-here : (drafts : List Draft) → GoesOn drafts drafts
ends-here drafts = ([], tt, sym (append-nil drafts))

goes-further : (a b c : List Draft) → GoesOn a b → GoesOn b c → GoesOn a c
goes-further a b c p q =
    (p.0 ++ q.0, other-append p.0 q.0 p.1 q.1, q.2 ∙ (ap (λ (x : List Draft). x ++ q.0) p.2 ∙ append_assoc a p.0 q.0))

requests-other : (text : List ℕ) (moderators : List (List ℕ)) → AllOther (map (request_to text) moderators)
requests-other text [] = tt
requests-other text (moderator ∷ moderators) = (refl, requests-other text moderators)

requests-go-on : (letter : Letter) (drafts : List Draft) (gate : ℕ) (holds : List Hold) → GoesOn drafts (with_requests letter drafts gate holds)
requests-go-on letter drafts gate [] = ends-here drafts
requests-go-on letter drafts gate (hold ∷ holds) =
    let text : List ℕ = text_at letter (length drafts) hold.moderators (asked letter gate hold) in
    goes-further drafts (with_request letter drafts gate hold) (with_requests letter (with_request letter drafts gate hold) (gate + 1) holds)
    (map (request_to text) hold.moderators, requests-other text hold.moderators, refl)
    (requests-go-on letter (with_request letter drafts gate hold) (gate + 1) holds)

notices-go-on : (letter : Letter) (to : List ℕ) (drafts : List Draft) (losses : List Loss) → GoesOn drafts (with_notices letter to drafts losses)
notices-go-on letter to drafts [] = ends-here drafts
notices-go-on letter to drafts (loss ∷ losses) =
    goes-further drafts (with_notice letter to drafts loss) (with_notices letter to (with_notice letter to drafts loss) losses)
    (record { folder = to; kind = kinds.Notice; why = whys.Direct; text = text_at letter (length drafts) (to ∷ []) (notice_of loss) } ∷ [], (refl, tt), refl)
    (notices-go-on letter to (with_notice letter to drafts loss) losses)

told-go-on : (letter : Letter) (sender : Option (List ℕ)) (drafts : List Draft) (losses : List Loss) → GoesOn drafts (with_told letter sender drafts losses)
told-go-on letter None drafts losses = ends-here drafts
told-go-on letter (Some to) drafts losses = notices-go-on letter to drafts losses

-- the versions and reports of a release, and what goes on behind them
abbrev pub front_of : Letter → Option (List ℕ) → List Taken → Content → List Draft
front_of letter sender taken content = with_reports letter sender content.sent (map version_of content.sent) taken

pub front-goes-on : (letter : Letter) (sender : Option (List ℕ)) (taken : List Taken) (content : Content) → GoesOn (front_of letter sender taken content) (drafts_of letter sender taken content)
front-goes-on letter sender taken content =
    goes-further (front_of letter sender taken content) (with_requests letter (front_of letter sender taken content) 0 content.holds) (drafts_of letter sender taken content)
    (requests-go-on letter (front_of letter sender taken content) 0 content.holds)
    (told-go-on letter sender (with_requests letter (front_of letter sender taken content) 0 content.holds) content.losses)

-- a text stands at its place
text-here : (texts : List (List ℕ)) (text : List ℕ) → is_text texts text ≡ true → unwrap_or (slice_get texts (place_of texts text)) [] ≡ text
text-here [] text h = absurd (cc)
text-here (other ∷ others) text h = at (bytes_eq text other) refl (λ there. text-here others text there) h
  where
    next : unwrap_or (slice_get (other ∷ others) (place_of others text + 1)) [] ≡ unwrap_or (slice_get others (place_of others text)) []
    next = let e : place_of others text + 1 ≡ suc (place_of others text) = omega arith in ap (λ (n : ℕ). unwrap_or (slice_get (other ∷ others) n) []) e

    at : (b : Bool) → bytes_eq text other ≡ b → (is_text others text ≡ true → unwrap_or (slice_get others (place_of others text)) [] ≡ text) → (b || is_text others text) ≡ true →
        unwrap_or (slice_get (other ∷ others) (if b then 0 else place_of others text + 1)) [] ≡ text
    at true e later h = sym (same_bytes text other e)
    at false e later h = next ∙ later h

pub text-stays : (more texts : List (List ℕ)) (text : List ℕ) → is_text texts text ≡ true → is_text (fold with_text texts more) text ≡ true
text-stays [] texts text h = h
text-stays (other ∷ more) texts text h = text-stays more (with_text texts other) text (is_text-with texts other text h)

pub text-added : (texts : List (List ℕ)) (text : List ℕ) → is_text (with_text texts text) text ≡ true
text-added texts text = at (is_text texts text) refl
  where
    at : (b : Bool) → is_text texts text ≡ b → is_text (if b then texts else texts ++ text ∷ []) text ≡ true
    at true e = e
    at false e = is_text-new texts text

abbrev pub AllIn : List (List ℕ) → List Draft → Type 0
AllIn texts drafts = AllByRecursion (λ (draft : Draft). is_text texts draft.text ≡ true) drafts

pub all-in : (drafts : List Draft) (texts : List (List ℕ)) → AllIn (fold with_text texts (draft_texts drafts)) drafts
all-in [] texts = tt
all-in (draft ∷ drafts) texts =
    (text-stays (draft_texts drafts) (with_text texts draft.text) draft.text (text-added texts draft.text), all-in drafts (with_text texts draft.text))

-- the reports and lines of a release are those of its drafts
pub reports-drafts : (number release place : ℕ) (texts : List (List ℕ)) (mailbox : List ℕ) (drafts : List Draft) → AllIn texts drafts →
    map (text_in texts) (filter (is_report_to mailbox) (items_from number release place texts drafts)) ≡ draft_reports mailbox drafts
reports-drafts number release place texts mailbox [] all = refl
reports-drafts number release place texts mailbox (draft ∷ drafts) all =
    at (report_draft_to mailbox draft) (reports-drafts number release (place + 1) texts mailbox drafts all.1)
  where
    at : (b : Bool) → map (text_in texts) (filter (is_report_to mailbox) (items_from number release (place + 1) texts drafts)) ≡ draft_reports mailbox drafts →
        map (text_in texts) (if b then item_of (name_at number release place) texts draft ∷ filter (is_report_to mailbox) (items_from number release (place + 1) texts drafts)
        else filter (is_report_to mailbox) (items_from number release (place + 1) texts drafts))
        ≡ map draft_text (if b then draft ∷ filter (report_draft_to mailbox) drafts else filter (report_draft_to mailbox) drafts)
    at true h = ap (λ (x : List ℕ). x ∷ map (text_in texts) (filter (is_report_to mailbox) (items_from number release (place + 1) texts drafts))) (text-here texts draft.text all.0)
        ∙ ap (λ (xs : List (List ℕ)). draft.text ∷ xs) h
    at false h = h

pub lines-drafts : (number release place : ℕ) (texts : List (List ℕ)) (drafts : List Draft) → lines_of (items_from number release place texts drafts) ≡ draft_lines drafts
lines-drafts number release place texts [] = refl
lines-drafts number release place texts (draft ∷ drafts) = at (is_version draft.kind) (lines-drafts number release (place + 1) texts drafts)
  where
    at : (b : Bool) → lines_of (items_from number release (place + 1) texts drafts) ≡ draft_lines drafts →
        (if b then draft_line draft ∷ lines_of (items_from number release (place + 1) texts drafts) else lines_of (items_from number release (place + 1) texts drafts))
        ≡ map draft_line (if b then draft ∷ filter (λ (draft : Draft). is_version draft.kind) drafts else filter (λ (draft : Draft). is_version draft.kind) drafts)
    at true h = ap (λ (xs : List Line). draft_line draft ∷ xs) h
    at false h = h

pub versions-lines : (sends : List Send) → draft_lines (map version_of sends) ≡ map line_of sends
versions-lines [] = refl
versions-lines (send ∷ sends) = ap (λ (xs : List Line). line_of send ∷ xs) (versions-lines sends)

pub versions-reports : (mailbox : List ℕ) (sends : List Send) → draft_reports mailbox (map version_of sends) ≡ []
versions-reports mailbox [] = refl
versions-reports mailbox (send ∷ sends) = versions-reports mailbox sends

-- what a mailbox takes of the versions
abbrev pub lines_for : (List ℕ → Bool) → List Send → List Line
lines_for passes sends = filter (λ (line : Line). passes line.target) (map line_of sends)

places-next : (passes : List ℕ → Bool) (targets : List (List ℕ)) (next at : ℕ) → next ≡ suc at → places passes next targets ≡ map (λ n. suc n) (places passes at targets)
places-next passes [] next at e = refl
places-next passes (target ∷ targets) next at e =
    step (passes target) (let f : next + 1 ≡ suc (at + 1) = omega arith in places-next passes targets (next + 1) (at + 1) f)
  where
    step : (b : Bool) → places passes (next + 1) targets ≡ map (λ n. suc n) (places passes (at + 1) targets) →
        (if b then next ∷ places passes (next + 1) targets else places passes (next + 1) targets)
        ≡ map (λ n. suc n) (if b then at ∷ places passes (at + 1) targets else places passes (at + 1) targets)
    step true h = ap (λ (n : ℕ). n ∷ places passes (next + 1) targets) e ∙ ap (λ (ns : List ℕ). suc at ∷ ns) h
    step false h = h

lines-next : (send : Send) (sends : List Send) (all : List ℕ) → lines_at (send ∷ sends) (map (λ n. suc n) all) ≡ lines_at sends all
lines-next send sends [] = refl
lines-next send sends (place ∷ all) = ap (λ (xs : List Line). line_at (slice_get sends place) ++ xs) (lines-next send sends all)

pub lines-here : (passes : List ℕ → Bool) (sends : List Send) → lines_at sends (places passes 0 (map send_target sends)) ≡ lines_for passes sends
lines-here passes [] = refl
lines-here passes (send ∷ sends) =
    step (passes send.target)
    (ap (lines_at (send ∷ sends)) (places-next passes (map send_target sends) 1 0 refl)
    ∙ (lines-next send sends (places passes 0 (map send_target sends)) ∙ lines-here passes sends))
  where
    step : (b : Bool) → lines_at (send ∷ sends) (places passes 1 (map send_target sends)) ≡ lines_for passes sends →
        lines_at (send ∷ sends) (if b then 0 ∷ places passes 1 (map send_target sends) else places passes 1 (map send_target sends))
        ≡ (if b then line_of send ∷ lines_for passes sends else lines_for passes sends)
    step true h = ap (λ (xs : List Line). line_of send ∷ xs) h
    step false h = h

pub positive : (n : ℕ) → nat_lt 0 (suc n) ≡ true
positive n = grind (arith, nat_tests)

pub some-lines : (passes : List ℕ → Bool) (sends : List Send) (at : ℕ) → has_some (places passes at (map send_target sends)) ≡ nat_lt 0 (length (lines_for passes sends))
some-lines passes [] at = refl
some-lines passes (send ∷ sends) at = step (passes send.target) (some-lines passes sends (at + 1))
  where
    step : (b : Bool) → has_some (places passes (at + 1) (map send_target sends)) ≡ nat_lt 0 (length (lines_for passes sends)) →
        has_some (if b then at ∷ places passes (at + 1) (map send_target sends) else places passes (at + 1) (map send_target sends))
        ≡ nat_lt 0 (length (if b then line_of send ∷ lines_for passes sends else lines_for passes sends))
    step true h = sym (positive (length (lines_for passes sends)))
    step false h = h

-- where nothing passes, no line does
pub no-lines : (passes : List ℕ → Bool) (lines : List Line) → ((target : List ℕ) → passes target ≡ false) → filter (λ (line : Line). passes line.target) lines ≡ []
no-lines passes [] none = refl
no-lines passes (line ∷ lines) none =
    ap (λ (b : Bool). if b then line ∷ filter (λ (line : Line). passes line.target) lines else filter (λ (line : Line). passes line.target) lines) (none line.target)
    ∙ no-lines passes lines none

-- what holds of versions' lines holds of those that are taken
abbrev pub Good : Line → Type 0
Good line = FitsLine line × (has_route line.why ≡ true)

pub good-taken : (passes : List ℕ → Bool) (lines : List Line) → AllByRecursion Good lines →
    AllByRecursion FitsLine (filter (λ (line : Line). passes line.target) lines) × (list_all (λ (line : Line). has_route line.why) (filter (λ (line : Line). passes line.target) lines) ≡ true)
good-taken passes [] all = (tt, refl)
good-taken passes (line ∷ lines) all = step (passes line.target) (good-taken passes lines all.1)
  where
    rest : List Line
    rest = filter (λ (line : Line). passes line.target) lines

    step : (b : Bool) → AllByRecursion FitsLine rest × (list_all (λ (line : Line). has_route line.why) rest ≡ true) →
        AllByRecursion FitsLine (if b then line ∷ rest else rest) × (list_all (λ (line : Line). has_route line.why) (if b then line ∷ rest else rest) ≡ true)
    step true h = ((all.0.0, h.0), and_true (has_route line.why) (list_all (λ (line : Line). has_route line.why) rest) all.0.1 h.1)
    step false h = h

pub fewer-taken : (passes : List ℕ → Bool) (lines : List Line) → length (filter (λ (line : Line). passes line.target) lines) ≤ length lines
fewer-taken passes [] = omega arith
fewer-taken passes (line ∷ lines) = step (passes line.target) (fewer-taken passes lines)
  where
    rest : List Line
    rest = filter (λ (line : Line). passes line.target) lines

    step : (b : Bool) → length rest ≤ length lines → length (if b then line ∷ rest else rest) ≤ length (line ∷ lines)
    step true h = omega arith
    step false h = omega arith
