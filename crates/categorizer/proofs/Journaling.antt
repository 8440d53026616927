-- Each mailbox that takes a version gets one report, which lists what it takes.
use Rattle.std.proofs.Common.{◌≡◌, ℕ, ◌+◌, ◌^◌, ◌<◌, ◌≤◌, nat_lt, nat_le, Bool, true, false, ◌||◌, ◌&&◌, not, if◌then◌else◌, List, [], ◌∷◌, ◌++◌, map, filter, fold, length, bytes_eq, Option, refl, sym, ◌∙◌, ap, subst, arith, append_assoc, append-nil, length-append}
use Rattle.std.specs.Prelude.{codes, IfSome}
use Rattle.std.specs.List.{list_all, AllByRecursion}
use Rattle.std.proofs.lemmas.Bool.Decides.{nat_tests}
use Rattle.mail_names.specs.Key.{IsKey}
use Rattle.journal_report.specs.declared.parts.Line.{Line}
use Rattle.journal_report.specs.declared.why.Why.{Why}
use Rattle.journal_report.specs.declared.why.Why.TheVariants as whys
use Rattle.journal_report.specs.Listed.{Lists, OneLists}
use Rattle.journal_report.specs.Report.{report_text}
use Rattle.journal_report.specs.Reports.{is_clean, has_route, FitsWhy}
use Rattle.journal_report.proofs.Offered.{lists}
use Rattle.journal_rules.specs.Taking.{is_taken, named, taken_by, has_some, takings}
use Rattle.journal_rules.specs.Taking as taking
use Rattle.journal_rules.specs.declared.taking.Taken.{Taken}
use Rattle.mail_submission.specs.Base.{base_message}
use Rattle.mail_plan.specs.Fits.{IsWhy, IsItem, IsRelease}
use Rattle.mail_plan.specs.Planning.{Input, IsInput, is_among, are_distinct, is_version, lines_of, lines_taken, Reports}
use Rattle.org_directory.specs.Register.{Register, among}
use Rattle.rule_terms.specs.declared.rule.JournalRule.{JournalRule}
use Rattle.rule_engine.specs.Run.{is_text, with_text, distinct}
use Rattle.mail_message.specs.Message.{field_of}
use Rattle.categorizer.specs.declared.parts.Content.{Content}
use Rattle.categorizer.specs.declared.parts.Draft.{Draft}
use Rattle.categorizer.specs.declared.parts.Letter.{Letter}
use Rattle.categorizer.specs.declared.parts.Send.{Send}
use Rattle.categorizer.specs.Organisation.{Organisation}
use Rattle.categorizer.specs.Releasing.{draft_texts, item_of, items_from, name_at, version_of, drafts_of, line_of, head_at, report_at, with_reports, takes, journaled, content, case_of, letter_of, hub_release}
use Rattle.categorizer.proofs.Differing.{send_target}
use Rattle.categorizer.proofs.Grouping.{Grouped, sent-grouped, value-clean}
use Rattle.categorizer.proofs.Lists.{same_bytes, or_map}
use Rattle.categorizer.proofs.Naming.{and_true, and_parts, of_not, false_of, distinct-fold}
use Rattle.categorizer.proofs.Reporting.{report_draft_to, draft_text, draft_reports, draft_line, draft_lines, pick-append, pick-none, no-version, no-report, GoesOn, front-goes-on, all-in, reports-drafts, lines-drafts, versions-lines, versions-reports, text-stays, text-added, lines_for, lines-here, positive, some-lines, no-lines, Good, good-taken, fewer-taken}

-- who is in no rule takes nothing
taken-named : (register : Register) (sender : Option (List ℕ)) (journals : List JournalRule) (mailbox target : List ℕ) → is_taken register sender journals mailbox target ≡ true →
    is_text (map (λ (j : JournalRule). j.mailbox) journals) mailbox ≡ true
taken-named register sender [] mailbox target h = absurd (cc)
taken-named register sender (j ∷ journals) mailbox target h =
    or_map (bytes_eq mailbox j.mailbox && taking.takes register sender target j) (is_taken register sender journals mailbox target)
    (bytes_eq mailbox j.mailbox) (is_text (map (λ (j : JournalRule). j.mailbox) journals) mailbox)
    (λ here. (and_parts (bytes_eq mailbox j.mailbox) (taking.takes register sender target j) here).0)
    (λ there. taken-named register sender journals mailbox target there) h

kept-text : (more texts : List (List ℕ)) (text : List ℕ) → is_text more text ≡ true → is_text (fold with_text texts more) text ≡ true
kept-text [] texts text h = absurd (cc)
kept-text (other ∷ more) texts text h = at (bytes_eq text other) refl (λ there. kept-text more (with_text texts other) text there) h
  where
    at : (b : Bool) → bytes_eq text other ≡ b → (is_text more text ≡ true → is_text (fold with_text (with_text texts other) more) text ≡ true) → (b || is_text more text) ≡ true →
        is_text (fold with_text (with_text texts other) more) text ≡ true
    at true e later h =
        text-stays more (with_text texts other) text (subst (λ (x : List ℕ). is_text (with_text texts other) x ≡ true) (sym (same_bytes text other e)) (text-added texts other))
    at false e later h = later h

nobody-takes : (register : Register) (sender : Option (List ℕ)) (journals : List JournalRule) (mailbox : List ℕ) → among mailbox (named journals) ≡ false →
    (target : List ℕ) → is_taken register sender journals mailbox target ≡ false
nobody-takes register sender journals mailbox none target =
    false_of (is_taken register sender journals mailbox target) (is_text (named journals) mailbox)
    (λ h. kept-text (map (λ (j : JournalRule). j.mailbox) journals) [] mailbox (taken-named register sender journals mailbox target h)) none

push-length : (drafts : List Draft) (draft : Draft) → length (drafts ++ draft ∷ []) ≡ length drafts + 1
push-length drafts draft = length-append drafts (draft ∷ [])

one_of : (reports : List (List ℕ)) (text : List ℕ) (lines : List Line) → reports ≡ text ∷ [] → nat_lt 0 (length lines) ≡ true → Lists text lines → OneLists reports lines
one_of reports text [] e some h = absurd (cc)
one_of reports text (line ∷ lines) e some h = (text, e, h)

no_line : (lines : List Line) → false ≡ nat_lt 0 (length lines) → lines ≡ []
no_line [] h = refl
no_line (line ∷ lines) h = absurd (let e : false ≡ true = h ∙ positive (length lines) in cc)

-- what holds of the letter of a release
pub record IsSound (letter : Letter) (sender : Option (List ℕ)) : Type 0 where
  pub made : letter.made ≤ 253402300799
  pub id : is_clean letter.about.message_id ≡ true
  pub subject : is_clean letter.about.subject ≡ true
  pub sender-key : IfSome sender IsKey

is-report-at : (moment : ℕ) (id subject : List ℕ) (lines : List Line) → moment ≤ 253402300799 → is_clean id ≡ true → is_clean subject ≡ true → nat_lt 0 (length lines) ≡ true →
    length lines < 2 ^ 32 → list_all (λ (line : Line). has_route line.why) lines ≡ true →
    (nat_le moment 253402300799 && (is_clean id && (is_clean subject && (nat_lt 0 (length lines) && (nat_lt (length lines) (2 ^ 32) && list_all (λ (line : Line). has_route line.why) lines))))) ≡ true
is-report-at moment id subject lines m i s some few grouped =
    let a : nat_le moment 253402300799 ≡ true = grind (arith, nat_tests) in
    let b : nat_lt (length lines) (2 ^ 32) ≡ true = grind (arith, nat_tests) in
    and_true (nat_le moment 253402300799) (is_clean id && (is_clean subject && (nat_lt 0 (length lines) && (nat_lt (length lines) (2 ^ 32) && list_all (λ (line : Line). has_route line.why) lines)))) a
    (and_true (is_clean id) (is_clean subject && (nat_lt 0 (length lines) && (nat_lt (length lines) (2 ^ 32) && list_all (λ (line : Line). has_route line.why) lines))) i
    (and_true (is_clean subject) (nat_lt 0 (length lines) && (nat_lt (length lines) (2 ^ 32) && list_all (λ (line : Line). has_route line.why) lines)) s
    (and_true (nat_lt 0 (length lines)) (nat_lt (length lines) (2 ^ 32) && list_all (λ (line : Line). has_route line.why) lines) some
    (and_true (nat_lt (length lines) (2 ^ 32)) (list_all (λ (line : Line). has_route line.why) lines) b grouped))))

-- what the types of drafts' items hold, the first of which has this place
abbrev Fits : ℕ → ℕ → List (List ℕ) → ℕ → List Draft → Type 0
Fits number release texts place drafts = AllByRecursion IsItem (items_from number release place texts drafts)

fits-append : (number release : ℕ) (texts : List (List ℕ)) (xs ys : List Draft) (place next : ℕ) → next ≡ place + length xs → Fits number release texts place (xs ++ ys) →
    Fits number release texts place xs × Fits number release texts next ys
fits-append number release texts [] ys place next e h = (tt, subst (λ (n : ℕ). Fits number release texts n ys) (let f : place ≡ next = omega arith in f) h)
fits-append number release texts (x ∷ xs) ys place next e h =
    let f : next ≡ place + 1 + length xs = omega arith in
    let rest = fits-append number release texts xs ys (place + 1) next f h.1 in ((h.0, rest.0), rest.1)

module _ (letter : Letter) (sender : Option (List ℕ)) (sends : List Send) where
  -- the reports, the first of which has the name of this place
  abbrev reports_from : ℕ → List Taken → List Draft
  reports_from place [] = []
  reports_from place (taken ∷ others) = report_at letter sender sends place taken ∷ reports_from (place + 1) others

  reports-behind : (all : List Taken) (drafts : List Draft) → with_reports letter sender sends drafts all ≡ drafts ++ reports_from (length drafts) all
  reports-behind [] drafts = sym (append-nil drafts)
  reports-behind (taken ∷ others) drafts =
      let draft : Draft = report_at letter sender sends (length drafts) taken in
      reports-behind others (drafts ++ draft ∷ [])
      ∙ (append_assoc drafts (draft ∷ []) (reports_from (length (drafts ++ draft ∷ [])) others)
      ∙ ap (λ (n : ℕ). drafts ++ (draft ∷ reports_from n others)) (push-length drafts draft))

  reports-no-lines : (all : List Taken) (place : ℕ) → draft_lines (reports_from place all) ≡ []
  reports-no-lines [] place = refl
  reports-no-lines (taken ∷ others) place = reports-no-lines others (place + 1)

  module _ (register : Register) (journals : List JournalRule) (texts : List (List ℕ)) (sound : IsSound letter sender) (good : AllByRecursion Good (map line_of sends)) (few : length sends < 2 ^ 32) where
    abbrev by : List ℕ → Taken
    by mailbox = taken_by register sender journals (map send_target sends) mailbox

    abbrev taken_of : List (List ℕ) → List Taken
    taken_of names = filter (λ (taken : Taken). has_some taken.targets) (map by names)

    abbrev lines_to : List ℕ → List Line
    lines_to mailbox = lines_for (is_taken register sender journals mailbox) sends

    abbrev lines_if : Bool → List ℕ → List Line
    lines_if b mailbox = if b then lines_to mailbox else []

    abbrev FitsAt : ℕ → List Draft → Type 0
    FitsAt place drafts = Fits letter.about.number letter.release texts place drafts

    few-lines : (mailbox : List ℕ) → length (lines_to mailbox) < 2 ^ 32
    few-lines mailbox =
        let a = fewer-taken (is_taken register sender journals mailbox) (map line_of sends) in
        let b : length (map line_of sends) ≡ length sends = same-length sends in omega arith
      where
        same-length : (all : List Send) → length (map line_of all) ≡ length all
        same-length [] = refl
        same-length (send ∷ all) = let h = same-length all in omega arith

    text-lists : (mailbox : List ℕ) (place : ℕ) → IsItem (item_of (name_at letter.about.number letter.release place) texts (report_at letter sender sends place (by mailbox))) →
        nat_lt 0 (length (lines_to mailbox)) ≡ true → Lists (report_at letter sender sends place (by mailbox)).text (lines_to mailbox)
    text-lists mailbox place item some =
        let those = good-taken (is_taken register sender journals mailbox) (map line_of sends) good in
        subst (λ (lines : List Line). Lists (report_text (head_at letter sender place mailbox) lines letter.about.original) (lines_to mailbox))
        (sym (lines-here (is_taken register sender journals mailbox) sends))
        (lists (head_at letter sender place mailbox) (lines_to mailbox) letter.about.original
        (record { name = record { submission = item.name.submission; release = item.name.release; place = item.name.place }; mailbox = item.folder; sender = sound.sender-key }) those.0
        (is-report-at letter.made letter.about.message_id letter.about.subject (lines_to mailbox) sound.made sound.id sound.subject some (few-lines mailbox) those.1))

    -- one mailbox more
    one-more : (first : List ℕ) (names : List (List ℕ)) (place : ℕ) (b : Bool) → b ≡ nat_lt 0 (length (lines_to first)) → is_among first names ≡ false → (mailbox : List ℕ) →
        ((next : ℕ) → FitsAt next (reports_from next (taken_of names)) → OneLists (draft_reports mailbox (reports_from next (taken_of names))) (lines_if (is_among mailbox names) mailbox)) →
        FitsAt place (reports_from place (if b then by first ∷ taken_of names else taken_of names)) →
        OneLists (draft_reports mailbox (reports_from place (if b then by first ∷ taken_of names else taken_of names))) (lines_if (bytes_eq mailbox first || is_among mailbox names) mailbox)
    one-more first names place false e apart mailbox later fits = at (bytes_eq mailbox first) refl
      where
        others : List (List ℕ)
        others = draft_reports mailbox (reports_from place (taken_of names))

        at : (c : Bool) → bytes_eq mailbox first ≡ c → OneLists others (lines_if (c || is_among mailbox names) mailbox)
        at false f = later place fits
        at true f =
            let same : mailbox ≡ first = same_bytes mailbox first f in
            subst (λ (lines : List Line). OneLists others lines) (sym (ap (λ (x : List ℕ). lines_to x) same ∙ no_line (lines_to first) e))
            (subst (λ (d : Bool). OneLists others (lines_if d mailbox)) (ap (λ (x : List ℕ). is_among x names) same ∙ apart) (later place fits))
    one-more first names place true e apart mailbox later fits = at (bytes_eq mailbox first) refl
      where
        report : Draft
        report = report_at letter sender sends place (by first)

        others : List Draft
        others = filter (report_draft_to mailbox) (reports_from (place + 1) (taken_of names))

        at : (c : Bool) → bytes_eq mailbox first ≡ c → OneLists (map draft_text (if c then report ∷ others else others)) (lines_if (c || is_among mailbox names) mailbox)
        at false f = later (place + 1) fits.1
        at true f =
            let same : mailbox ≡ first = same_bytes mailbox first f in
            let none : OneLists (map draft_text others) [] =
            subst (λ (d : Bool). OneLists (map draft_text others) (lines_if d mailbox)) (ap (λ (x : List ℕ). is_among x names) same ∙ apart) (later (place + 1) fits.1) in
            subst (λ (x : List ℕ). OneLists (report.text ∷ map draft_text others) (lines_to x)) (sym same)
            (one_of (report.text ∷ map draft_text others) report.text (lines_to first) (ap (λ (xs : List (List ℕ)). report.text ∷ xs) none) (sym e)
            (text-lists first place fits.0 (sym e)))

    one-each : (names : List (List ℕ)) (place : ℕ) → are_distinct names ≡ true → (mailbox : List ℕ) → FitsAt place (reports_from place (taken_of names)) →
        OneLists (draft_reports mailbox (reports_from place (taken_of names))) (lines_if (is_among mailbox names) mailbox)
    one-each [] place once mailbox fits = refl
    one-each (first ∷ names) place once mailbox fits =
        let parts = and_parts (not (is_among first names)) (are_distinct names) once in
        one-more first names place (has_some (by first).targets) (some-lines (is_taken register sender journals first) sends 0) (of_not (is_among first names) parts.0) mailbox
        (λ next h. one-each names next parts.1 mailbox h) fits

    pub all-lists : (place : ℕ) (mailbox : List ℕ) → FitsAt place (reports_from place (takings register sender journals (map send_target sends))) →
        OneLists (draft_reports mailbox (reports_from place (takings register sender journals (map send_target sends)))) (lines_to mailbox)
    all-lists place mailbox fits =
        at (is_among mailbox (named journals)) refl (one-each (named journals) place (distinct-fold (map (λ (j : JournalRule). j.mailbox) journals) [] refl) mailbox fits)
      where
        reports : List (List ℕ)
        reports = draft_reports mailbox (reports_from place (takings register sender journals (map send_target sends)))

        at : (b : Bool) → is_among mailbox (named journals) ≡ b → OneLists reports (lines_if b mailbox) → OneLists reports (lines_to mailbox)
        at true e h = h
        at false e h =
            subst (λ (lines : List Line). OneLists reports lines)
            (sym (no-lines (is_taken register sender journals mailbox) (map line_of sends) (nobody-takes register sender journals mailbox e))) h

-- versions
why-fits : (why : Why) → IsWhy why → has_route why ≡ true → FitsWhy why
why-fits whys.Direct is routed = tt
why-fits (whys.Via groups) is routed = is.1
why-fits (whys.Copied rule) is routed = is
why-fits (whys.Redirected rule) is routed = is
why-fits (whys.Through steps) is routed = (is.1, routed)

sends-good : (number release place : ℕ) (texts : List (List ℕ)) (sends : List Send) → Fits number release texts place (map version_of sends) → Grouped sends → AllByRecursion Good (map line_of sends)
sends-good number release place texts [] fits grouped = tt
sends-good number release place texts (send ∷ sends) fits grouped =
    ((record { target = fits.0.folder; why = why-fits send.why fits.0.why grouped.0 }, grouped.0), sends-good number release (place + 1) texts sends fits.1 grouped.1)

items-length : (number release place : ℕ) (texts : List (List ℕ)) (drafts : List Draft) → length (items_from number release place texts drafts) ≡ length drafts
items-length number release place texts [] = refl
items-length number release place texts (draft ∷ drafts) = let h = items-length number release (place + 1) texts drafts in omega arith

versions-length : (sends : List Send) → length (map version_of sends) ≡ length sends
versions-length [] = refl
versions-length (send ∷ sends) = let h = versions-length sends in omega arith

few-sends : (sends : List Send) (reports rest drafts : List Draft) → drafts ≡ (map version_of sends ++ reports) ++ rest → length drafts < 2 ^ 32 → length sends < 2 ^ 32
few-sends sends reports rest drafts e h =
    let a : length drafts ≡ length ((map version_of sends ++ reports) ++ rest) = ap (λ (x : List Draft). length x) e in
    let b = length-append (map version_of sends ++ reports) rest in
    let c = length-append (map version_of sends) reports in
    let d = versions-length sends in omega arith

abbrev content_in : Organisation → Input → Content
content_in org input = content (case_of org input (base_message input.number input.submission.bytes)) input.before input.opened

abbrev letter_in : Input → Letter
letter_in input = letter_of input (base_message input.number input.submission.bytes)

abbrev taken_in : Organisation → Input → List Taken
taken_in org input = journaled org input.submission.reverse (content_in org input).sent

abbrev drafts_in : Organisation → Input → List Draft
drafts_in org input = drafts_of (letter_in input) input.submission.reverse (taken_in org input) (content_in org input)

letter-sound : (input : Input) → IsInput input → IsSound (letter_in input) input.submission.reverse
letter-sound input is = record { made = is.made; id = value-clean (field_of (codes "Message-Id") (base_message input.number input.submission.bytes)); subject = value-clean (field_of (codes "Subject") (base_message input.number input.submission.bytes)); sender-key = is.submission.reverse }

-- The drafts are the versions, the reports, and the rest.
abbrev versions_in : Organisation → Input → List Draft
versions_in org input = map version_of (content_in org input).sent

abbrev reports_in : Organisation → Input → List Draft
reports_in org input = reports_from (letter_in input) input.submission.reverse (content_in org input).sent (length (versions_in org input)) (taken_in org input)

parted : (org : Organisation) (input : Input) → GoesOn (versions_in org input ++ reports_in org input) (drafts_in org input)
parted org input =
    subst (λ (front : List Draft). GoesOn front (drafts_in org input))
    (reports-behind (letter_in input) input.submission.reverse (content_in org input).sent (taken_in org input) (versions_in org input))
    (front-goes-on (letter_in input) input.submission.reverse (taken_in org input) (content_in org input))

lines-all : (org : Organisation) (input : Input) (p : GoesOn (versions_in org input ++ reports_in org input) (drafts_in org input)) →
    lines_of (items_from input.number input.release 0 (distinct (draft_texts (drafts_in org input))) (drafts_in org input)) ≡ map line_of (content_in org input).sent
lines-all org input p =
    let versions = versions_in org input in
    let those = reports_in org input in
    let of_version : Draft → Bool = λ (draft : Draft). is_version draft.kind in
    lines-drafts input.number input.release 0 (distinct (draft_texts (drafts_in org input))) (drafts_in org input)
    ∙ (ap draft_lines p.2
    ∙ (pick-append of_version draft_line (versions ++ those) p.0
    ∙ (ap (λ (x : List Line). draft_lines (versions ++ those) ++ x) (pick-none of_version draft_line (λ draft other. no-version draft.kind other) p.0 p.1)
    ∙ (append-nil (draft_lines (versions ++ those))
    ∙ (pick-append of_version draft_line versions those
    ∙ (ap (λ (x : List Line). draft_lines versions ++ x) (reports-no-lines (letter_in input) input.submission.reverse (content_in org input).sent (taken_in org input) (length versions))
    ∙ (append-nil (draft_lines versions)
    ∙ versions-lines (content_in org input).sent)))))))

pub reported : (org : Organisation) (input : Input) → IsInput input → IsRelease (hub_release org input) → Reports (takes org input.submission.reverse) (hub_release org input)
reported org input is fits mailbox =
    let p = parted org input in
    let drafts = drafts_in org input in
    let texts = distinct (draft_texts drafts) in
    let sent = (content_in org input).sent in
    let versions = versions_in org input in
    let those = reports_in org input in
    let grouped = sent-grouped (case_of org input (base_message input.number input.submission.bytes)) input.before input.opened in
    let all : Fits input.number input.release texts 0 ((versions ++ those) ++ p.0) = subst (λ (x : List Draft). Fits input.number input.release texts 0 x) p.2 fits.items.1 in
    let front = fits-append input.number input.release texts (versions ++ those) p.0 0 (length (versions ++ those)) (let e : length (versions ++ those) ≡ 0 + length (versions ++ those) = omega arith in e) all in
    let two = fits-append input.number input.release texts versions those 0 (length versions) (let e : length versions ≡ 0 + length versions = omega arith in e) front.0 in
    let count : length drafts < 2 ^ 32 = subst (λ (n : ℕ). n < 2 ^ 32) (items-length input.number input.release 0 texts drafts) fits.items.0 in
    let good = sends-good input.number input.release 0 texts sent two.0 grouped in
    let few = few-sends sent those p.0 drafts p.2 count in
    subst (λ (reports : List (List ℕ)). OneLists reports (lines_taken (takes org input.submission.reverse mailbox) (hub_release org input)))
    (sym (reports-drafts input.number input.release 0 texts mailbox drafts (all-in drafts [])
    ∙ (ap (draft_reports mailbox) p.2
    ∙ (pick-append (report_draft_to mailbox) draft_text (versions ++ those) p.0
    ∙ (ap (λ (x : List (List ℕ)). draft_reports mailbox (versions ++ those) ++ x) (pick-none (report_draft_to mailbox) draft_text (λ draft other. no-report draft.kind (bytes_eq mailbox draft.folder) other) p.0 p.1)
    ∙ (append-nil (draft_reports mailbox (versions ++ those))
    ∙ (pick-append (report_draft_to mailbox) draft_text versions those
    ∙ ap (λ (x : List (List ℕ)). x ++ draft_reports mailbox those) (versions-reports mailbox sent))))))))
    (subst (λ (lines : List Line). OneLists (draft_reports mailbox those) (filter (λ (line : Line). takes org input.submission.reverse mailbox line.target) lines))
    (sym (lines-all org input p))
    (all-lists (letter_in input) input.submission.reverse sent org.register org.book.journals texts (letter-sound input is) good few (length versions) mailbox two.1))
