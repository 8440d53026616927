-- What releases promise.
use Rattle.std.proofs.Common.{◌≡◌, ℕ, Bool, true, false, ◌||◌, ◌&&◌, not, if◌then◌else◌, List, [], ◌++◌, map, filter, length, Option, Some, None, Ok, refl, sym, ◌∙◌, ap, subst}
use Rattle.std.specs.List.{list_all}
use Rattle.mail_names.specs.declared.gate.Gate.{Gate}
use Rattle.group_expand.specs.Expansion.{expansion, is_closed, closed_of}
use Rattle.group_expand.specs.Routes.{too_many, all_ways}
use Rattle.group_expand.specs.Ways.{fresh}
use Rattle.group_expand.specs.declared.way.Way.{Way}
use Rattle.group_expand.proofs.Offered.{first-filter}
use Rattle.journal_rules.specs.declared.taking.Taken.{Taken}
use Rattle.rule_terms.specs.Forms.{is_rule}
use Rattle.rule_engine.specs.Run.{distinct}
use Rattle.mail_plan.specs.Planning.{Input, Continues, is_among, are_distinct, is_gate_among, are_distinct_gates, targets, gates_of, are_named, use_texts, have_moderators, is_release}
use Rattle.mail_submission.specs.Submission.{Submitted}
use Rattle.categorizer.specs.declared.parts.Content.{Content}
use Rattle.categorizer.specs.declared.parts.Draft.{Draft}
use Rattle.mail_submission.specs.Base.{base_message}
use Rattle.categorizer.specs.Growth.{ExpansionGrows, PlanGrows}
use Rattle.categorizer.specs.Organisation.{Organisation, organisation_of}
use Rattle.categorizer.specs.Plan.{Case, plan, plan_before, gates_before, news, is_target, kept, beside, judged_in, closed_gates, held_rules, is_new_gate}
use Rattle.categorizer.specs.Releasing.{draft_texts, items_from, release_from, drafts_of, journaled, letter_of, content, content_of, too_many_content, unknown_now, case_of, hub_release}
use Rattle.categorizer.proofs.Books.{IsRead, is-read}
use Rattle.categorizer.proofs.Differing.{send_target, targets-drafts, all-targets, among-target, firsts-distinct, filter-within, filter-distinct, left-out, gates-held, gate-within, gate-distinct, gate-out}
use Rattle.categorizer.proofs.Expanding.{opens-more, expands}
use Rattle.categorizer.proofs.Growing.{sent-grows, refused-grow, met-grows}
use Rattle.categorizer.proofs.Lists.{is_opened, sends_in, met_in}
use Rattle.categorizer.proofs.Meeting.{AllFew, few-append, few-rules, few-closed, have-moderators, closed-distinct, held-distinct}
use Rattle.categorizer.proofs.Naming.{and_true, named, used_in_order, distinct-fold}
use Rattle.categorizer.proofs.Reading.{has_few, closed-few}

-- the case of a submission that was accepted at a moment
abbrev case_at : Organisation → ℕ → ℕ → Submitted → Case
case_at org number accepted_at submission = record {
  rules = org.book.rules;
  setting = record { directory = org.register; sender = submission.reverse; moment = accepted_at };
  message = base_message number submission.bytes;
  expand = expansion org.register submission.recipients submission.reverse;
  too_many = too_many org.register submission.recipients;
}

abbrev case_in : Organisation → Input → Case
case_in org input = case_at org input.number input.accepted_at input.submission

abbrev content_in : Organisation → Input → Content
content_in org input = content (case_in org input) input.before input.opened

abbrev taken_in : Organisation → Input → List Taken
taken_in org input = journaled org input.submission.reverse (content_in org input).sent

abbrev drafts_in : Organisation → Input → List Draft
drafts_in org input = drafts_of (letter_of input (base_message input.number input.submission.bytes)) input.submission.reverse (taken_in org input) (content_in org input)

-- the form
lawful-from : (number release : ℕ) (drafts : List Draft) (those : Content) → have_moderators those.holds ≡ true → is_release number release (release_from number release drafts those) ≡ true
lawful-from number release drafts those few =
    let texts : List (List ℕ) = distinct (draft_texts drafts) in
    and_true (are_named number release 0 (items_from number release 0 texts drafts)) (use_texts 0 (length texts) (items_from number release 0 texts drafts) && (are_distinct texts && have_moderators those.holds))
    (named number release 0 texts drafts)
    (and_true (use_texts 0 (length texts) (items_from number release 0 texts drafts)) (are_distinct texts && have_moderators those.holds)
    (used_in_order number release 0 drafts [])
    (and_true (are_distinct texts) (have_moderators those.holds) (distinct-fold (draft_texts drafts) [] refl) few))

holds-few : (case : Case) (before : Option (List Gate)) (opened : List Gate) → AllFew case.setting.directory case.rules (met_in case opened) →
    have_moderators (content case before opened).holds ≡ true
holds-few case before opened few = at case.too_many before
  where
    at : (b : Bool) (before : Option (List Gate)) → have_moderators (if b then too_many_content before
        else content_of case.setting.directory case.rules (news case before opened) (unknown_now case before opened)).holds ≡ true
    at true None = refl
    at true (Some before) = refl
    at false before = have-moderators case.setting.directory case.rules (is_new_gate (gates_before before) (plan_before case before)) (met_in case opened) few

met-few : (org : Organisation) (number accepted_at : ℕ) (submission : Submitted) (opened : List Gate) → list_all has_few org.register.objects ≡ true → list_all is_rule org.book.rules ≡ true →
    AllFew org.register org.book.rules (met_in (case_at org number accepted_at submission) opened)
met-few org number accepted_at submission opened objects those =
    let case : Case = case_at org number accepted_at submission in
    let closed : List ℕ → Bool = is_closed org.register submission.reverse opened in
    few-append org.register org.book.rules (closed_gates (case.expand opened).closed) (held_rules (judged_in case opened) 0 org.book.rules)
    (subst (λ (ws : List Way). AllFew org.register org.book.rules (closed_gates (map (closed_of org.register) ws)))
    (sym (first-filter (is_closed org.register submission.reverse opened) (λ k. false) (all_ways org.register (is_closed org.register submission.reverse opened) submission.recipients)))
    (few-closed org.register org.book.rules (is_closed org.register submission.reverse opened)
    (closed-few org.register org.book.rules submission.reverse opened objects)
    (fresh (λ k. false) (all_ways org.register (is_closed org.register submission.reverse opened) submission.recipients))))
    (few-rules org.register (case_at org number accepted_at submission) opened those 0 org.book.rules)

pub lawful : (org : Organisation) (input : Input) → organisation_of org.directory_text org.rules_text ≡ Ok org → is_release input.number input.release (hub_release org input) ≡ true
lawful org input h =
    let read : IsRead org.directory_text org.rules_text org = is-read org.directory_text org.rules_text org h in
    lawful-from input.number input.release (drafts_in org input) (content_in org input)
    (holds-few (case_in org input) input.before input.opened (met-few org input.number input.accepted_at input.submission input.opened read.objects read.rules))

pub own_texts : (org : Organisation) (directory those : List ℕ) → organisation_of directory those ≡ Ok org → (org.directory_text ≡ directory) × (org.rules_text ≡ those)
own_texts org directory those h =
    let read : IsRead directory those org = is-read directory those org h in
    (read.directory_text, read.rules_text)

-- targets
release-targets : (org : Organisation) (input : Input) → targets (hub_release org input).items ≡ map send_target (content_in org input).sent
release-targets org input =
    targets-drafts input.number input.release 0 (distinct (draft_texts (drafts_in org input))) (drafts_in org input)
    ∙ all-targets (letter_of input (base_message input.number input.submission.bytes)) input.submission.reverse (taken_in org input) (content_in org input)

sent-distinct : (case : Case) (before : Option (List Gate)) (opened : List Gate) → are_distinct (map send_target (content case before opened).sent) ≡ true
sent-distinct case before opened = at case.too_many before
  where
    at : (b : Bool) (before : Option (List Gate)) → are_distinct (map send_target (if b then too_many_content before
        else content_of case.setting.directory case.rules (news case before opened) (unknown_now case before opened)).sent) ≡ true
    at true None = refl
    at true (Some before) = refl
    at false before = filter-distinct _ (sends_in case opened) (firsts-distinct (kept (judged_in case opened) ++ beside (judged_in case opened)))

pub targets_once : (org : Organisation) (input : Input) → are_distinct (targets (hub_release org input).items) ≡ true
targets_once org input =
    subst (λ xs. are_distinct xs ≡ true) (sym (release-targets org input)) (sent-distinct (case_in org input) input.before input.opened)

among-targets : (org : Organisation) (input : Input) (target : List ℕ) → is_among target (targets (hub_release org input).items) ≡ is_target (content_in org input).sent target
among-targets org input target = ap (is_among target) (release-targets org input) ∙ among-target (content_in org input).sent target

-- What expanding gives grows as gates are opened.
abbrev Grows : Case → Type 0
Grows case = (opened more : List Gate) → ExpansionGrows (opened ++ more) (case.expand opened) (case.expand (opened ++ more))

sent-later : (case : Case) → Grows case → (before : Option (List Gate)) (opened more opened' : List Gate) (target : List ℕ) →
    is_target (content case before opened).sent target ≡ true → is_target (content case (Some (opened ++ more)) opened').sent target ≡ false
sent-later case grows before opened more opened' target h = at case.too_many h
  where
    at : (b : Bool) →
        is_target (if b then too_many_content before else content_of case.setting.directory case.rules (news case before opened) (unknown_now case before opened)).sent target ≡ true →
        is_target (if b then too_many_content (Some (opened ++ more))
        else content_of case.setting.directory case.rules (news case (Some (opened ++ more)) opened') (unknown_now case (Some (opened ++ more)) opened')).sent target ≡ false
    at true h = refl
    at false h =
        left-out (sends_in case (opened ++ more)) (sends_in case opened') target
        (sent-grows case opened (opened ++ more) (opens-more opened more) (grows opened more) target
        (filter-within _ (sends_in case opened) target h))

-- later inputs of one submission have one case
same-case : (org : Organisation) (n n' a a' : ℕ) (s s' : Submitted) → n' ≡ n → a' ≡ a → s' ≡ s → case_at org n' a' s' ≡ case_at org n a s
same-case org n n' a a' s s' en ea es =
    ap (λ x. case_at org x a' s') en ∙ (ap (λ x. case_at org n x s') ea ∙ ap (λ (x : Submitted). case_at org n a x) es)

later-content : (org : Organisation) (earlier later : Input) (c : Continues earlier later) →
    content_in org later ≡ content (case_in org earlier) (Some (earlier.opened ++ c.more)) later.opened
later-content org earlier later c =
    ap (λ (case : Case). content case later.before later.opened)
    (same-case org earlier.number later.number earlier.accepted_at later.accepted_at earlier.submission later.submission c.number c.accepted_at c.submission)
    ∙ ap (λ (b : Option (List Gate)). content (case_in org earlier) b later.opened) c.opened

grows-in : (org : Organisation) (input : Input) → Grows (case_in org input)
grows-in org input opened more = expands org.register input.submission.recipients input.submission.reverse opened more

pub sent_once : (org : Organisation) (earlier later : Input) → Continues earlier later → (target : List ℕ) →
    is_among target (targets (hub_release org earlier).items) ≡ true → is_among target (targets (hub_release org later).items) ≡ false
sent_once org earlier later c target h =
    among-targets org later target
    ∙ (ap (λ (those : Content). is_target those.sent target) (later-content org earlier later c)
    ∙ sent-later (case_in org earlier) (grows-in org earlier) earlier.before earlier.opened c.more later.opened target (sym (among-targets org earlier target) ∙ h))

-- gates
met-distinct : (org : Organisation) (number accepted_at : ℕ) (submission : Submitted) (opened : List Gate) → are_distinct_gates (met_in (case_at org number accepted_at submission) opened) ≡ true
met-distinct org number accepted_at submission opened =
    held-distinct (expansion org.register submission.recipients submission.reverse opened).closed (judged_in (case_at org number accepted_at submission) opened) org.book.rules
    (closed-distinct org.register (λ k. false) (filter (λ (w : Way). is_closed org.register submission.reverse opened w.key) (all_ways org.register (is_closed org.register submission.reverse opened) submission.recipients)))

holds-distinct : (case : Case) (before : Option (List Gate)) (opened : List Gate) → are_distinct_gates (met_in case opened) ≡ true →
    are_distinct_gates (gates_of (content case before opened).holds) ≡ true
holds-distinct case before opened once = at case.too_many before
  where
    at : (b : Bool) (before : Option (List Gate)) → are_distinct_gates (gates_of (if b then too_many_content before
        else content_of case.setting.directory case.rules (news case before opened) (unknown_now case before opened)).holds) ≡ true
    at true None = refl
    at true (Some before) = refl
    at false before =
        subst (λ xs. are_distinct_gates xs ≡ true) (sym (gates-held case.setting.directory case.rules (news case before opened).met)) (gate-distinct _ (met_in case opened) once)

pub gates_once : (org : Organisation) (input : Input) → are_distinct_gates (gates_of (hub_release org input).holds) ≡ true
gates_once org input = holds-distinct (case_in org input) input.before input.opened (met-distinct org input.number input.accepted_at input.submission input.opened)

fails : (a b : Bool) → (a || b) ≡ true → (not a && not b) ≡ false
fails true b h = refl
fails false true h = refl
fails false false h = sym h

held-in : (case : Case) (before : Option (List Gate)) (opened : List Gate) (gate : Gate) →
    is_gate_among gate (gates_of (content_of case.setting.directory case.rules (news case before opened) (unknown_now case before opened)).holds) ≡ is_opened (news case before opened).met gate
held-in case before opened gate = ap (is_gate_among gate) (gates-held case.setting.directory case.rules (news case before opened).met)

met-later : (case : Case) → Grows case → (before : Option (List Gate)) (opened more opened' : List Gate) (gate : Gate) →
    is_gate_among gate (gates_of (content case before opened).holds) ≡ true → is_gate_among gate (gates_of (content case (Some (opened ++ more)) opened').holds) ≡ false
met-later case grows before opened more opened' gate h = at case.too_many h
  where
    at : (b : Bool) →
        is_gate_among gate (gates_of (if b then too_many_content before else content_of case.setting.directory case.rules (news case before opened) (unknown_now case before opened)).holds) ≡ true →
        is_gate_among gate (gates_of (if b then too_many_content (Some (opened ++ more))
        else content_of case.setting.directory case.rules (news case (Some (opened ++ more)) opened') (unknown_now case (Some (opened ++ more)) opened')).holds) ≡ false
    at true h = refl
    at false h =
        held-in case (Some (opened ++ more)) opened' gate
        ∙ gate-out (is_new_gate (opened ++ more) (plan case (opened ++ more))) (met_in case opened') gate
        (fails (is_opened (met_in case (opened ++ more)) gate) (is_opened (opened ++ more) gate)
        (met-grows case opened (opened ++ more) (opens-more opened more) (grows opened more) gate
        (gate-within _ (met_in case opened) gate (sym (held-in case before opened gate) ∙ h))))

pub met_once : (org : Organisation) (earlier later : Input) → Continues earlier later → (gate : Gate) →
    is_gate_among gate (gates_of (hub_release org earlier).holds) ≡ true → is_gate_among gate (gates_of (hub_release org later).holds) ≡ false
met_once org earlier later c gate h =
    ap (λ (those : Content). is_gate_among gate (gates_of those.holds)) (later-content org earlier later c)
    ∙ met-later (case_in org earlier) (grows-in org earlier) earlier.before earlier.opened c.more later.opened gate h

-- plans grow
pub plans-grow : (org : Organisation) (input : Input) (opened more : List Gate) →
    PlanGrows (opened ++ more) (plan (case_of org input (base_message input.number input.submission.bytes)) opened)
    (plan (case_of org input (base_message input.number input.submission.bytes)) (opened ++ more))
plans-grow org input opened more = record {
  sent = sent-grows (case_in org input) opened (opened ++ more) (opens-more opened more) (grows-in org input opened more);
  refused = refused-grow (case_in org input) opened (opened ++ more) (opens-more opened more) (grows-in org input opened more);
  met = met-grows (case_in org input) opened (opened ++ more) (opens-more opened more) (grows-in org input opened more);
}
