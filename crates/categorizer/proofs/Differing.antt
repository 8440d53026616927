-- What a release has that earlier ones have not.
use Rattle.std.proofs.Common.{◌≡◌, ℕ, ◌+◌, Bool, true, false, ◌||◌, not, if◌then◌else◌, List, [], ◌∷◌, ◌++◌, map, filter, fold, length, bytes_eq, Option, Some, None, refl, sym, ◌∙◌, ap, subst, rules}
use Rattle.mail_names.specs.declared.gate.Gate.{Gate}
use Rattle.mail_names.specs.declared.gate.Gate.TheVariants as gates
use Rattle.journal_report.specs.declared.why.Why.TheVariants as whys
use Rattle.journal_rules.specs.declared.taking.Taken.{Taken}
use Rattle.org_directory.specs.Register.{Register}
use Rattle.rule_terms.specs.declared.rule.Rule.{Rule}
use Rattle.mail_plan.specs.declared.release.Hold.{Hold}
use Rattle.mail_plan.specs.declared.release.ItemKind.TheVariants as kinds
use Rattle.mail_names.specs.Gates.{same_gate}
use Rattle.mail_plan.specs.Planning.{is_among, are_distinct, is_gate_among, are_distinct_gates, is_version, targets, gates_of}
use Rattle.rule_engine.specs.Run.{with_text}
use Rattle.categorizer.specs.declared.parts.Content.{Content}
use Rattle.categorizer.specs.declared.parts.Draft.{Draft}
use Rattle.categorizer.specs.declared.parts.Letter.{Letter}
use Rattle.categorizer.specs.declared.parts.Loss.{Loss}
use Rattle.categorizer.specs.declared.parts.Send.{Send}
use Rattle.categorizer.specs.Plan.{is_target, with_send, firsts}
use Rattle.categorizer.specs.Releasing.{items_from, version_of, request_to, text_at, asked, with_request, with_requests, notice_of, with_notice, with_notices, with_told, report_at, with_reports, drafts_of, hold_of}
use Rattle.categorizer.proofs.Lists.{is_opened, same_bytes, or_right, or_map}
use Rattle.categorizer.proofs.Naming.{and_true, and_parts, of_not, false_of, distinct-fold}

abbrev pub send_target : Send → List ℕ
send_target send = send.target

-- the targets among drafts
abbrev pub draft_targets : List Draft → List (List ℕ)
draft_targets [] = []
draft_targets (draft ∷ drafts) = if is_version draft.kind then draft.folder ∷ draft_targets drafts else draft_targets drafts

cons-same : (b : Bool) (folder : List ℕ) (xs ys : List (List ℕ)) → xs ≡ ys → (if b then folder ∷ xs else xs) ≡ (if b then folder ∷ ys else ys)
cons-same true folder xs ys e = ap (λ zs. folder ∷ zs) e
cons-same false folder xs ys e = e

pub targets-drafts : (number release place : ℕ) (texts : List (List ℕ)) (drafts : List Draft) → targets (items_from number release place texts drafts) ≡ draft_targets drafts
targets-drafts number release place texts [] = refl
targets-drafts number release place texts (draft ∷ drafts) =
    cons-same (is_version draft.kind) draft.folder _ _ (targets-drafts number release (place + 1) texts drafts)

cons-append : (b : Bool) (folder : List ℕ) (xs ys zs : List (List ℕ)) → zs ≡ xs ++ ys → (if b then folder ∷ zs else zs) ≡ (if b then folder ∷ xs else xs) ++ ys
cons-append true folder xs ys zs e = ap (λ ws. folder ∷ ws) e
cons-append false folder xs ys zs e = e

draft_targets-append : (xs ys : List Draft) → draft_targets (xs ++ ys) ≡ draft_targets xs ++ draft_targets ys
draft_targets-append [] ys = refl
draft_targets-append (draft ∷ xs) ys = cons-append (is_version draft.kind) draft.folder _ _ _ (draft_targets-append xs ys)

append-nil : (xs : List (List ℕ)) → xs ++ [] ≡ xs
append-nil [] = refl
append-nil (x ∷ xs) = ap (λ ys. x ∷ ys) (append-nil xs)

-- what is no version adds no target
behind-none : (xs ys : List Draft) → draft_targets ys ≡ [] → draft_targets (xs ++ ys) ≡ draft_targets xs
behind-none xs ys none = draft_targets-append xs ys ∙ (ap (λ zs. draft_targets xs ++ zs) none ∙ append-nil (draft_targets xs))

versions-targets : (sends : List Send) → draft_targets (map version_of sends) ≡ map send_target sends
versions-targets [] = refl
versions-targets (send ∷ sends) = ap (λ xs. send.target ∷ xs) (versions-targets sends)

requests-none : (text : List ℕ) (moderators : List (List ℕ)) → draft_targets (map (request_to text) moderators) ≡ []
requests-none text [] = refl
requests-none text (moderator ∷ moderators) = requests-none text moderators

requests-targets : (letter : Letter) (drafts : List Draft) (gate : ℕ) (holds : List Hold) → draft_targets (with_requests letter drafts gate holds) ≡ draft_targets drafts
requests-targets letter drafts gate [] = refl
requests-targets letter drafts gate (hold ∷ holds) =
    requests-targets letter (with_request letter drafts gate hold) (gate + 1) holds
    ∙ behind-none drafts (map (request_to (text_at letter (length drafts) hold.moderators (asked letter gate hold))) hold.moderators)
    (requests-none (text_at letter (length drafts) hold.moderators (asked letter gate hold)) hold.moderators)

notices-targets : (letter : Letter) (to : List ℕ) (drafts : List Draft) (losses : List Loss) → draft_targets (with_notices letter to drafts losses) ≡ draft_targets drafts
notices-targets letter to drafts [] = refl
notices-targets letter to drafts (loss ∷ losses) =
    notices-targets letter to (with_notice letter to drafts loss) losses
    ∙ behind-none drafts (record { folder = to; kind = kinds.Notice; why = whys.Direct; text = text_at letter (length drafts) (to ∷ []) (notice_of loss) } ∷ []) refl

told-targets : (letter : Letter) (sender : Option (List ℕ)) (drafts : List Draft) (losses : List Loss) → draft_targets (with_told letter sender drafts losses) ≡ draft_targets drafts
told-targets letter None drafts losses = refl
told-targets letter (Some to) drafts losses = notices-targets letter to drafts losses

reports-targets : (letter : Letter) (sender : Option (List ℕ)) (sends : List Send) (drafts : List Draft) (all : List Taken) → draft_targets (with_reports letter sender sends drafts all) ≡ draft_targets drafts
reports-targets letter sender sends drafts [] = refl
reports-targets letter sender sends drafts (taken ∷ others) =
    reports-targets letter sender sends (drafts ++ report_at letter sender sends (length drafts) taken ∷ []) others
    ∙ behind-none drafts (report_at letter sender sends (length drafts) taken ∷ []) refl

-- the targets of a release are those of its new sends
pub all-targets : (letter : Letter) (sender : Option (List ℕ)) (taken : List Taken) (content : Content) → draft_targets (drafts_of letter sender taken content) ≡ map send_target content.sent
all-targets letter sender taken content =
    let reported : List Draft = with_reports letter sender content.sent (map version_of content.sent) taken in
    told-targets letter sender (with_requests letter reported 0 content.holds) content.losses
    ∙ (requests-targets letter reported 0 content.holds
    ∙ (reports-targets letter sender content.sent (map version_of content.sent) taken ∙ versions-targets content.sent))

pub among-target : (sends : List Send) (target : List ℕ) → is_among target (map send_target sends) ≡ is_target sends target
among-target [] target = refl
among-target (send ∷ sends) target = ap (λ b. bytes_eq target send.target || b) (among-target sends target)

-- `firsts` has each target once
map-with : (sends : List Send) (send : Send) (b : Bool) → map send_target (if b then sends else sends ++ send ∷ []) ≡ (if b then map send_target sends else map send_target sends ++ send.target ∷ [])
map-with sends send true = refl
map-with sends send false = map-push sends send
  where
    map-push : (sends : List Send) (send : Send) → map send_target (sends ++ send ∷ []) ≡ map send_target sends ++ send.target ∷ []
    map-push [] send = refl
    map-push (other ∷ sends) send = ap (λ xs. other.target ∷ xs) (map-push sends send)

map-fold : (more sends : List Send) → map send_target (fold with_send sends more) ≡ fold with_text (map send_target sends) (map send_target more)
map-fold [] sends = refl
map-fold (send ∷ more) sends =
    map-fold more (with_send sends send)
    ∙ ap (λ xs. fold with_text xs (map send_target more))
    (map-with sends send (is_target sends send.target)
    ∙ ap (λ b. if b then map send_target sends else map send_target sends ++ send.target ∷ []) (sym (among-target sends send.target)))

pub firsts-distinct : (sends : List Send) → are_distinct (map send_target (firsts sends)) ≡ true
firsts-distinct sends = subst (λ xs. are_distinct xs ≡ true) (sym (map-fold sends [])) (distinct-fold (map send_target sends) [] refl)

filter-within-at : (send : Send) (sends : List Send) (rest : List Send) (target : List ℕ) (b : Bool) →
    (is_target rest target ≡ true → is_target sends target ≡ true) → is_target (if b then send ∷ rest else rest) target ≡ true → is_target (send ∷ sends) target ≡ true
filter-within-at send sends rest target true step h = or_map (bytes_eq target send.target) (is_target rest target) (bytes_eq target send.target) (is_target sends target) (λ e. e) step h
filter-within-at send sends rest target false step h = or_right (bytes_eq target send.target) (is_target sends target) (step h)

pub filter-within : (p : Send → Bool) (sends : List Send) (target : List ℕ) → is_target (filter p sends) target ≡ true → is_target sends target ≡ true
filter-within p [] target h = h
filter-within p (send ∷ sends) target h = filter-within-at send sends (filter p sends) target (p send) (filter-within p sends target) h

filter-distinct-at : (send : Send) (rest : List Send) (b : Bool) → are_distinct (map send_target rest) ≡ true → is_target rest send.target ≡ false →
    are_distinct (map send_target (if b then send ∷ rest else rest)) ≡ true
filter-distinct-at send rest true h e =
    and_true (not (is_among send.target (map send_target rest))) (are_distinct (map send_target rest))
    (ap not (among-target rest send.target ∙ e)) h
filter-distinct-at send rest false h e = h

pub filter-distinct : (p : Send → Bool) (sends : List Send) → are_distinct (map send_target sends) ≡ true → are_distinct (map send_target (filter p sends)) ≡ true
filter-distinct p [] h = refl
filter-distinct p (send ∷ sends) h =
    let parts = and_parts (not (is_among send.target (map send_target sends))) (are_distinct (map send_target sends)) h in
    filter-distinct-at send (filter p sends) (p send) (filter-distinct p sends parts.1)
    (false_of (is_target (filter p sends) send.target) (is_target sends send.target) (filter-within p sends send.target)
    (sym (among-target sends send.target) ∙ of_not (is_among send.target (map send_target sends)) parts.0))

left-out-at : (before rest : List Send) (send : Send) (target : List ℕ) (b : Bool) → is_target before send.target ≡ b → is_target before target ≡ true →
    is_target rest target ≡ false → is_target (if not b then send ∷ rest else rest) target ≡ false
left-out-at before rest send target true e h step = step
left-out-at before rest send target false e h step =
    none (bytes_eq target send.target) (is_target rest target)
    (λ same. let f : true ≡ false = sym (subst (λ k. is_target before k ≡ true) (same_bytes target send.target same) h) ∙ e in cc) step
  where
    none : (a b : Bool) → (a ≡ true → ⊥) → b ≡ false → (a || b) ≡ false
    none true b f e = absurd (f refl)
    none false b f e = e

-- a target that was sent before is left out
pub left-out : (before sends : List Send) (target : List ℕ) → is_target before target ≡ true → is_target (filter (λ (send : Send). not (is_target before send.target)) sends) target ≡ false
left-out before [] target h = refl
left-out before (send ∷ sends) target h = left-out-at before _ send target (is_target before send.target) refl h (left-out before sends target h)

-- gates
pub same_gates : (a b : Gate) → same_gate a b ≡ true → a ≡ b
same_gates (gates.Object key) (gates.Object other) h = ap (λ k. gates.Object k) (same_bytes key other h)
same_gates (gates.Object key) (gates.Rule place) h = cc
same_gates (gates.Rule place) (gates.Object key) h = cc
same_gates (gates.Rule place) (gates.Rule other) h = let e : place ≡ other = search rules in ap (λ n. gates.Rule n) e

hold-gate : (register : Register) (those : List Rule) (gate : Gate) → (hold_of register those gate).gate ≡ gate
hold-gate register those (gates.Object key) = refl
hold-gate register those (gates.Rule place) = refl

pub gates-held : (register : Register) (those : List Rule) (met : List Gate) → gates_of (map (hold_of register those) met) ≡ met
gates-held register those [] = refl
gates-held register those (gate ∷ met) =
    ap (λ (g : Gate). g ∷ gates_of (map (hold_of register those) met)) (hold-gate register those gate) ∙ ap (λ xs. gate ∷ xs) (gates-held register those met)

gate-within-at : (one : Gate) (all rest : List Gate) (gate : Gate) (b : Bool) → (is_opened rest gate ≡ true → is_opened all gate ≡ true) →
    is_opened (if b then one ∷ rest else rest) gate ≡ true → is_opened (one ∷ all) gate ≡ true
gate-within-at one all rest gate true step h = or_map (same_gate gate one) (is_opened rest gate) (same_gate gate one) (is_opened all gate) (λ e. e) step h
gate-within-at one all rest gate false step h = or_right (same_gate gate one) (is_opened all gate) (step h)

pub gate-within : (p : Gate → Bool) (met : List Gate) (gate : Gate) → is_opened (filter p met) gate ≡ true → is_opened met gate ≡ true
gate-within p [] gate h = h
gate-within p (one ∷ met) gate h = gate-within-at one met (filter p met) gate (p one) (gate-within p met gate) h

gate-distinct-at : (one : Gate) (rest : List Gate) (b : Bool) → are_distinct_gates rest ≡ true → is_opened rest one ≡ false → are_distinct_gates (if b then one ∷ rest else rest) ≡ true
gate-distinct-at one rest true h e = and_true (not (is_gate_among one rest)) (are_distinct_gates rest) (ap not e) h
gate-distinct-at one rest false h e = h

pub gate-distinct : (p : Gate → Bool) (met : List Gate) → are_distinct_gates met ≡ true → are_distinct_gates (filter p met) ≡ true
gate-distinct p [] h = refl
gate-distinct p (one ∷ met) h =
    let parts = and_parts (not (is_gate_among one met)) (are_distinct_gates met) h in
    gate-distinct-at one (filter p met) (p one) (gate-distinct p met parts.1)
    (false_of (is_opened (filter p met) one) (is_opened met one) (gate-within p met one) (of_not (is_gate_among one met) parts.0))

gate-out-at : (p : Gate → Bool) (rest : List Gate) (one gate : Gate) (b : Bool) → p one ≡ b → p gate ≡ false → is_opened rest gate ≡ false →
    is_opened (if b then one ∷ rest else rest) gate ≡ false
gate-out-at p rest one gate true e h step =
    none (same_gate gate one) (is_opened rest gate) (λ same. let f : true ≡ false = sym e ∙ (ap p (sym (same_gates gate one same)) ∙ h) in cc) step
  where
    none : (a b : Bool) → (a ≡ true → ⊥) → b ≡ false → (a || b) ≡ false
    none true b f e = absurd (f refl)
    none false b f e = e
gate-out-at p rest one gate false e h step = step

-- a gate that fails the test is left out
pub gate-out : (p : Gate → Bool) (met : List Gate) (gate : Gate) → p gate ≡ false → is_opened (filter p met) gate ≡ false
gate-out p [] gate h = refl
gate-out p (one ∷ met) gate h = gate-out-at p (filter p met) one gate (p one) refl h (gate-out p met gate h)
