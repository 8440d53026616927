-- What the reports of releases list together, and that they list no target twice.
use Rattle.std.proofs.Common.{◌≡◌, ℕ, Bool, true, false, cond, not, List, [], ◌∷◌, ◌++◌, filter, bytes_eq, refl, ap, ◌∙◌, sym, append_assoc, append-nil}
use Rattle.std.specs.List.{AllByRecursion}
use Rattle.std.proofs.lemmas.Bool.{and_parts, and_from, not-true, or_parts, or_from}
use Rattle.std.proofs.lemmas.List.{map-append}
use Rattle.std.proofs.lemmas.List.Elements.{filter-append}
use Rattle.journal_report.specs.declared.parts.Line.{Line}
use Rattle.journal_report.specs.Listed.{ListTogether}
use Rattle.journal_report.proofs.Offered.{go_on, one_lists}
use Rattle.mail_plan.specs.Planning.{Reports, is_among, are_distinct, is_version, targets, lines_of, lines_taken, reports_to}
use Rattle.mail_plan.specs.declared.release.Item.{Item}
use Rattle.mail_plan.specs.declared.release.Release.{Release}
use Rattle.hub_core.specs.Journal.{reports_of, taken_of, listed_targets, AreReported}

-- the targets of the versions of releases, in order
abbrev pub sent : List Release → List (List ℕ)
sent [] = []
sent (plan ∷ plans) = targets plan.items ++ sent plans

pub sent-more : (xs ys : List Release) → sent (xs ++ ys) ≡ sent xs ++ sent ys
sent-more [] ys = refl
sent-more (plan ∷ xs) ys =
    ap (λ (keys : List (List ℕ)). targets plan.items ++ keys) (sent-more xs ys) ∙ sym (append_assoc (targets plan.items) (sent xs) (sent ys))

-- with a release more
pub sent-push : (plans : List Release) (plan : Release) → sent (plans ++ plan ∷ []) ≡ sent plans ++ targets plan.items
sent-push plans plan = sent-more plans (plan ∷ []) ∙ ap (λ (keys : List (List ℕ)). sent plans ++ keys) (append-nil (targets plan.items))

-- The lines of versions that are taken have the targets that are taken.
one-target : (line : Line) (takes : Bool) (lines : List Line) (keys : List (List ℕ)) → listed_targets lines ≡ keys →
    listed_targets (cond takes (line ∷ lines) lines) ≡ cond takes (line.target ∷ keys) keys
one-target line true lines keys e = ap (λ (more : List (List ℕ)). line.target ∷ more) e
one-target line false lines keys e = e

abbrev line_for : Item → Line
line_for item = record { target = item.folder; why = item.why }

abbrev among_lines : (List ℕ → Bool) → List Line → List (List ℕ)
among_lines takes lines = listed_targets (filter (λ (line : Line). takes line.target) lines)

line-targets : (takes : List ℕ → Bool) (items : List Item) → among_lines takes (lines_of items) ≡ filter takes (targets items)
line-targets takes [] = refl
line-targets takes (item ∷ items) = by (is_version item.kind) (line-targets takes items)
  where
    by : (version : Bool) → among_lines takes (lines_of items) ≡ filter takes (targets items) →
        among_lines takes (cond version (line_for item ∷ lines_of items) (lines_of items)) ≡ filter takes (cond version (item.folder ∷ targets items) (targets items))
    by true e = one-target (line_for item) (takes item.folder) (filter (λ (line : Line). takes line.target) (lines_of items)) (filter takes (targets items)) e
    by false e = e

taken-targets : (takes : List ℕ → Bool) (plans : List Release) → listed_targets (taken_of takes plans) ≡ filter takes (sent plans)
taken-targets takes [] = refl
taken-targets takes (plan ∷ plans) =
    map-append (λ (line : Line). line.target) (lines_taken takes plan) (taken_of takes plans)
    ∙ (ap (λ (keys : List (List ℕ)). keys ++ listed_targets (taken_of takes plans)) (line-targets takes plan.items)
    ∙ (ap (λ (keys : List (List ℕ)). filter takes (targets plan.items) ++ keys) (taken-targets takes plans)
    ∙ sym (filter-append takes (targets plan.items) (sent plans))))

-- Of targets that stand once, those that are taken stand once.
still-absent : (takes : List ℕ → Bool) (key : List ℕ) (keys : List (List ℕ)) → is_among key keys ≡ false → is_among key (filter takes keys) ≡ false
still-absent takes key [] h = refl
still-absent takes key (other ∷ keys) h =
    let parts = or_parts (bytes_eq key other) (is_among key keys) h in
    by (takes other) parts.0 (still-absent takes key keys parts.1)
  where
    by : (b : Bool) → bytes_eq key other ≡ false → is_among key (filter takes keys) ≡ false → is_among key (cond b (other ∷ filter takes keys) (filter takes keys)) ≡ false
    by true one more = or_from (bytes_eq key other) (is_among key (filter takes keys)) one more
    by false one more = more

still-distinct : (takes : List ℕ → Bool) (keys : List (List ℕ)) → are_distinct keys ≡ true → are_distinct (filter takes keys) ≡ true
still-distinct takes [] h = refl
still-distinct takes (key ∷ keys) h =
    let parts = and_parts (not (is_among key keys)) (are_distinct keys) h in
    by (takes key) (still-absent takes key keys (not-true (is_among key keys) parts.0)) (still-distinct takes keys parts.1)
  where
    by : (b : Bool) → is_among key (filter takes keys) ≡ false → are_distinct (filter takes keys) ≡ true → are_distinct (cond b (key ∷ filter takes keys) (filter takes keys)) ≡ true
    by true one more = and_from (not (is_among key (filter takes keys))) (are_distinct (filter takes keys)) (ap not one) more
    by false one more = more

together : (mailbox : List ℕ) (takes : List ℕ → List ℕ → Bool) (plans : List Release) → AllByRecursion (Reports takes) plans →
    ListTogether (reports_of mailbox plans) (taken_of (takes mailbox) plans)
together mailbox takes [] all = refl
together mailbox takes (plan ∷ plans) all =
    go_on (reports_to mailbox plan) (reports_of mailbox plans) (lines_taken (takes mailbox) plan) (taken_of (takes mailbox) plans)
    (one_lists (reports_to mailbox plan) (lines_taken (takes mailbox) plan) (all.0 mailbox)) (together mailbox takes plans all.1)

-- Releases each of which is reported, and that send to no target twice, are reported together.
pub are-reported : (mailbox : List ℕ) (takes : List ℕ → List ℕ → Bool) (plans : List Release) → AllByRecursion (Reports takes) plans → are_distinct (sent plans) ≡ true →
    AreReported mailbox (takes mailbox) plans
are-reported mailbox takes plans all once = record {
  listed = together mailbox takes plans all;
  once = ap are_distinct (taken-targets (takes mailbox) plans) ∙ still-distinct (takes mailbox) (sent plans) once;
}
