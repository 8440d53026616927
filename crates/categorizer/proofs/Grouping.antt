-- Who is a member of a group is sent to by a route with a group. What is told of a message is clean.
use Rattle.std.proofs.Common.{◌≡◌, ℕ, ◌==◌, nat_lt, nat_le, Bool, true, false, ◌||◌, ◌&&◌, not, if◌then◌else◌, List, [], ◌∷◌, ◌++◌, map, filter, fold, Option, Some, None, refl, ap, arith}
use Rattle.std.specs.List.{AllByRecursion}
use Rattle.std.proofs.lemmas.Bool.Decides.{nat_tests}
use Rattle.mail_names.specs.declared.gate.Gate.{Gate}
use Rattle.mail_names.specs.Steps.{has_forward}
use Rattle.mail_names.specs.declared.route.Step.{Step}
use Rattle.journal_report.specs.declared.why.Why.TheVariants as whys
use Rattle.journal_report.specs.Reports.{is_clean, has_route}
use Rattle.mail_notices.specs.About.{clean_byte, clean, clean_value}
use Rattle.group_expand.specs.declared.outcome.Leaf.{Leaf}
use Rattle.rule_engine.specs.declared.recipient.MadeCopy.{MadeCopy}
use Rattle.rule_engine.specs.declared.recipient.End.{End}
use Rattle.rule_engine.specs.declared.recipient.End.TheVariants as ends
use Rattle.categorizer.specs.declared.parts.Judged.{Judged}
use Rattle.categorizer.specs.declared.parts.Send.{Send}
use Rattle.categorizer.specs.Plan.{Case, route_why, kept_at, redirected, copy_send, beside_of, kept, beside, is_target, with_send, sends, judged_in, plan_before, news}
use Rattle.categorizer.specs.Releasing.{content, content_of, too_many_content, unknown_now}
use Rattle.categorizer.proofs.Naming.{and_true}

abbrev pub Grouped : List Send → Type 0
Grouped all = AllByRecursion (λ (send : Send). has_route send.why ≡ true) all

grouped-append : (xs ys : List Send) → Grouped xs → Grouped ys → Grouped (xs ++ ys)
grouped-append [] ys p q = q
grouped-append (x ∷ xs) ys p q = (p.0, grouped-append xs ys p.1 q)

grouped-filter : (passes : Send → Bool) (xs : List Send) → Grouped xs → Grouped (filter passes xs)
grouped-filter passes [] p = tt
grouped-filter passes (x ∷ xs) p = at (passes x) (grouped-filter passes xs p.1)
  where
    at : (b : Bool) → Grouped (filter passes xs) → Grouped (if b then x ∷ filter passes xs else filter passes xs)
    at true h = (p.0, h)
    at false h = h

grouped-with : (xs : List Send) (x : Send) (b : Bool) → Grouped xs → has_route x.why ≡ true → Grouped (if b then xs else xs ++ x ∷ [])
grouped-with xs x true p h = p
grouped-with xs x false p h = grouped-append xs (x ∷ []) p (h, tt)

grouped-fold : (more xs : List Send) → Grouped xs → Grouped more → Grouped (fold with_send xs more)
grouped-fold [] xs p q = p
grouped-fold (x ∷ more) xs p q = grouped-fold more (with_send xs x) (grouped-with xs x (is_target xs x.target) p q.0) q.1

route-grouped : (route : List Step) → has_route (route_why route) ≡ true
route-grouped [] = refl
route-grouped (step ∷ steps) = by_test (has_forward (step ∷ steps)) refl
  where
    by_test : (b : Bool) → has_forward (step ∷ steps) ≡ b
        → has_route (if b then whys.Through (step ∷ steps) else whys.Via (map (λ (s : Step). s.key) (step ∷ steps))) ≡ true
    by_test true e = e
    by_test false e = refl

kept-at-grouped : (leaf : Leaf) (end : End) → Grouped (kept_at leaf end)
kept-at-grouped leaf (ends.Keep text) = (route-grouped leaf.route, tt)
kept-at-grouped leaf (ends.Redirect target text rule) = tt
kept-at-grouped leaf (ends.Reject rule code words) = tt
kept-at-grouped leaf (ends.Held rule) = tt

kept-grouped : (all : List Judged) → Grouped (kept all)
kept-grouped [] = tt
kept-grouped (one ∷ others) = grouped-append (kept_at one.leaf one.outcome.end) (kept others) (kept-at-grouped one.leaf one.outcome.end) (kept-grouped others)

copies-grouped : (copies : List MadeCopy) → Grouped (map copy_send copies)
copies-grouped [] = tt
copies-grouped (copied ∷ copies) = (refl, copies-grouped copies)

redirect-grouped : (end : End) → Grouped (redirected end)
redirect-grouped (ends.Keep text) = tt
redirect-grouped (ends.Redirect target text rule) = (refl, tt)
redirect-grouped (ends.Reject rule code words) = tt
redirect-grouped (ends.Held rule) = tt

beside-grouped : (all : List Judged) → Grouped (beside all)
beside-grouped [] = tt
beside-grouped (one ∷ others) =
    grouped-append (beside_of one.outcome) (beside others)
    (grouped-append (map copy_send one.outcome.copies) (redirected one.outcome.end) (copies-grouped one.outcome.copies) (redirect-grouped one.outcome.end))
    (beside-grouped others)

sends-grouped : (all : List Judged) → Grouped (sends all)
sends-grouped all = grouped-fold (kept all ++ beside all) [] tt (grouped-append (kept all) (beside all) (kept-grouped all) (beside-grouped all))

pub sent-grouped : (case : Case) (before : Option (List Gate)) (opened : List Gate) → Grouped (content case before opened).sent
sent-grouped case before opened = at case.too_many before
  where
    at : (b : Bool) (before : Option (List Gate)) → Grouped (if b then too_many_content before
        else content_of case.setting.directory case.rules (news case before opened) (unknown_now case before opened)).sent
    at true None = tt
    at true (Some before) = tt
    at false before =
        grouped-filter (λ (send : Send). not (is_target (plan_before case before).sent send.target)) (sends (judged_in case opened)) (sends-grouped (judged_in case opened))

-- clean texts
clean-byte : (b : ℕ) → (nat_le 32 (clean_byte b) && not (clean_byte b == 127)) ≡ true
clean-byte b = at (nat_lt b 32) (b == 127) refl refl
  where
    at : (c d : Bool) → nat_lt b 32 ≡ c → (b == 127) ≡ d → (nat_le 32 (if c || d then 63 else b) && not ((if c || d then 63 else b) == 127)) ≡ true
    at true d e f = refl
    at false true e f = refl
    at false false e f = let g : nat_le 32 b ≡ true = grind (arith, nat_tests) in and_true (nat_le 32 b) (not (b == 127)) g (ap not f)

pub clean-is : (text : List ℕ) → is_clean (clean text) ≡ true
clean-is [] = refl
clean-is (b ∷ text) = and_true (nat_le 32 (clean_byte b) && not (clean_byte b == 127)) (is_clean (clean text)) (clean-byte b) (clean-is text)

pub value-clean : (value : Option (List ℕ)) → is_clean (clean_value value) ≡ true
value-clean None = refl
value-clean (Some value) = clean-is value
