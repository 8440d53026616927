-- What the first pass keeps, and the directory that it gives.
use Rattle.std.specs.Prelude.{◌≡◌, ◌≢◌, ◌≤◌, ◌+◌, ◌==◌, ℕ, zero, suc, Bool, true, false, not, cond, if◌then◌else◌, nat_lt, ◌||◌, ◌&&◌, List, [], ◌∷◌, ◌++◌, ◌⊎◌, codes, length, map, slice_get, Option, Some, None, Result, Ok, Err, refl}
use Rattle.std.proofs.Common.{sym, ◌∙◌, ap, subst, inl, inr, arith, rules, length-append}
use Rattle.std.proofs.lemmas.List.{length-map, map-append}
use Rattle.std.proofs.lemmas.List.Sums.{sum_by-append}
use Rattle.std.specs.List.{list_any, position_from}
use Rattle.std.proofs.lemmas.Iterator.Adapters.{position_from-zero}
use Rattle.std.specs.Str.{bytes_eq}
use Rattle.org_directory.specs.Register.{among, is_group, is_mailbox}
use Rattle.mail_names.specs.Key.{lower}
use Rattle.org_directory.specs.Lines.{answer_in, column, domain_in, fits, has_none, is_domain_name, keep_word, key_in, keys_in, kind_in, line_of, lists_of, may_forward, object_in, object_line, says_nothing, tell_in, words_of}
use Rattle.org_directory.specs.Drafts.{Fits, IsKept}
use Rattle.csv.specs.Reading.{default_config, records, strip_bom}
use Rattle.org_directory.specs.Reading.{Taken, and_then, both_passes, entries_in, entries_of, first_pass, keys_of, none_taken, place_in, placed, register_of, take_line, take_row, Fails}
use Rattle.org_directory.specs.declared.draft.Draft.{Draft}
use Rattle.org_directory.specs.declared.draft.Drafts.{Drafts}
use Rattle.org_directory.specs.declared.draft.Line.{Line}
use Rattle.org_directory.specs.declared.draft.Lists.{Lists}
use Rattle.org_directory.specs.declared.draft.Words.{Words}
use Rattle.org_directory.specs.declared.draft.Line.TheVariants as lines
use Rattle.org_directory.specs.declared.fault.DirectoryFault.{DirectoryFault}
use Rattle.org_directory.specs.declared.fault.DirectoryFault.TheVariants as faults
use Rattle.org_directory.specs.declared.object.Kind.{Kind}
use Rattle.org_directory.specs.declared.object.Object.{Object}
use Rattle.org_directory.proofs.Keys.{key_is_itself}

-- a line that names an object fits
abbrev pub line_fits : Option Line → Bool
line_fits None = true
line_fits (Some (lines.Domain name)) = true
line_fits (Some (lines.Object d)) = fits d.kind d.members d.moderators d.forward d.keep

object-fits : (row : ℕ) (a : Option (List ℕ)) (b : Option Words) (c : Option Lists) → line_fits (object_in row a b c) ≡ true
object-fits row None b c = refl
object-fits row (Some key) None c = refl
object-fits row (Some key) (Some words) None = refl
object-fits row (Some key) (Some words) (Some lists) = by_test (fits words.kind lists.members lists.moderators lists.forward words.keep) refl
  where
    by_test : (b : Bool) → fits words.kind lists.members lists.moderators lists.forward words.keep ≡ b → line_fits (object_in row (Some key) (Some words) (Some lists)) ≡ true
    by_test true e = rw e e
    by_test false e = rw e refl

either : (b : Bool) (u v : Option Line) → line_fits u ≡ true → line_fits v ≡ true → line_fits (if b then u else v) ≡ true
either true u v f g = f
either false u v f g = g

domain-fits : (b : Bool) (name : List ℕ) → line_fits (if b then Some (lines.Domain name) else None) ≡ true
domain-fits true name = refl
domain-fits false name = refl

pub line-fits : (columns row : ℕ) (fields : List (List ℕ)) → line_fits (line_of columns row fields) ≡ true
line-fits columns row fields =
    either (length fields == columns) (if bytes_eq (column fields 1) (codes "domain") then domain_in fields else object_line row fields) None
    (either (bytes_eq (column fields 1) (codes "domain")) (domain_in fields) (object_line row fields)
    (domain-fits (is_domain_name (column fields 0) && says_nothing fields) (lower (column fields 0)))
    (object-fits row (key_in (column fields 0))
    (words_of (kind_in (column fields 1)) (answer_in (column fields 4)) (tell_in (column fields 7)) (answer_in (keep_word fields)))
    (lists_of (keys_in (column fields 2)) (keys_in (column fields 3)) (keys_in (column fields 5)) (keys_in (column fields 6)) (keys_in (column fields 8))))) refl

is-zero : (n : ℕ) → (n == 0) ≡ true → n ≡ 0
is-zero n h = search rules

pub fits-of : (d : Draft) → fits d.kind d.members d.moderators d.forward d.keep ≡ true → Fits d
fits-of d h = record {
  groups_alone = λ off. empty d.members (first (is_group d.kind) (has_none d.members)
      (not (nat_lt 10 (length d.moderators)) && may_forward d.kind (length d.forward) d.keep) h off);
  mailboxes_alone = λ off. alone d.kind d.keep d.forward (last (is_group d.kind || has_none d.members) (not (nat_lt 10 (length d.moderators)))
      (may_forward d.kind (length d.forward) d.keep) h) off;
}
  where
    last : (a b c : Bool) → (a && (b && c)) ≡ true → c ≡ true
    last true true c h = h
    last true false c h = absurd (cc h)
    last false b c h = absurd (cc h)

    -- what is no mailbox forwards to no key
    no-mailbox : (zero-keys one-key keep mailbox : Bool) → (if zero-keys then not keep else (one-key && mailbox)) ≡ true → mailbox ≡ false → zero-keys ≡ true
    no-mailbox true one-key keep mailbox h off = refl
    no-mailbox false true keep mailbox h off = absurd (clash mailbox h off)
      where
        clash : (b : Bool) → b ≡ true → b ≡ false → ⊥
        clash b h off = cc
    no-mailbox false false keep mailbox h off = absurd (cc h)

    none : (ks : List (List ℕ)) → (length ks == 0) ≡ true → ks ≡ []
    none [] h = refl
    none (k ∷ ks) h = let e : length (k ∷ ks) ≡ 0 = is-zero (length (k ∷ ks)) h in absurd (omega (arith, e))

    alone : (kind : Kind) (keep : Bool) (ks : List (List ℕ)) → may_forward kind (length ks) keep ≡ true → is_mailbox kind ≡ false → ks ≡ []
    alone kind keep ks h off = none ks (no-mailbox (length ks == 0) (length ks == 1) keep (is_mailbox kind) h off)

    first : (a b c : Bool) → ((a || b) && c) ≡ true → a ≡ false → b ≡ true
    first true b c h e = absurd (cc e)
    first false true c h e = refl
    first false false c h e = absurd (cc h)

    empty : (ks : List (List ℕ)) → has_none ks ≡ true → ks ≡ []
    empty [] h = refl
    empty (k ∷ ks) h = absurd (cc h)

-- the last of a list
pub get-push : {X : Type 0} (xs : List X) (x y : X) (p : ℕ) → slice_get (xs ++ x ∷ []) p ≡ Some y → (slice_get xs p ≡ Some y) ⊎ ((p ≡ length xs) × (y ≡ x))
get-push [] x y zero h = inr (refl, cc h)
get-push [] x y (suc p) h = absurd (cc h)
get-push (z ∷ zs) x y zero h = inl h
get-push (z ∷ zs) x y (suc p) h = later (get-push zs x y p h)
  where
    later : (slice_get zs p ≡ Some y) ⊎ ((p ≡ length zs) × (y ≡ x)) → (slice_get (z ∷ zs) (suc p) ≡ Some y) ⊎ ((suc p ≡ length (z ∷ zs)) × (y ≡ x))
    later (inl a) = inl a
    later (inr b) = inr (ap suc b.0, b.1)

pub get-map : {X Y : Type 0} (f : X → Y) (xs : List X) (p : ℕ) (y : Y) → slice_get (map f xs) p ≡ Some y → (x : X) × (slice_get xs p ≡ Some x) × (y ≡ f x)
get-map f [] p y h = absurd (cc h)
get-map f (x ∷ xs) zero y h = (x, refl, cc h)
get-map f (x ∷ xs) (suc p) y h = get-map f xs p y h

-- places behind a push
place-from : (named : List (List ℕ)) (key : List ℕ) → place_in named key ≡ position_from (bytes_eq key) 0 named
place-from named key = position_from-zero (bytes_eq key) named

from-old : (t : List ℕ → Bool) (i : ℕ) (xs : List (List ℕ)) (x : List ℕ) (q : ℕ) → position_from t i xs ≡ Some q → position_from t i (xs ++ x ∷ []) ≡ Some q
from-old t i [] x q h = absurd (cc h)
from-old t i (y ∷ ys) x q h = by_test (λ h. from-old t (i + 1) ys x q h) (t y) h
  where
    by_test : (position_from t (i + 1) ys ≡ Some q → position_from t (i + 1) (ys ++ x ∷ []) ≡ Some q) → (b : Bool)
        → cond b (Some i) (position_from t (i + 1) ys) ≡ Some q → cond b (Some i) (position_from t (i + 1) (ys ++ x ∷ [])) ≡ Some q
    by_test again true h = h
    by_test again false h = again h

from-new : (t : List ℕ → Bool) (i : ℕ) (xs : List (List ℕ)) (x : List ℕ) → list_any t xs ≡ false → t x ≡ true → position_from t i (xs ++ x ∷ []) ≡ Some (i + length xs)
from-new t i [] x h e =
    let none : i ≡ i + length {A = List ℕ} [] = omega arith in
    rw e (ap Some none)
from-new t i (y ∷ ys) x h e = by_test (λ h. from-new t (i + 1) ys x h e) (t y) h
  where
    by_test : (list_any t ys ≡ false → position_from t (i + 1) (ys ++ x ∷ []) ≡ Some ((i + 1) + length ys)) → (b : Bool) → (b || list_any t ys) ≡ false
        → cond b (Some i) (position_from t (i + 1) (ys ++ x ∷ [])) ≡ Some (i + length (y ∷ ys))
    by_test again true h = absurd (cc h)
    by_test again false h =
        let same : (i + 1) + length ys ≡ i + length (y ∷ ys) = omega arith in
        again h ∙ ap Some same

pub none-kept : (d : Drafts) → d.keys ≡ [] → d.drafts ≡ [] → d.entries ≡ 0 → IsKept d
none-kept d keys drafts entries = record {
  keys = keys ∙ ap keys_of (sym drafts);
  entries = entries ∙ ap entries_of (sym drafts);
  few = subst (λ ds. length ds ≤ 20000) (sym drafts) (omega arith);
  few_entries = omega (arith, entries);
  once = λ p x h. absurd (nothing d.drafts p x drafts h);
  fitting = λ p x h. absurd (nothing d.drafts p x drafts h);
  each_few = λ p x h. absurd (nothing d.drafts p x drafts h);
}
  where
    nothing : (ds : List Draft) (p : ℕ) (x : Draft) → ds ≡ [] → slice_get ds p ≡ Some x → ⊥
    nothing [] p x e h = cc h
    nothing (y ∷ ys) p x e h = cc e

not-less : (a b : ℕ) → nat_lt a b ≡ false → b ≤ a
not-less a b h = grind arith

both-off : (b c : Bool) → (b || c) ≡ false → (b ≡ false) × (c ≡ false)
both-off true c h = absurd (cc h)
both-off false c h = (refl, h)

-- What isn't past the limits keeps that of entries.
pub few-entries : (objects entries : ℕ) → (nat_lt 20000 objects || nat_lt 200000 entries) ≡ false → entries ≤ 200000
few-entries objects entries h = not-less 200000 entries (both-off (nat_lt 20000 objects) (nat_lt 200000 entries) h).1

-- One more object is kept.
pub kept-push : (old new : Drafts) (d : Draft) → IsKept old → Fits d → new.keys ≡ old.keys ++ d.key ∷ [] → new.drafts ≡ old.drafts ++ d ∷ []
    → new.entries ≡ old.entries + entries_in d → (nat_lt 20000 (length old.drafts + 1) || nat_lt 200000 (old.entries + entries_in d)) ≡ false
    → among d.key old.keys ≡ false → IsKept new
kept-push old new d kept fitting keys drafts entries room absent =
    let off = both-off (nat_lt 20000 (length old.drafts + 1)) (nat_lt 200000 (old.entries + entries_in d)) room in
    let objects : length old.drafts + 1 ≤ 20000 = not-less 20000 (length old.drafts + 1) off.0 in
    let members : old.entries + entries_in d ≤ 200000 = not-less 200000 (old.entries + entries_in d) off.1 in
    let named : keys_of new.drafts ≡ keys_of old.drafts ++ d.key ∷ [] = ap keys_of drafts ∙ map-append (λ (x : Draft). x.key) old.drafts (d ∷ []) in
    let sized : length new.drafts ≡ length old.drafts + 1 = ap length drafts ∙ length-append old.drafts (d ∷ []) in
    let sum : entries_of (old.drafts ++ d ∷ []) ≡ entries_of old.drafts + entries_of (d ∷ []) = sum_by-append entries_in old.drafts (d ∷ []) in
    let one : entries_of (d ∷ []) ≡ 0 + entries_in d = refl in
    let total : entries_of new.drafts ≡ entries_of old.drafts + entries_in d = ap entries_of drafts ∙ omega (arith, sum, one) in
    record {
      keys = keys ∙ (ap (λ ks. ks ++ d.key ∷ []) kept.keys ∙ sym named);
      entries = omega (arith, entries, kept.entries, total);
      few = omega (arith, sized, objects);
      few_entries = omega (arith, entries, members);
      once = λ p x h. subst (λ ks. place_in ks x.key ≡ Some p) (sym named) (placed-at p x (get-push old.drafts d x p (subst (λ ds. slice_get ds p ≡ Some x) drafts h)));
      fitting = λ p x h. fits-at p x (get-push old.drafts d x p (subst (λ ds. slice_get ds p ≡ Some x) drafts h));
      each_few = λ p x h. few-at members p x (get-push old.drafts d x p (subst (λ ds. slice_get ds p ≡ Some x) drafts h));
    }
  where
    new-key : place_in (keys_of old.drafts ++ d.key ∷ []) d.key ≡ Some (length old.drafts)
    new-key =
        let absent' : list_any (bytes_eq d.key) (keys_of old.drafts) ≡ false = ap (list_any (bytes_eq d.key)) (sym kept.keys) ∙ absent in
        let zero-on : 0 + length (keys_of old.drafts) ≡ length old.drafts = let l = length-map old.drafts (λ (x : Draft). x.key) in omega (arith, l) in
        place-from (keys_of old.drafts ++ d.key ∷ []) d.key
        ∙ (from-new (bytes_eq d.key) 0 (keys_of old.drafts) d.key absent' (key_is_itself d.key) ∙ ap Some zero-on)

    placed-at : (p : ℕ) (x : Draft) → (slice_get old.drafts p ≡ Some x) ⊎ ((p ≡ length old.drafts) × (x ≡ d)) → place_in (keys_of old.drafts ++ d.key ∷ []) x.key ≡ Some p
    placed-at p x (inl h) =
        place-from (keys_of old.drafts ++ d.key ∷ []) x.key
        ∙ from-old (bytes_eq x.key) 0 (keys_of old.drafts) d.key p (sym (place-from (keys_of old.drafts) x.key) ∙ kept.once p x h)
    placed-at p x (inr h) = ap (λ (y : Draft). place_in (keys_of old.drafts ++ d.key ∷ []) y.key) h.1 ∙ (new-key ∙ ap Some (sym h.0))

    fits-at : (p : ℕ) (x : Draft) → (slice_get old.drafts p ≡ Some x) ⊎ ((p ≡ length old.drafts) × (x ≡ d)) → Fits x
    fits-at p x (inl h) = kept.fitting p x h
    fits-at p x (inr h) = subst Fits (sym h.1) fitting

    few-at : old.entries + entries_in d ≤ 200000 → (p : ℕ) (x : Draft) → (slice_get old.drafts p ≡ Some x) ⊎ ((p ≡ length old.drafts) × (x ≡ d)) → entries_in x ≤ 200000
    few-at few p x (inl h) = kept.each_few p x h
    few-at few p x (inr h) = subst (λ (y : Draft). entries_in y ≤ 200000) (sym h.1) (omega (arith, few))

-- A domain changes none of it.
pub kept-same : (old new : Drafts) → IsKept old → new.keys ≡ old.keys → new.drafts ≡ old.drafts → new.entries ≡ old.entries → IsKept new
kept-same old new kept keys drafts entries = record {
  keys = keys ∙ (kept.keys ∙ ap keys_of (sym drafts));
  entries = entries ∙ (kept.entries ∙ ap entries_of (sym drafts));
  few = subst (λ ds. length ds ≤ 20000) (sym drafts) kept.few;
  few_entries = subst (λ n. n ≤ 200000) (sym entries) kept.few_entries;
  once = λ p x h. subst (λ ds. place_in (keys_of ds) x.key ≡ Some p) (sym drafts) (kept.once p x (subst (λ ds. slice_get ds p ≡ Some x) drafts h));
  fitting = λ p x h. kept.fitting p x (subst (λ ds. slice_get ds p ≡ Some x) drafts h);
  each_few = λ p x h. kept.each_few p x (subst (λ ds. slice_get ds p ≡ Some x) drafts h);
}

pub take-object : (t : Taken) (row : ℕ) (d : Draft) → (nat_lt 20000 (length t.drafts + 1) || nat_lt 200000 (entries_of t.drafts + entries_in d)) ≡ false
    → among d.key (keys_of t.drafts) ≡ false → take_line t row (Some (lines.Object d)) ≡ Ok (record t { rows = row; drafts = t.drafts ++ d ∷ [] })
take-object t row d room absent = rw (room, absent) refl

-- answers to a fault
pub fails-is : {X : Type 0} (e : DirectoryFault) (r : Result X DirectoryFault) → r ≡ Err e → Fails e r
fails-is faults.NoMemory r h = tt
fails-is (faults.BadRow row) r h = h
fails-is (faults.DoubleKey row) r h = h
fails-is (faults.UnknownMember row) r h = h
fails-is (faults.NoModerators row) r h = h
fails-is (faults.TooMany row) r h = h

pub fails-then : {X Y : Type 0} (e : DirectoryFault) (r : Result X DirectoryFault) (more : X → Result Y DirectoryFault) → Fails e r → Fails e (and_then r more)
fails-then faults.NoMemory r more h = tt
fails-then (faults.BadRow row) r more h = ap (λ x. and_then x more) h
fails-then (faults.DoubleKey row) r more h = ap (λ x. and_then x more) h
fails-then (faults.UnknownMember row) r more h = ap (λ x. and_then x more) h
fails-then (faults.NoModerators row) r more h = ap (λ x. and_then x more) h
fails-then (faults.TooMany row) r more h = ap (λ x. and_then x more) h

-- the pass over the rows that are left
pub pass-more : (whole : Result Taken DirectoryFault) (t u : Taken) (f : List (List ℕ)) (rows later : List (List (List ℕ)))
    → whole ≡ first_pass t rows → rows ≡ f ∷ later → take_row t f ≡ Ok u → whole ≡ first_pass u later
pass-more whole t u f rows later h is took = h ∙ (ap (first_pass t) is ∙ ap (λ x. and_then x (λ v. first_pass v later)) took)

pub pass-fails : (whole : Result Taken DirectoryFault) (t : Taken) (e : DirectoryFault) (f : List (List ℕ)) (rows later : List (List (List ℕ)))
    → whole ≡ first_pass t rows → rows ≡ f ∷ later → Fails e (take_row t f) → Fails e whole
pass-fails whole t e f rows later h is fails =
    subst (Fails e) (sym (h ∙ ap (first_pass t) is)) (fails-then e (take_row t f) (λ v. first_pass v later) fails)

pub pass-ends : (whole : Result Taken DirectoryFault) (t : Taken) (rows : List (List (List ℕ))) → whole ≡ first_pass t rows → rows ≡ []
    → (t.rows == 0) ≡ false → whole ≡ Ok t
pass-ends whole t rows h is some = h ∙ (ap (first_pass t) is ∙ ap (λ b. if b then Err (faults.BadRow 1) else Ok t) some)

pub pass-empty : (whole : Result Taken DirectoryFault) (t : Taken) (rows : List (List (List ℕ))) → whole ≡ first_pass t rows → rows ≡ []
    → (t.rows == 0) ≡ true → whole ≡ Err (faults.BadRow 1)
pass-empty whole t rows h is none = h ∙ (ap (first_pass t) is ∙ ap (λ b. if b then Err (faults.BadRow 1) else Ok t) none)

pub no-rows : (n : ℕ) → n ≡ 0 → (n == 0) ≡ true
no-rows n h = search rules

pub some-rows : (n : ℕ) → n ≢ 0 → (n == 0) ≡ false
some-rows n h = search rules

-- what a text reads to
pub register-then : (text : List ℕ) (t : Taken) → nat_lt 16777216 (length text) ≡ false → first_pass none_taken (records default_config (strip_bom text)) ≡ Ok t
    → register_of text ≡ both_passes t
register-then text t short h =
    ap (λ b. if b then Err (faults.BadRow 1) else and_then (first_pass none_taken (records default_config (strip_bom text))) both_passes) short
    ∙ ap (λ x. and_then x both_passes) h

pub register-fails : (text : List ℕ) (e : DirectoryFault) → nat_lt 16777216 (length text) ≡ false
    → Fails e (first_pass none_taken (records default_config (strip_bom text))) → Fails e (register_of text)
register-fails text e short h =
    subst (Fails e) (sym (ap (λ b. if b then Err (faults.BadRow 1) else and_then (first_pass none_taken (records default_config (strip_bom text))) both_passes) short))
    (fails-then e (first_pass none_taken (records default_config (strip_bom text))) both_passes h)

pub not-long : (n : ℕ) → n ≤ 16777216 → nat_lt 16777216 n ≡ false
not-long n h = grind arith

pub map-keys : (named : List (List ℕ)) (ds : List Draft) → map (λ (o : Object). o.key) (map (placed named) ds) ≡ keys_of ds
map-keys named [] = refl
map-keys named (d ∷ ds) = ap (λ ks. d.key ∷ ks) (map-keys named ds)
