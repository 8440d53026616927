-- What organisations that were read have: rules of their form, and 1 to 10 moderators where an object is moderated.
use Rattle.std.proofs.Common.{◌≡◌, ℕ, zero, suc, ◌+◌, ◌==◌, nat_le, nat_lt, Bool, true, false, ◌||◌, ◌&&◌, not, if◌then◌else◌, List, [], ◌∷◌, ◌++◌, map, length, Option, Some, None, Result, Ok, Err, refl, sym, ap, subst, arith, slice_get}
use Rattle.std.specs.List.{list_any, list_all}
use Rattle.std.proofs.lemmas.Bool.Decides.{nat_tests}
use Rattle.std.proofs.lemmas.Grind.{common_steps}
use Rattle.csv.specs.Reading.{default_config, records, strip_bom}
use Rattle.mail_names.specs.declared.gate.Gate.TheVariants as gates
use Rattle.mail_names.specs.declared.gate.Gate.{Gate}
use Rattle.org_directory.specs.Register.{Register, key_at, object_of, object_at, place_of, is_group}
use Rattle.org_directory.specs.Membership.{is_cleared, object_needs}
use Rattle.org_directory.specs.Lines.{columns_of, line_of, has_none, may_forward}
use Rattle.org_directory.specs.Reading.{Taken, none_taken, begun, entries_in, entries_of, keys_of, take_line, take_row, and_then, first_pass, names_well, fault_of, or_else, second_pass, placed, place_or_0, unless_fault, both_passes, register_of}
use Rattle.org_directory.specs.Register.{among}
use Rattle.org_directory.specs.declared.draft.Draft.{Draft}
use Rattle.org_directory.specs.declared.draft.Line.{Line}
use Rattle.org_directory.specs.declared.draft.Line.TheVariants as lines
use Rattle.org_directory.specs.declared.fault.DirectoryFault.{DirectoryFault}
use Rattle.org_directory.specs.declared.fault.DirectoryFault.TheVariants as faults
use Rattle.org_directory.specs.declared.object.Object.{Object}
use Rattle.org_directory.proofs.Offered.{line_fits, line-fits}
use Rattle.group_expand.specs.Expansion.{opens, is_closed}
use Rattle.rule_terms.specs.declared.rule.Rule.{Rule}
use Rattle.categorizer.specs.Releasing.{hold_of, object_approvers}
use Rattle.categorizer.proofs.Meeting.{is_few}
use Rattle.categorizer.proofs.Naming.{and_true, and_parts, of_not}

-- at most 10 moderators
abbrev is_short : Draft → Bool
is_short d = not (nat_lt 10 (length d.moderators))

abbrev ShortIn : Result Taken DirectoryFault → Type 0
ShortIn (Ok t) = list_all is_short t.drafts ≡ true
ShortIn (Err e) = Unit {0}

all-push : (drafts : List Draft) (d : Draft) → list_all is_short drafts ≡ true → is_short d ≡ true → list_all is_short (drafts ++ d ∷ []) ≡ true
all-push [] d h e = and_true (is_short d) true e refl
all-push (x ∷ drafts) d h e =
    let parts = and_parts (is_short x) (list_all is_short drafts) h in
    and_true (is_short x) (list_all is_short (drafts ++ d ∷ [])) parts.0 (all-push drafts d parts.1 e)

short-if : (b : Bool) (r s : Result Taken DirectoryFault) → ShortIn r → ShortIn s → ShortIn (if b then r else s)
short-if true r s p q = p
short-if false r s p q = q

short-line : (t : Taken) (row : ℕ) (line : Option Line) → list_all is_short t.drafts ≡ true → line_fits line ≡ true → ShortIn (take_line t row line)
short-line t row None h e = tt
short-line t row (Some (lines.Domain name)) h e =
    short-if (among name t.domains) (Err (faults.DoubleKey row)) (Ok (record t { rows = row; domains = t.domains ++ name ∷ [] })) tt h
short-line t row (Some (lines.Object d)) h e =
    short-if (nat_lt 20000 (length t.drafts + 1) || nat_lt 200000 (entries_of t.drafts + entries_in d)) (Err (faults.TooMany row))
    (if among d.key (keys_of t.drafts) then Err (faults.DoubleKey row) else Ok (record t { rows = row; drafts = t.drafts ++ d ∷ [] })) tt
    (short-if (among d.key (keys_of t.drafts)) (Err (faults.DoubleKey row)) (Ok (record t { rows = row; drafts = t.drafts ++ d ∷ [] })) tt
    (all-push t.drafts d h
    (and_parts (is_short d) (may_forward d.kind (length d.forward) d.keep)
    (and_parts (is_group d.kind || has_none d.members) (is_short d && may_forward d.kind (length d.forward) d.keep) e).1).0))

short-begun : (t : Taken) (columns : Option ℕ) → list_all is_short t.drafts ≡ true → ShortIn (begun t columns)
short-begun t None h = tt
short-begun t (Some columns) h = h

short-row : (t : Taken) (fields : List (List ℕ)) → list_all is_short t.drafts ≡ true → ShortIn (take_row t fields)
short-row t fields h =
    short-if (t.rows == 0) (begun t (columns_of fields)) (take_line t (t.rows + 1) (line_of t.columns (t.rows + 1) fields))
    (short-begun t (columns_of fields) h)
    (short-line t (t.rows + 1) (line_of t.columns (t.rows + 1) fields) h (line-fits t.columns (t.rows + 1) fields))

short-then : (r : Result Taken DirectoryFault) (more : Taken → Result Taken DirectoryFault) → ShortIn r → ((t : Taken) → list_all is_short t.drafts ≡ true → ShortIn (more t)) → ShortIn (and_then r more)
short-then (Ok t) more h f = f t h
short-then (Err e) more h f = tt

short-pass : (t : Taken) (rows : List (List (List ℕ))) → list_all is_short t.drafts ≡ true → ShortIn (first_pass t rows)
short-pass t [] h = short-if (t.rows == 0) (Err (faults.BadRow 1)) (Ok t) tt h
short-pass t (fields ∷ rows) h = short-then (take_row t fields) (λ u. first_pass u rows) (short-row t fields h) (λ u g. short-pass u rows g)

-- a moderated object has 1 to 10 moderators
abbrev pub has_few : Object → Bool
has_few o = not o.moderated || (nat_le 1 (length o.moderators) && nat_le (length o.moderators) 10)

length-map : {X Y : Type 0} (f : X → Y) (xs : List X) → length (map f xs) ≡ length xs
length-map f [] = refl
length-map f (x ∷ xs) = ap suc (length-map f xs)

few-length : (n : ℕ) → not (nat_lt 10 n) ≡ true → nat_le n 10 ≡ true
few-length n h = let e : nat_lt 10 n ≡ false = of_not (nat_lt 10 n) h in grind (arith, nat_tests)

some-length : (key : List ℕ) (by : List (List ℕ)) → nat_le 1 (length (key ∷ by)) ≡ true
some-length key by = grind (arith, nat_tests, common_steps)

few-one : (m : Bool) (by : List (List ℕ)) (f : List ℕ → ℕ) → (m && has_none by) ≡ false → not (nat_lt 10 (length by)) ≡ true →
    (not m || (nat_le 1 (length (map f by)) && nat_le (length (map f by)) 10)) ≡ true
few-one false by f h short = refl
few-one true [] f h short = absurd (cc)
few-one true (key ∷ by) f h short =
    and_true (nat_le 1 (length (map f (key ∷ by)))) (nat_le (length (map f (key ∷ by))) 10)
    (subst (λ n. nat_le 1 n ≡ true) (sym (length-map f (key ∷ by))) (some-length key by))
    (subst (λ n. nat_le n 10 ≡ true) (sym (length-map f (key ∷ by))) (few-length (length (key ∷ by)) short))

no-fault : (b c : Bool) (x y : DirectoryFault) → (if b then (if c then Some x else None) else Some y) ≡ None → c ≡ false
no-fault true true x y h = absurd (cc)
no-fault true false x y h = refl
no-fault false c x y h = absurd (cc)

second-few : (named : List (List ℕ)) (drafts ds : List Draft) → second_pass drafts ds ≡ None → list_all is_short ds ≡ true → list_all has_few (map (placed named) ds) ≡ true
second-few named drafts [] h short = refl
second-few named drafts (d ∷ ds) h short =
    let parts = and_parts (is_short d) (list_all is_short ds) short in
    at (fault_of drafts d) refl h
    (λ none rest. and_true (has_few (placed named d)) (list_all has_few (map (placed named) ds))
    (few-one d.moderated d.moderators (place_or_0 named)
    (no-fault (names_well drafts d) (d.moderated && has_none d.moderators) (faults.NoModerators d.row) (faults.UnknownMember d.row) none) parts.0)
    (second-few named drafts ds rest parts.1))
  where
    at : {P : Type 0} (o : Option DirectoryFault) → fault_of drafts d ≡ o → or_else o (second_pass drafts ds) ≡ None →
        (fault_of drafts d ≡ None → second_pass drafts ds ≡ None → P) → P
    at (Some e) is h f = absurd (cc)
    at None is h f = f is h

abbrev pub FewIn : Result Register DirectoryFault → Type 0
FewIn (Ok reg) = list_all has_few reg.objects ≡ true
FewIn (Err e) = Unit {0}

few-passes : (t : Taken) → list_all is_short t.drafts ≡ true → FewIn (both_passes t)
few-passes t short = at (second_pass t.drafts t.drafts) refl
  where
    at : (o : Option DirectoryFault) → second_pass t.drafts t.drafts ≡ o →
        FewIn (unless_fault o (record { domains = t.domains; objects = map (placed (keys_of t.drafts)) t.drafts }))
    at (Some e) is = tt
    at None is = second-few (keys_of t.drafts) t.drafts t.drafts is short

few-then : (r : Result Taken DirectoryFault) → ShortIn r → FewIn (and_then r both_passes)
few-then (Ok t) h = few-passes t h
few-then (Err e) h = tt

few-if : (b : Bool) (e : DirectoryFault) (s : Result Register DirectoryFault) → FewIn s → FewIn (if b then Err e else s)
few-if true e s q = tt
few-if false e s q = q

pub register-few : (text : List ℕ) → FewIn (register_of text)
register-few text =
    few-if (nat_lt 16777216 (length text)) (faults.BadRow 1) (and_then (first_pass none_taken (records default_config (strip_bom text))) both_passes)
    (few-then (first_pass none_taken (records default_config (strip_bom text))) (short-pass none_taken (records default_config (strip_bom text)) refl))

all-get : (objects : List Object) (p : ℕ) (o : Object) → list_all has_few objects ≡ true → slice_get objects p ≡ Some o → has_few o ≡ true
all-get [] p o h e = absurd (none p e)
  where
    none : (p : ℕ) → slice_get [] p ≡ Some o → ⊥
    none zero e = cc
    none (suc p) e = cc
all-get (x ∷ objects) zero o h e =
    let same : x ≡ o = cc in subst (λ (y : Object). has_few y ≡ true) same (and_parts (has_few x) (list_all has_few objects) h).0
all-get (x ∷ objects) (suc p) o h e = all-get objects p o (and_parts (has_few x) (list_all has_few objects) h).1 e

few-object : (reg : Register) (sender : Option (List ℕ)) (o : Option Object) (shown : Bool) → ((x : Object) → o ≡ Some x → has_few x ≡ true) →
    (object_needs reg o sender && not shown) ≡ true → is_few (object_approvers reg o) ≡ true
few-object reg sender None shown few h = absurd (cc)
few-object reg sender (Some x) shown few h =
    at x.moderated (is_cleared reg x sender) (few x refl) (and_parts (x.moderated && not (is_cleared reg x sender)) (not shown) h).0
  where
    at : (m c : Bool) → (not m || (nat_le 1 (length x.moderators) && nat_le (length x.moderators) 10)) ≡ true → (m && not c) ≡ true →
        is_few (map (key_at reg) x.moderators) ≡ true
    at true c f h = subst (λ n. (nat_le 1 n && nat_le n 10) ≡ true) (sym (length-map (key_at reg) x.moderators)) f
    at false c f h = absurd (cc)

-- what is closed has 1 to 10 moderators
pub closed-few : (reg : Register) (those : List Rule) (sender : Option (List ℕ)) (opened : List Gate) → list_all has_few reg.objects ≡ true →
    (key : List ℕ) → is_closed reg sender opened key ≡ true → is_few (hold_of reg those (gates.Object key)).moderators ≡ true
closed-few reg those sender opened few key h =
    few-object reg sender (object_of reg key) (list_any (opens key) opened) (λ x e. got (place_of reg key) x e) h
  where
    got : (p : Option ℕ) (x : Object) → object_at reg p ≡ Some x → has_few x ≡ true
    got None x e = absurd (cc)
    got (Some p) x e = all-get reg.objects p x few e
