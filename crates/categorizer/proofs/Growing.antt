-- Plans grow as gates are opened.
use Rattle.std.proofs.Common.{◌≡◌, ℕ, ◌+◌, ◌==◌, Bool, true, false, ◌||◌, if◌then◌else◌, List, [], ◌∷◌, ◌++◌, map, bytes_eq, refl, sym, ◌∙◌, ap, subst, rules}
use Rattle.std.specs.List.{list_any}
use Rattle.std.proofs.lemmas.List.Folds.{list_any-append}
use Rattle.mail_names.specs.declared.gate.Gate.{Gate}
use Rattle.mail_names.specs.declared.gate.Gate.TheVariants as gates
use Rattle.group_expand.specs.declared.outcome.Leaf.{Leaf}
use Rattle.mail_names.specs.Gates.{same_gate}
use Rattle.rule_terms.specs.declared.rule.Rule.{Rule}
use Rattle.rule_engine.specs.declared.recipient.MadeCopy.{MadeCopy}
use Rattle.rule_engine.specs.declared.recipient.End.{End}
use Rattle.rule_engine.specs.declared.recipient.End.TheVariants as ends
use Rattle.rule_engine.specs.declared.recipient.RuleOutcome.{RuleOutcome}
use Rattle.rule_engine.specs.Gates as engine
use Rattle.rule_engine.specs.Gates.{OpensMore}
use Rattle.rule_engine.specs.Growth.{Continues, EndGrows, OutcomeGrows}
use Rattle.rule_engine.proofs.Offered.{fate-grows}
use Rattle.categorizer.specs.declared.parts.Rejection.{Rejection}
use Rattle.categorizer.specs.declared.parts.Send.{Send}
use Rattle.categorizer.specs.Plan.{Case, kept_at, redirected, copy_send, beside_of, is_target, rejected_at, is_rejected, is_held_by, closed_gates}
use Rattle.categorizer.specs.Growth.{ExpansionGrows}
use Rattle.categorizer.proofs.Lists.{is_opened, rule_is_opened, fate_of, kept_in, beside_in, rejected_in, holds_in, held_in, sends_in, rejections_in, met_in, holds-leaves, or_left, or_right, or_map, leaves_pass, is_target-append, is_target-firsts}

-- Whether the outcome of a recipient keeps it, or sends a copy or a redirect, for this target.
abbrev keeps : List ℕ → End → List ℕ → Bool
keeps key (ends.Keep text) target = bytes_eq target key
keeps key (ends.Redirect to text rule) target = false
keeps key (ends.Reject rule code words) target = false
keeps key (ends.Held rule) target = false

or_false : (b : Bool) → (b || false) ≡ b
or_false true = refl
or_false false = refl

kept_at-keeps : (leaf : Leaf) (end : End) (target : List ℕ) → is_target (kept_at leaf end) target ≡ keeps leaf.key end target
kept_at-keeps leaf (ends.Keep text) target = or_false (bytes_eq target leaf.key)
kept_at-keeps leaf (ends.Redirect to text rule) target = refl
kept_at-keeps leaf (ends.Reject rule code words) target = refl
kept_at-keeps leaf (ends.Held rule) target = refl

is_target-kept : (case : Case) (opened : List Gate) (leaves : List Leaf) (target : List ℕ) →
    is_target (kept_in case opened leaves) target ≡ list_any (λ (leaf : Leaf). keeps leaf.key (fate_of case opened leaf.key).end target) leaves
is_target-kept case opened [] target = refl
is_target-kept case opened (leaf ∷ leaves) target =
    let e = is_target-append (kept_at leaf (fate_of case opened leaf.key).end) (kept_in case opened leaves) target in
    let f = kept_at-keeps leaf (fate_of case opened leaf.key).end target in
    let g = is_target-kept case opened leaves target in
    e ∙ (ap (λ b. b || is_target (kept_in case opened leaves) target) f ∙ ap (λ b. keeps leaf.key (fate_of case opened leaf.key).end target || b) g)

is_target-beside : (case : Case) (opened : List Gate) (leaves : List Leaf) (target : List ℕ) →
    is_target (beside_in case opened leaves) target ≡ list_any (λ (leaf : Leaf). is_target (beside_of (fate_of case opened leaf.key)) target) leaves
is_target-beside case opened [] target = refl
is_target-beside case opened (leaf ∷ leaves) target =
    is_target-append (beside_of (fate_of case opened leaf.key)) (beside_in case opened leaves) target
    ∙ ap (λ b. is_target (beside_of (fate_of case opened leaf.key)) target || b) (is_target-beside case opened leaves target)

-- what an outcome keeps and sends stays
keeps-grow : (opened : List Gate) (key target : List ℕ) (end : End) (before after : RuleOutcome) → before.end ≡ end → EndGrows opened end before after →
    keeps key end target ≡ true → keeps key after.end target ≡ true
keeps-grow opened key target (ends.Keep text) before after is grows h =
    subst (λ (e : End). keeps key e target ≡ true) (sym (ap (λ (o : RuleOutcome). o.end) grows ∙ is)) h
keeps-grow opened key target (ends.Redirect to text rule) before after is grows h = cc
keeps-grow opened key target (ends.Reject rule code words) before after is grows h = cc
keeps-grow opened key target (ends.Held rule) before after is grows h = cc

map-goes : (first more : List MadeCopy) (target : List ℕ) → is_target (map copy_send first) target ≡ true → is_target (map copy_send (first ++ more)) target ≡ true
map-goes [] more target h = cc
map-goes (copied ∷ first) more target h =
    or_map (bytes_eq target copied.target) (is_target (map copy_send first) target) (bytes_eq target copied.target) (is_target (map copy_send (first ++ more)) target)
    (λ e. e) (map-goes first more target) h

copies-grow : (first second : List MadeCopy) (target : List ℕ) (end : List Send) → Continues first second →
    is_target (map copy_send first ++ []) target ≡ true → is_target (map copy_send second ++ end) target ≡ true
copies-grow first second target end goes h =
    let a : is_target (map copy_send first) target ≡ true =
    sym (is_target-append (map copy_send first) [] target ∙ or_false (is_target (map copy_send first) target)) ∙ h in
    let b : is_target (map copy_send second) target ≡ true = subst (λ (xs : List MadeCopy). is_target (map copy_send xs) target ≡ true) (sym goes.is) (map-goes first goes.more target a) in
    is_target-append (map copy_send second) end target ∙ or_left _ _ b

beside-grows : (opened : List Gate) (target : List ℕ) (end : End) (before after : RuleOutcome) → before.end ≡ end → EndGrows opened end before after →
    is_target (beside_of before) target ≡ true → is_target (beside_of after) target ≡ true
beside-grows opened target (ends.Keep text) before after is grows h = subst (λ (o : RuleOutcome). is_target (beside_of o) target ≡ true) (sym grows) h
beside-grows opened target (ends.Redirect to text rule) before after is grows h = subst (λ (o : RuleOutcome). is_target (beside_of o) target ≡ true) (sym grows) h
beside-grows opened target (ends.Reject rule code words) before after is grows h = subst (λ (o : RuleOutcome). is_target (beside_of o) target ≡ true) (sym grows) h
beside-grows opened target (ends.Held rule) before after is grows h =
    copies-grow before.copies after.copies target (redirected after.end) grows.copies
    (subst (λ (e : End). is_target (map copy_send before.copies ++ redirected e) target ≡ true) is h)

outcome : (case : Case) (before opened : List Gate) → OpensMore before opened → (key : List ℕ) → OutcomeGrows opened (fate_of case before key) (fate_of case opened key)
outcome case before opened within key = fate-grows case.rules case.setting case.message before opened key within

pub sent-grows : (case : Case) (before opened : List Gate) → OpensMore before opened → ExpansionGrows opened (case.expand before) (case.expand opened) →
    (target : List ℕ) → is_target (sends_in case before) target ≡ true → is_target (sends_in case opened) target ≡ true
sent-grows case before opened within expands target h =
    let leaves = (case.expand before).leaves in
    let others = (case.expand opened).leaves in
    let a = sym (is_target-firsts (kept_in case before leaves ++ beside_in case before leaves) target) ∙ h in
    let b = sym (is_target-append (kept_in case before leaves) (beside_in case before leaves) target) ∙ a in
    let c = or_map (is_target (kept_in case before leaves) target) (is_target (beside_in case before leaves) target)
    (is_target (kept_in case opened others) target) (is_target (beside_in case opened others) target)
    (λ k. is_target-kept case opened others target ∙
    leaves_pass (λ key. keeps key (fate_of case before key).end target) (λ key. keeps key (fate_of case opened key).end target) leaves others expands.leaves
    (λ key. keeps-grow opened key target (fate_of case before key).end (fate_of case before key) (fate_of case opened key) refl (outcome case before opened within key))
    (sym (is_target-kept case before leaves target) ∙ k))
    (λ k. is_target-beside case opened others target ∙
    leaves_pass (λ key. is_target (beside_of (fate_of case before key)) target) (λ key. is_target (beside_of (fate_of case opened key)) target) leaves others expands.leaves
    (λ key. beside-grows opened target (fate_of case before key).end (fate_of case before key) (fate_of case opened key) refl (outcome case before opened within key))
    (sym (is_target-beside case before leaves target) ∙ k))
    b in
    is_target-firsts (kept_in case opened others ++ beside_in case opened others) target ∙ (is_target-append (kept_in case opened others) (beside_in case opened others) target ∙ c)

-- A rule rejects the recipient, which has this key.
abbrev rejects : List ℕ → List ℕ → End → Bool
rejects key here (ends.Keep text) = false
rejects key here (ends.Redirect to text rule) = false
rejects key here (ends.Reject rule code words) = bytes_eq key here
rejects key here (ends.Held rule) = false

is_rejected-at : (key here : List ℕ) (end : End) → is_rejected (rejected_at here end) key ≡ rejects key here end
is_rejected-at key here (ends.Keep text) = refl
is_rejected-at key here (ends.Redirect to text rule) = refl
is_rejected-at key here (ends.Reject rule code words) = or_false (bytes_eq key here)
is_rejected-at key here (ends.Held rule) = refl

is_rejected-rejected : (case : Case) (opened : List Gate) (leaves : List Leaf) (key : List ℕ) →
    is_rejected (rejected_in case opened leaves) key ≡ list_any (λ (leaf : Leaf). rejects key leaf.key (fate_of case opened leaf.key).end) leaves
is_rejected-rejected case opened [] key = refl
is_rejected-rejected case opened (leaf ∷ leaves) key =
    list_any-append (λ (rejection : Rejection). bytes_eq key rejection.key) (rejected_at leaf.key (fate_of case opened leaf.key).end) (rejected_in case opened leaves)
    ∙ (ap (λ b. b || is_rejected (rejected_in case opened leaves) key) (is_rejected-at key leaf.key (fate_of case opened leaf.key).end)
    ∙ ap (λ b. rejects key leaf.key (fate_of case opened leaf.key).end || b) (is_rejected-rejected case opened leaves key))

rejects-grow : (opened : List Gate) (key here : List ℕ) (end : End) (before after : RuleOutcome) → before.end ≡ end → EndGrows opened end before after →
    rejects key here end ≡ true → rejects key here after.end ≡ true
rejects-grow opened key here (ends.Keep text) before after is grows h = cc
rejects-grow opened key here (ends.Redirect to text rule) before after is grows h = cc
rejects-grow opened key here (ends.Reject rule code words) before after is grows h =
    subst (λ (e : End). rejects key here e ≡ true) (sym (ap (λ (o : RuleOutcome). o.end) grows ∙ is)) h
rejects-grow opened key here (ends.Held rule) before after is grows h = cc

pub refused-grow : (case : Case) (before opened : List Gate) → OpensMore before opened → ExpansionGrows opened (case.expand before) (case.expand opened) →
    (key : List ℕ) → is_rejected (rejections_in case before) key ≡ true → is_rejected (rejections_in case opened) key ≡ true
refused-grow case before opened within expands key h =
    is_rejected-rejected case opened (case.expand opened).leaves key ∙
    leaves_pass (λ here. rejects key here (fate_of case before here).end) (λ here. rejects key here (fate_of case opened here).end)
    (case.expand before).leaves (case.expand opened).leaves expands.leaves
    (λ here. rejects-grow opened key here (fate_of case before here).end (fate_of case before here) (fate_of case opened here) refl (outcome case before opened within here))
    (sym (is_rejected-rejected case before (case.expand before).leaves key) ∙ h)

-- A rule that isn't opened goes on to hold.
pub same_number : (a b : ℕ) → (a == b) ≡ true → a ≡ b
same_number a b h = search rules

is_held-grows : (opened : List Gate) (rule : ℕ) (end : End) (before after : RuleOutcome) → before.end ≡ end → EndGrows opened end before after →
    rule_is_opened opened rule ≡ false → is_held_by rule end ≡ true → is_held_by rule after.end ≡ true
is_held-grows opened rule (ends.Keep text) before after is grows shut h = cc
is_held-grows opened rule (ends.Redirect to text place) before after is grows shut h = cc
is_held-grows opened rule (ends.Reject place code words) before after is grows shut h = cc
is_held-grows opened rule (ends.Held place) before after is grows shut h =
    let same : place ≡ rule = same_number place rule h in
    let still : after ≡ before = grows.held (subst (λ r. rule_is_opened opened r ≡ false) (sym same) shut) in
    subst (λ (e : End). is_held_by rule e ≡ true) (sym (ap (λ (o : RuleOutcome). o.end) still ∙ is)) h

is_rule-same : (rule : ℕ) (gate : Gate) → engine.opens rule gate ≡ same_gate (gates.Rule rule) gate
is_rule-same rule (gates.Object key) = refl
is_rule-same rule (gates.Rule place) = refl

pub rule_is-opened : (opened : List Gate) (rule : ℕ) → rule_is_opened opened rule ≡ is_opened opened (gates.Rule rule)
rule_is-opened [] rule = refl
rule_is-opened (gate ∷ opened) rule =
    ap (λ b. b || rule_is_opened opened rule) (is_rule-same rule gate) ∙ ap (λ b. same_gate (gates.Rule rule) gate || b) (rule_is-opened opened rule)

-- at one rule: b and o say whether it holds a leaf before and after
held-at : (opened rest others : List Gate) (place : ℕ) (gate : Gate) (b o : Bool) →
    (rule_is_opened opened place ≡ false → b ≡ true → o ≡ true) →
    (is_opened rest gate ≡ true → (is_opened others gate || is_opened opened gate) ≡ true) →
    is_opened (if b then gates.Rule place ∷ rest else rest) gate ≡ true →
    (is_opened (if o then gates.Rule place ∷ others else others) gate || is_opened opened gate) ≡ true
held-at opened rest others place gate true true holds later h =
    here-or (same_gate gate (gates.Rule place)) (is_opened rest gate) (is_opened others gate) (is_opened opened gate) later h
  where
    here-or : (s r t o : Bool) → (r ≡ true → (t || o) ≡ true) → (s || r) ≡ true → ((s || t) || o) ≡ true
    here-or true r t o later h = refl
    here-or false r t o later h = later h
held-at opened rest others place gate false true holds later h =
    there-or (same_gate gate (gates.Rule place)) (is_opened others gate) (is_opened opened gate) (later h)
  where
    there-or : (s t o : Bool) → (t || o) ≡ true → ((s || t) || o) ≡ true
    there-or true t o h = refl
    there-or false t o h = h
held-at opened rest others place gate false false holds later h = later h
held-at opened rest others place (gates.Object key) true false holds later h = later h
held-at opened rest others place (gates.Rule rule) true false holds later h =
    open-or (rule == place) (is_opened rest (gates.Rule rule)) (is_opened others (gates.Rule rule)) (is_opened opened (gates.Rule rule))
    (λ e. let same : rule ≡ place = same_number rule place e in
    known (rule_is_opened opened place) (is_opened opened (gates.Rule rule)) (rule_is-opened opened place ∙ ap (λ r. is_opened opened (gates.Rule r)) (sym same))
    (λ shut. let e : false ≡ true = holds shut refl in cc))
    later h
  where
    open-or : (s r t o : Bool) → (s ≡ true → o ≡ true) → (r ≡ true → (t || o) ≡ true) → (s || r) ≡ true → (t || o) ≡ true
    open-or true r t o f g h = or_right t o (f refl)
    open-or false r t o f g h = g h

    known : (a b : Bool) → a ≡ b → (a ≡ false → ⊥) → b ≡ true
    known true b e f = sym e
    known false b e f = absurd (f refl)

held_rules-grow : (case : Case) (before opened : List Gate) → OpensMore before opened → ExpansionGrows opened (case.expand before) (case.expand opened) →
    (place : ℕ) (rules : List Rule) (gate : Gate) → is_opened (held_in case before place rules) gate ≡ true →
    (is_opened (held_in case opened place rules) gate || is_opened opened gate) ≡ true
held_rules-grow case before opened within expands place [] gate h = cc
held_rules-grow case before opened within expands place (rule ∷ rules) gate h =
    held-at opened (held_in case before (place + 1) rules) (held_in case opened (place + 1) rules) place gate
    (holds_in case before place (case.expand before).leaves) (holds_in case opened place (case.expand opened).leaves)
    (λ shut held. holds-leaves case opened place (case.expand opened).leaves
    ∙ leaves_pass (λ key. is_held_by place (fate_of case before key).end) (λ key. is_held_by place (fate_of case opened key).end)
    (case.expand before).leaves (case.expand opened).leaves expands.leaves
    (λ key. is_held-grows opened place (fate_of case before key).end (fate_of case before key) (fate_of case opened key) refl (outcome case before opened within key) shut)
    (sym (holds-leaves case before place (case.expand before).leaves) ∙ held))
    (held_rules-grow case before opened within expands (place + 1) rules gate)
    h

is_opened-append : (xs ys : List Gate) (gate : Gate) → is_opened (xs ++ ys) gate ≡ (is_opened xs gate || is_opened ys gate)
is_opened-append xs ys gate = list_any-append (same_gate gate) xs ys

pub met-grows : (case : Case) (before opened : List Gate) → OpensMore before opened → ExpansionGrows opened (case.expand before) (case.expand opened) →
    (gate : Gate) → is_opened (met_in case before) gate ≡ true → (is_opened (met_in case opened) gate || is_opened opened gate) ≡ true
met-grows case before opened within expands gate h =
    let a = sym (is_opened-append (closed_gates (case.expand before).closed) (held_in case before 0 case.rules) gate) ∙ h in
    ap (λ b. b || is_opened opened gate) (is_opened-append (closed_gates (case.expand opened).closed) (held_in case opened 0 case.rules) gate)
    ∙ both (is_opened (closed_gates (case.expand before).closed) gate) (is_opened (held_in case before 0 case.rules) gate)
    (is_opened (closed_gates (case.expand opened).closed) gate) (is_opened (held_in case opened 0 case.rules) gate) (is_opened opened gate)
    (expands.closed gate) (held_rules-grow case before opened within expands 0 case.rules gate) a
  where
    both : (a b c d o : Bool) → (a ≡ true → (c || o) ≡ true) → (b ≡ true → (d || o) ≡ true) → (a || b) ≡ true → ((c || d) || o) ≡ true
    both a b true d o f g h = refl
    both true b false true o f g h = refl
    both true b false false o f g h = f refl
    both false b false true o f g h = refl
    both false b false false o f g h = g h
