-- The gates that hold: each once, with 1 to 10 moderators.
use Rattle.std.proofs.Common.{◌≡◌, ℕ, zero, suc, ◌+◌, ◌≤◌, ◌==◌, nat_le, Bool, true, false, ◌||◌, ◌&&◌, not, if◌then◌else◌, List, [], ◌∷◌, ◌++◌, map, filter, length, bytes_eq, refl, sym, ◌∙◌, ap, subst, rules, arith, slice_get}
use Rattle.std.specs.List.{list_all}
use Rattle.std.proofs.lemmas.List.Folds.{list_any-append}
use Rattle.mail_names.specs.declared.gate.Gate.{Gate}
use Rattle.mail_names.specs.declared.gate.Gate.TheVariants as gates
use Rattle.org_directory.specs.Register.{Register}
use Rattle.group_expand.specs.declared.outcome.Leaf.{Leaf}
use Rattle.group_expand.specs.declared.outcome.Closed.{Closed}
use Rattle.group_expand.specs.declared.way.Way.{Way}
use Rattle.group_expand.specs.Expansion.{closed_of}
use Rattle.group_expand.specs.Ways.{fresh}
use Rattle.rule_terms.specs.declared.action.Action.{Action}
use Rattle.rule_terms.specs.declared.action.Action.TheVariants as actions
use Rattle.rule_terms.specs.declared.rule.Rule.{Rule}
use Rattle.rule_terms.specs.Forms as forms
use Rattle.rule_terms.specs.Forms.{is_within, is_name, is_action, are_terms, are_actions, go_together, is_rule}
use Rattle.rule_engine.specs.declared.recipient.End.{End}
use Rattle.rule_engine.specs.declared.recipient.End.TheVariants as ends
use Rattle.mail_names.specs.Gates.{same_gate}
use Rattle.mail_plan.specs.Planning.{are_distinct_gates, is_gate_among, have_moderators}
use Rattle.categorizer.specs.declared.parts.Judged.{Judged}
use Rattle.categorizer.specs.Plan.{Case, is_held_by, holds_leaf, held_rules, closed_gates}
use Rattle.categorizer.specs.Releasing.{approvers, rule_approvers, hold_of}
use Rattle.categorizer.proofs.Growing.{same_number}
use Rattle.categorizer.proofs.Holding.{asks, rule_asks, AsksAt, HeldEnd, fate-held}
use Rattle.categorizer.proofs.Lists.{is_opened, fate_of, holds_in, held_in, same_bytes, bytes_same, or_left, or_right}
use Rattle.categorizer.proofs.Naming.{and_true, and_parts, of_not, number_same}

-- 1 to 10
abbrev pub is_few : List (List ℕ) → Bool
is_few keys = nat_le 1 (length keys) && nat_le (length keys) 10

rule-actions : (rule : Rule) → is_rule rule ≡ true → list_all is_action rule.actions ≡ true
rule-actions rule h =
    let behind_name = (and_parts (is_name rule.name) (are_terms rule.when && (are_terms rule.unless && are_actions rule.actions)) h).1 in
    let behind_when = (and_parts (are_terms rule.when) (are_terms rule.unless && are_actions rule.actions) behind_name).1 in
    let acts = (and_parts (are_terms rule.unless) (are_actions rule.actions) behind_when).1 in
    (and_parts (list_all is_action rule.actions) (go_together rule.actions)
    (and_parts (is_within 1 16 (length rule.actions)) (list_all is_action rule.actions && go_together rule.actions) acts).1).0

or_none : (a b : Bool) → a ≡ false → b ≡ false → (a || b) ≡ false
or_none true b f g = f
or_none false b f g = g

either : {P : Type 0} (a b : Bool) → (a ≡ true → P) → (b ≡ true → P) → (a || b) ≡ true → P
either true b f g h = f refl
either false b f g h = g h

never : (b : Bool) → (b ≡ true → ⊥) → b ≡ false
never true f = absurd (f refl)
never false f = refl

append-distinct : (xs ys : List Gate) → are_distinct_gates xs ≡ true → are_distinct_gates ys ≡ true →
    ((gate : Gate) → is_opened xs gate ≡ true → is_opened ys gate ≡ false) → are_distinct_gates (xs ++ ys) ≡ true
append-distinct [] ys p q apart = q
append-distinct (gate ∷ xs) ys p q apart =
    let parts = and_parts (not (is_gate_among gate xs)) (are_distinct_gates xs) p in
    and_true (not (is_gate_among gate (xs ++ ys))) (are_distinct_gates (xs ++ ys))
    (ap not (list_any-append (same_gate gate) xs ys ∙ or_none (is_opened xs gate) (is_opened ys gate) (of_not (is_gate_among gate xs) parts.0)
    (apart gate (or_left (same_gate gate gate) (is_opened xs gate) (gate-same gate)))))
    (append-distinct xs ys parts.1 q (λ other h. apart other (or_right (same_gate other gate) (is_opened xs other) h)))
  where
    gate-same : (gate : Gate) → same_gate gate gate ≡ true
    gate-same (gates.Object key) = bytes-same key
      where
        bytes-same : (key : List ℕ) → bytes_eq key key ≡ true
        bytes-same key = search rules
    gate-same (gates.Rule place) = number_same place

-- the first ways have no key that was had
unhad-at : (reg : Register) (had : List ℕ → Bool) (w : Way) (ws : List Way) (key : List ℕ) (b : Bool) → had w.key ≡ b →
    ((f : List ℕ → Bool) → is_opened (closed_gates (map (closed_of reg) (fresh f ws))) (gates.Object key) ≡ true → f key ≡ false) →
    is_opened (closed_gates (map (closed_of reg) (if b then fresh had ws else w ∷ fresh (λ k. bytes_eq k w.key || had k) ws))) (gates.Object key) ≡ true → had key ≡ false
unhad-at reg had w ws key true e step h = step had h
unhad-at reg had w ws key false e step h =
    either (bytes_eq key w.key) (is_opened (closed_gates (map (closed_of reg) (fresh (λ k. bytes_eq k w.key || had k) ws))) (gates.Object key))
    (λ same. subst (λ k. had k ≡ false) (sym (same_bytes key w.key same)) e)
    (λ there. second (bytes_eq key w.key) (had key) (step (λ k. bytes_eq k w.key || had k) there)) h
  where
    second : (a b : Bool) → (a || b) ≡ false → b ≡ false
    second true b e = absurd (cc)
    second false b e = e

unhad : (reg : Register) (had : List ℕ → Bool) (ws : List Way) (key : List ℕ) → is_opened (closed_gates (map (closed_of reg) (fresh had ws))) (gates.Object key) ≡ true → had key ≡ false
unhad reg had [] key h = absurd (cc)
unhad reg had (w ∷ ws) key h = unhad-at reg had w ws key (had w.key) refl (λ f. unhad reg f ws key) h

closed-distinct-at : (reg : Register) (had : List ℕ → Bool) (w : Way) (ws : List Way) (b : Bool) →
    ((f : List ℕ → Bool) → are_distinct_gates (closed_gates (map (closed_of reg) (fresh f ws))) ≡ true) →
    are_distinct_gates (closed_gates (map (closed_of reg) (if b then fresh had ws else w ∷ fresh (λ k. bytes_eq k w.key || had k) ws))) ≡ true
closed-distinct-at reg had w ws true step = step had
closed-distinct-at reg had w ws false step =
    let rest : List Gate = closed_gates (map (closed_of reg) (fresh (λ k. bytes_eq k w.key || had k) ws)) in
    and_true (not (is_gate_among (gates.Object w.key) rest)) (are_distinct_gates rest)
    (ap not (never (is_opened rest (gates.Object w.key))
    (λ h. let e : (bytes_eq w.key w.key || had w.key) ≡ false = unhad reg (λ k. bytes_eq k w.key || had k) ws w.key h in
    let f : true ≡ false = sym (or_left (bytes_eq w.key w.key) (had w.key) (bytes_same w.key)) ∙ e in cc)))
    (step (λ k. bytes_eq k w.key || had k))

-- each closed object once
pub closed-distinct : (reg : Register) (had : List ℕ → Bool) (ws : List Way) → are_distinct_gates (closed_gates (map (closed_of reg) (fresh had ws))) ≡ true
closed-distinct reg had [] = refl
closed-distinct reg had (w ∷ ws) = closed-distinct-at reg had w ws (had w.key) (λ f. closed-distinct reg f ws)

-- rules
rules-above : (all : List Judged) (place : ℕ) (rules : List Rule) (rule : ℕ) → is_opened (held_rules all place rules) (gates.Rule rule) ≡ true → place ≤ rule
rules-above all place [] rule h = absurd (cc)
rules-above all place (one ∷ rules) rule h =
    above (holds_leaf place all) (rules-above all (place + 1) rules rule) h
  where
    above : (b : Bool) → (is_opened (held_rules all (place + 1) rules) (gates.Rule rule) ≡ true → place + 1 ≤ rule) →
        is_opened (if b then gates.Rule place ∷ held_rules all (place + 1) rules else held_rules all (place + 1) rules) (gates.Rule rule) ≡ true → place ≤ rule
    above true step h = either (rule == place) (is_opened (held_rules all (place + 1) rules) (gates.Rule rule))
        (λ e. let same : rule ≡ place = same_number rule place e in omega arith) (λ there. let below : place + 1 ≤ rule = step there in omega arith) h
    above false step h = let below : place + 1 ≤ rule = step h in omega arith

rules-distinct : (all : List Judged) (place : ℕ) (those : List Rule) → are_distinct_gates (held_rules all place those) ≡ true
rules-distinct all place [] = refl
rules-distinct all place (one ∷ those) =
    at (holds_leaf place all) (rules-distinct all (place + 1) those)
    (λ h. let above : place + 1 ≤ place = rules-above all (place + 1) those place h in omega arith)
  where
    at : (b : Bool) → are_distinct_gates (held_rules all (place + 1) those) ≡ true →
        (is_opened (held_rules all (place + 1) those) (gates.Rule place) ≡ true → ⊥) →
        are_distinct_gates (if b then gates.Rule place ∷ held_rules all (place + 1) those else held_rules all (place + 1) those) ≡ true
    at true h absent = and_true (not (is_gate_among (gates.Rule place) (held_rules all (place + 1) those))) (are_distinct_gates (held_rules all (place + 1) those))
        (ap not (never (is_opened (held_rules all (place + 1) those) (gates.Rule place)) absent)) h
    at false h absent = h

no-object : (all : List Judged) (place : ℕ) (those : List Rule) (key : List ℕ) → is_opened (held_rules all place those) (gates.Object key) ≡ false
no-object all place [] key = refl
no-object all place (one ∷ those) key =
    at (holds_leaf place all) (no-object all (place + 1) those key)
  where
    at : (b : Bool) → is_opened (held_rules all (place + 1) those) (gates.Object key) ≡ false →
        is_opened (if b then gates.Rule place ∷ held_rules all (place + 1) those else held_rules all (place + 1) those) (gates.Object key) ≡ false
    at true h = h
    at false h = h

pub no-rule : (closed : List Closed) (rule : ℕ) → is_opened (closed_gates closed) (gates.Rule rule) ≡ false
no-rule [] rule = refl
no-rule (one ∷ closed) rule = no-rule closed rule

-- the gates that hold, each once
pub held-distinct : (closed : List Closed) (all : List Judged) (those : List Rule) → are_distinct_gates (closed_gates closed) ≡ true →
    are_distinct_gates (closed_gates closed ++ held_rules all 0 those) ≡ true
held-distinct closed all those once =
    append-distinct (closed_gates closed) (held_rules all 0 those) once (rules-distinct all 0 those) apart
  where
    apart : (gate : Gate) → is_opened (closed_gates closed) gate ≡ true → is_opened (held_rules all 0 those) gate ≡ false
    apart (gates.Object key) h = no-object all 0 those key
    apart (gates.Rule rule) h = let e : true ≡ false = sym h ∙ no-rule closed rule in cc

-- moderators
few-approvers : (those : List Action) → list_all is_action those ≡ true → asks those ≡ true → is_few (approvers those) ≡ true
few-approvers [] few asked = absurd (cc)
few-approvers (actions.Prepend text ∷ others) few asked = few-approvers others (and_parts (is_action (actions.Prepend text)) (list_all is_action others) few).1 asked
few-approvers (actions.SetField field text ∷ others) few asked = few-approvers others (and_parts (is_action (actions.SetField field text)) (list_all is_action others) few).1 asked
few-approvers (actions.RemoveField field ∷ others) few asked = few-approvers others (and_parts (is_action (actions.RemoveField field)) (list_all is_action others) few).1 asked
few-approvers (actions.CopyTo target ∷ others) few asked = few-approvers others (and_parts (is_action (actions.CopyTo target)) (list_all is_action others) few).1 asked
few-approvers (actions.RedirectTo target ∷ others) few asked = few-approvers others (and_parts (is_action (actions.RedirectTo target)) (list_all is_action others) few).1 asked
few-approvers (actions.Disclaimer before text fallback ∷ others) few asked = few-approvers others (and_parts (is_action (actions.Disclaimer before text fallback)) (list_all is_action others) few).1 asked
few-approvers (actions.Reject code words ∷ others) few asked = few-approvers others (and_parts (is_action (actions.Reject code words)) (list_all is_action others) few).1 asked
few-approvers (actions.Approve by ∷ others) few asked =
    (and_parts (is_within 1 10 (length by)) (forms.are_distinct by) (and_parts (is_action (actions.Approve by)) (list_all is_action others) few).0).0

few-rule : (those : List Rule) (place : ℕ) → list_all is_rule those ≡ true → rule_asks (slice_get those place) ≡ true → is_few (rule_approvers (slice_get those place)) ≡ true
few-rule [] place few asked = absurd (none place asked)
  where
    none : (place : ℕ) → rule_asks (slice_get [] place) ≡ true → ⊥
    none zero asked = cc
    none (suc place) asked = cc
few-rule (rule ∷ those) zero few asked = few-approvers rule.actions (rule-actions rule (and_parts (is_rule rule) (list_all is_rule those) few).0) asked
few-rule (rule ∷ those) (suc place) few asked = few-rule those place (and_parts (is_rule rule) (list_all is_rule those) few).1 asked

held-asks : (those : List Rule) (place : ℕ) (end : End) → HeldEnd (AsksAt 0 those) end → is_held_by place end ≡ true → rule_asks (slice_get those place) ≡ true
held-asks those place (ends.Keep text) h is = absurd (cc)
held-asks those place (ends.Redirect target text rule) h is = absurd (cc)
held-asks those place (ends.Reject rule code words) h is = absurd (cc)
held-asks those place (ends.Held rule) h is =
    let same : rule ≡ place = same_number rule place is in
    let at : rule ≡ 0 + h.behind = h.is in
    let e : h.behind ≡ place = omega arith in
    subst (λ n. rule_asks (slice_get those n) ≡ true) e h.asked

leaf-asks : (case : Case) (opened : List Gate) (place : ℕ) (leaves : List Leaf) → holds_in case opened place leaves ≡ true → rule_asks (slice_get case.rules place) ≡ true
leaf-asks case opened place [] h = absurd (cc)
leaf-asks case opened place (leaf ∷ leaves) h =
    either (is_held_by place (fate_of case opened leaf.key).end) (holds_in case opened place leaves)
    (λ is. held-asks case.rules place (fate_of case opened leaf.key).end (fate-held case.rules case.setting case.message opened leaf.key) is)
    (λ there. leaf-asks case opened place leaves there) h

module _ (register : Register) (those : List Rule) where
  -- Each gate of these has 1 to 10 moderators.
  abbrev pub AllFew : List Gate → Type 0
  AllFew [] = Unit {0}
  AllFew (gate ∷ others) = (is_few (hold_of register those gate).moderators ≡ true) × AllFew others

  pub few-append : (xs ys : List Gate) → AllFew xs → AllFew ys → AllFew (xs ++ ys)
  few-append [] ys p q = q
  few-append (gate ∷ xs) ys p q = (p.0, few-append xs ys p.1 q)

  few-filter : (p : Gate → Bool) (xs : List Gate) → AllFew xs → AllFew (filter p xs)
  few-filter p [] h = tt
  few-filter p (gate ∷ xs) h = at (p gate) h.0 (few-filter p xs h.1)
    where
      at : (b : Bool) → is_few (hold_of register those gate).moderators ≡ true → AllFew (filter p xs) → AllFew (if b then gate ∷ filter p xs else filter p xs)
      at true few rest = (few, rest)
      at false few rest = rest

  few-holds : (xs : List Gate) → AllFew xs → have_moderators (map (hold_of register those) xs) ≡ true
  few-holds [] h = refl
  few-holds (gate ∷ xs) h =
      let by : List (List ℕ) = (hold_of register those gate).moderators in
      let parts = and_parts (nat_le 1 (length by)) (nat_le (length by) 10) h.0 in
      and_true (nat_le 1 (length by)) (nat_le (length by) 10 && have_moderators (map (hold_of register those) xs)) parts.0
      (and_true (nat_le (length by) 10) (have_moderators (map (hold_of register those) xs)) parts.1 (few-holds xs h.1))

  pub have-moderators : (p : Gate → Bool) (xs : List Gate) → AllFew xs → have_moderators (map (hold_of register those) (filter p xs)) ≡ true
  have-moderators p xs h = few-holds (filter p xs) (few-filter p xs h)

  -- closed objects, where what is closed has moderators
  pub few-closed : (closed : List ℕ → Bool) → ((key : List ℕ) → closed key ≡ true → is_few (hold_of register those (gates.Object key)).moderators ≡ true) →
      (ws : List Way) → AllFew (closed_gates (map (closed_of register) (filter (λ (w : Way). closed w.key) ws)))
  few-closed closed few [] = tt
  few-closed closed few (w ∷ ws) = at (closed w.key) refl (few-closed closed few ws)
    where
      at : (b : Bool) → closed w.key ≡ b → AllFew (closed_gates (map (closed_of register) (filter (λ (w : Way). closed w.key) ws))) →
          AllFew (closed_gates (map (closed_of register) (if b then w ∷ filter (λ (w : Way). closed w.key) ws else filter (λ (w : Way). closed w.key) ws)))
      at true e rest = (few w.key e, rest)
      at false e rest = rest

pub few-rules : (register : Register) (case : Case) (opened : List Gate) → list_all is_rule case.rules ≡ true → (place : ℕ) (those : List Rule) →
    AllFew register case.rules (held_in case opened place those)
few-rules register case opened few place [] = tt
few-rules register case opened few place (one ∷ those) =
    at (holds_in case opened place (case.expand opened).leaves)
    (λ h. few-rule case.rules place few (leaf-asks case opened place (case.expand opened).leaves h)) (few-rules register case opened few (place + 1) those)
  where
    at : (b : Bool) → (b ≡ true → is_few (rule_approvers (slice_get case.rules place)) ≡ true) → AllFew register case.rules (held_in case opened (place + 1) those) →
        AllFew register case.rules (if b then gates.Rule place ∷ held_in case opened (place + 1) those else held_in case opened (place + 1) those)
    at true h rest = (h refl, rest)
    at false h rest = rest
