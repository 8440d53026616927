-- Leaves, sends and gates in lists.
use Rattle.std.proofs.Common.{◌≡◌, ℕ, ◌+◌, Bool, true, false, ◌||◌, if◌then◌else◌, List, [], ◌∷◌, ◌++◌, fold, bytes_eq, refl, sym, ◌∙◌, ap, subst, rules}
use Rattle.std.specs.List.{list_any}
use Rattle.std.proofs.lemmas.List.Folds.{list_any-append}
use Rattle.std.proofs.lemmas.Slice.Eq.{bytes_eq-Decides}
use Rattle.mail_names.specs.declared.gate.Gate.{Gate}
use Rattle.group_expand.specs.declared.outcome.Leaf.{Leaf}
use Rattle.mail_plan.specs.Planning.{is_gate_among}
use Rattle.rule_engine.specs.Gates as engine
use Rattle.rule_terms.specs.declared.rule.Rule.{Rule}
use Rattle.rule_engine.specs.declared.recipient.RuleOutcome.{RuleOutcome}
use Rattle.rule_engine.specs.Fate.{fate}
use Rattle.categorizer.specs.declared.parts.Judged.{Judged}
use Rattle.categorizer.specs.declared.parts.Rejection.{Rejection}
use Rattle.categorizer.specs.declared.parts.Send.{Send}
use Rattle.categorizer.specs.Plan.{Case, judged, judged_in, kept, beside, rejections, is_held_by, holds_leaf, held_rules, is_target, with_send, firsts, plan}
use Rattle.categorizer.specs.Growth.{is_leaf}

-- gates, the list first
abbrev pub is_opened : List Gate → Gate → Bool
is_opened gates gate = is_gate_among gate gates

abbrev pub rule_is_opened : List Gate → ℕ → Bool
rule_is_opened gates rule = engine.is_opened gates rule

-- the parts of a plan, over leaves that are judged
abbrev pub fate_of : Case → List Gate → List ℕ → RuleOutcome
fate_of case opened key = fate case.rules case.setting case.message opened key

abbrev pub judged_of : Case → List Gate → List Leaf → List Judged
judged_of case opened leaves = judged case.rules case.setting case.message opened leaves

abbrev pub kept_in : Case → List Gate → List Leaf → List Send
kept_in case opened leaves = kept (judged_of case opened leaves)

abbrev pub beside_in : Case → List Gate → List Leaf → List Send
beside_in case opened leaves = beside (judged_of case opened leaves)

abbrev pub rejected_in : Case → List Gate → List Leaf → List Rejection
rejected_in case opened leaves = rejections (judged_of case opened leaves)

abbrev pub holds_in : Case → List Gate → ℕ → List Leaf → Bool
holds_in case opened rule leaves = holds_leaf rule (judged_of case opened leaves)

abbrev pub held_in : Case → List Gate → ℕ → List Rule → List Gate
held_in case opened place those = held_rules (judged_in case opened) place those

abbrev pub sends_in : Case → List Gate → List Send
sends_in case opened = (plan case opened).sent

abbrev pub rejections_in : Case → List Gate → List Rejection
rejections_in case opened = (plan case opened).refused

abbrev pub met_in : Case → List Gate → List Gate
met_in case opened = (plan case opened).met

pub holds-leaves : (case : Case) (opened : List Gate) (rule : ℕ) (leaves : List Leaf) →
    holds_in case opened rule leaves ≡ list_any (λ (leaf : Leaf). is_held_by rule (fate_of case opened leaf.key).end) leaves
holds-leaves case opened rule [] = refl
holds-leaves case opened rule (leaf ∷ leaves) = ap (λ b. is_held_by rule (fate_of case opened leaf.key).end || b) (holds-leaves case opened rule leaves)

pub same_bytes : (a b : List ℕ) → bytes_eq a b ≡ true → a ≡ b
same_bytes a b h = (bytes_eq-Decides a b).0 h

pub bytes_same : (a : List ℕ) → bytes_eq a a ≡ true
bytes_same a = (bytes_eq-Decides a a).1 refl

-- either test
pub or_left : (a b : Bool) → a ≡ true → (a || b) ≡ true
or_left true b h = refl
or_left false b h = cc

pub or_right : (a b : Bool) → b ≡ true → (a || b) ≡ true
or_right true b h = refl
or_right false b h = h

pub or_map : (a b c d : Bool) → (a ≡ true → c ≡ true) → (b ≡ true → d ≡ true) → (a || b) ≡ true → (c || d) ≡ true
or_map true b c d f g h = or_left c d (f refl)
or_map false b c d f g h = or_right c d (g h)

-- what holds of a leaf's key, for a leaf that is there
leaf_passes : (q : List ℕ → Bool) (leaves : List Leaf) (key : List ℕ) → is_leaf leaves key ≡ true → q key ≡ true →
    list_any (λ (leaf : Leaf). q leaf.key) leaves ≡ true
leaf_passes q [] key is h = cc
leaf_passes q (leaf ∷ leaves) key is h =
    or_map (bytes_eq key leaf.key) (is_leaf leaves key) (q leaf.key) (list_any (λ (leaf : Leaf). q leaf.key) leaves)
    (λ e. subst (λ k. q k ≡ true) (same_bytes key leaf.key e) h)
    (λ there. leaf_passes q leaves key there h)
    is

leaf_here : (leaf : Leaf) (leaves : List Leaf) → is_leaf (leaf ∷ leaves) leaf.key ≡ true
leaf_here leaf leaves = or_left (bytes_eq leaf.key leaf.key) (is_leaf leaves leaf.key) (bytes_same leaf.key)

-- a leaf that passes the one test is a leaf of the others that passes the other
pub leaves_pass : (p q : List ℕ → Bool) (before after : List Leaf) →
    ((key : List ℕ) → is_leaf before key ≡ true → is_leaf after key ≡ true) → ((key : List ℕ) → p key ≡ true → q key ≡ true) →
    list_any (λ (leaf : Leaf). p leaf.key) before ≡ true → list_any (λ (leaf : Leaf). q leaf.key) after ≡ true
leaves_pass p q [] after within more h = cc
leaves_pass p q (leaf ∷ before) after within more h =
    either (p leaf.key) (list_any (λ (leaf : Leaf). p leaf.key) before)
    (λ here. leaf_passes q after leaf.key (within leaf.key (leaf_here leaf before)) (more leaf.key here))
    (λ there. leaves_pass p q before after (λ key is. within key (or_right (bytes_eq key leaf.key) (is_leaf before key) is)) more there)
    h
  where
    either : {P : Type 0} (a b : Bool) → (a ≡ true → P) → (b ≡ true → P) → (a || b) ≡ true → P
    either true b f g h = f refl
    either false b f g h = g h

-- The targets of `firsts` are those of the list.
pub is_target-append : (xs ys : List Send) (target : List ℕ) → is_target (xs ++ ys) target ≡ (is_target xs target || is_target ys target)
is_target-append xs ys target = list_any-append (λ (send : Send). bytes_eq target send.target) xs ys

is_target-with-new : (sends : List Send) (send : Send) (target : List ℕ) (b : Bool) → is_target sends send.target ≡ b →
    is_target (if b then sends else sends ++ send ∷ []) target ≡ (is_target sends target || bytes_eq target send.target)
is_target-with-new sends send target true there =
    known (is_target sends target) (bytes_eq target send.target) (λ e. subst (λ k. is_target sends k ≡ true) (sym (same_bytes target send.target e)) there)
  where
    known : (a b : Bool) → (b ≡ true → a ≡ true) → a ≡ (a || b)
    known true b h = refl
    known false true h = h refl
    known false false h = refl
is_target-with-new sends send target false there =
    is_target-append sends (send ∷ []) target ∙ ap (λ b. is_target sends target || b) (or_false (bytes_eq target send.target))
  where
    or_false : (b : Bool) → (b || false) ≡ b
    or_false true = refl
    or_false false = refl

is_target-with : (sends : List Send) (send : Send) (target : List ℕ) → is_target (with_send sends send) target ≡ (is_target sends target || bytes_eq target send.target)
is_target-with sends send target = is_target-with-new sends send target (is_target sends send.target) refl

is_target-fold : (more sends : List Send) (target : List ℕ) → is_target (fold with_send sends more) target ≡ (is_target sends target || is_target more target)
is_target-fold [] sends target = or_false (is_target sends target)
  where
    or_false : (b : Bool) → b ≡ (b || false)
    or_false true = refl
    or_false false = refl
is_target-fold (send ∷ more) sends target =
    is_target-fold more (with_send sends send) target
    ∙ (ap (λ b. b || is_target more target) (is_target-with sends send target)
    ∙ or_assoc (is_target sends target) (bytes_eq target send.target) (is_target more target))
  where
    or_assoc : (a b c : Bool) → ((a || b) || c) ≡ (a || (b || c))
    or_assoc true b c = refl
    or_assoc false b c = refl

pub is_target-firsts : (sends : List Send) (target : List ℕ) → is_target (firsts sends) target ≡ is_target sends target
is_target-firsts sends target = is_target-fold sends [] target
