-- A set that a rule splits.
use Rattle.std.proofs.Common.{◌≡◌, ◌≤◌, ℕ, zero, suc, ◌+◌, ◌-◌, Bool, true, false, cond, if◌then◌else◌, List, [], ◌∷◌, ◌++◌, length, drop, take, get_or, map, Option, Some, None, refl, sym, ◌∙◌, ap, arith}
use Rattle.std.specs.Prelude.{not, is_some, ◌&&◌}
use Rattle.std.specs.List.{filter, list_all}
use Rattle.std.specs.Option.{option_to_list}
use Rattle.mail_names.specs.declared.gate.Gate.{Gate}
use Rattle.mail_message.specs.Message.{Mail}
use Rattle.group_expand.specs.declared.outcome.Leaf.{Leaf}
use Rattle.rule_terms.specs.Forms.{is_rule}
use Rattle.rule_terms.specs.declared.rule.Rule.{Rule}
use Rattle.rule_match.specs.Applies.{Setting, applies}
use Rattle.rule_engine.specs.declared.recipient.End.{End}
use Rattle.rule_engine.specs.declared.recipient.Progress.{Progress}
use Rattle.rule_engine.specs.declared.recipient.RuleOutcome.{RuleOutcome}
use Rattle.rule_engine.specs.Fate.{Stage, stage, goes_on, and_then, after_actions, after_stop, after_rules, outcome_at, outcome_of, start, fate}
use Rattle.rule_engine.specs.Run.{outcomes}
use Rattle.rule_engine.specs.Sets.{is_chosen, marks_of, chosen_of, others_of, merged, outcome_from, set_outcomes}

cons-nil : (recipient : List ℕ) (set : List (List ℕ)) → recipient ∷ set ≡ [] → ⊥
cons-nil recipient set h = cc

pub nothing-in : (set : List (List ℕ)) → length set ≡ 0 → set ≡ []
nothing-in [] h = refl
nothing-in (recipient ∷ set) h = absurd (omega (arith, h))

-- The next outcome is taken off one half.
pub from-first : (marks : List Bool) (old new seconds : List RuleOutcome) (next : Option RuleOutcome) → old ≡ option_to_list next ++ new → new ≡ drop 1 old →
    option_to_list next ++ merged marks new seconds ≡ merged (true ∷ marks) old seconds
from-first marks [] new seconds (Some taken) items rest = absurd cc
from-first marks [] new seconds None items rest = ap (λ (left : List RuleOutcome). merged marks left seconds) (sym items)
from-first marks (first ∷ firsts) new seconds (Some taken) items rest =
    let same : taken ≡ first = cc in
    ap (λ (outcome : RuleOutcome). outcome ∷ merged marks new seconds) same ∙ ap (λ (left : List RuleOutcome). first ∷ merged marks left seconds) rest
from-first marks (first ∷ firsts) new seconds None items rest =
    let long : length (first ∷ firsts) ≡ length firsts = ap (λ (list : List RuleOutcome). length list) (items ∙ rest) in
    absurd (omega (arith, long))

pub from-second : (marks : List Bool) (firsts old new : List RuleOutcome) (next : Option RuleOutcome) → old ≡ option_to_list next ++ new → new ≡ drop 1 old →
    option_to_list next ++ merged marks firsts new ≡ merged (false ∷ marks) firsts old
from-second marks firsts [] new (Some taken) items rest = absurd cc
from-second marks firsts [] new None items rest = ap (λ (left : List RuleOutcome). merged marks firsts left) (sym items)
from-second marks firsts (second ∷ seconds) new (Some taken) items rest =
    let same : taken ≡ second = cc in
    ap (λ (outcome : RuleOutcome). outcome ∷ merged marks firsts new) same ∙ ap (λ (left : List RuleOutcome). second ∷ merged marks firsts left) rest
from-second marks firsts (second ∷ seconds) new None items rest =
    let long : length (second ∷ seconds) ≡ length seconds = ap (λ (list : List RuleOutcome). length list) (items ∙ rest) in
    absurd (omega (arith, long))

-- What is done with the two halves of a set, by what is done with each recipient.
halves-merged : (test : List ℕ → Bool) (f g : List ℕ → RuleOutcome) (set : List (List ℕ)) →
    merged (map test set) (map f (filter test set)) (map g (filter (λ (recipient : List ℕ). not (test recipient)) set))
    ≡ map (λ (recipient : List ℕ). if test recipient then f recipient else g recipient) set
halves-merged test f g [] = refl
halves-merged test f g (recipient ∷ set) =
    elim (test recipient)
    as (λ b. merged (b ∷ map test set) (map f (cond b (recipient ∷ filter test set) (filter test set)))
    (map g (cond (not b) (recipient ∷ filter (λ (other : List ℕ). not (test other)) set) (filter (λ (other : List ℕ). not (test other)) set)))
    ≡ (if b then f recipient else g recipient) ∷ map (λ (other : List ℕ). if test other then f other else g other) set) [
      | true ↦ ap (λ (all : List RuleOutcome). f recipient ∷ all) (halves-merged test f g set)
      | false ↦ ap (λ (all : List RuleOutcome). g recipient ∷ all) (halves-merged test f g set)
    ]

none-chosen : (test : List ℕ → Bool) (f g : List ℕ → RuleOutcome) (set : List (List ℕ)) → filter test set ≡ [] →
    map g (filter (λ (recipient : List ℕ). not (test recipient)) set) ≡ map (λ (recipient : List ℕ). if test recipient then f recipient else g recipient) set
none-chosen test f g [] h = refl
none-chosen test f g (recipient ∷ set) h =
    (elim (test recipient)
    as (λ b. cond b (recipient ∷ filter test set) (filter test set) ≡ [] →
    map g (cond (not b) (recipient ∷ filter (λ (other : List ℕ). not (test other)) set) (filter (λ (other : List ℕ). not (test other)) set))
    ≡ (if b then f recipient else g recipient) ∷ map (λ (other : List ℕ). if test other then f other else g other) set) [
      | true ↦ λ e. absurd (cons-nil recipient (filter test set) e)
      | false ↦ λ e. ap (λ (all : List RuleOutcome). g recipient ∷ all) (none-chosen test f g set e)
    ]) h

all-chosen : (test : List ℕ → Bool) (f g : List ℕ → RuleOutcome) (set : List (List ℕ)) → filter (λ (recipient : List ℕ). not (test recipient)) set ≡ [] →
    map f (filter test set) ≡ map (λ (recipient : List ℕ). if test recipient then f recipient else g recipient) set
all-chosen test f g [] h = refl
all-chosen test f g (recipient ∷ set) h =
    (elim (test recipient)
    as (λ b. cond (not b) (recipient ∷ filter (λ (other : List ℕ). not (test other)) set) (filter (λ (other : List ℕ). not (test other)) set) ≡ [] →
    map f (cond b (recipient ∷ filter test set) (filter test set))
    ≡ (if b then f recipient else g recipient) ∷ map (λ (other : List ℕ). if test other then f other else g other) set) [
      | true ↦ λ e. ap (λ (all : List RuleOutcome). f recipient ∷ all) (all-chosen test f g set e)
      | false ↦ λ e. absurd (cons-nil recipient (filter (λ (other : List ℕ). not (test other)) set) e)
    ]) h

same-each : (f g : List ℕ → RuleOutcome) → ((recipient : List ℕ) → f recipient ≡ g recipient) → (set : List (List ℕ)) → map f set ≡ map g set
same-each f g same [] = refl
same-each f g same (recipient ∷ set) =
    ap (λ (outcome : RuleOutcome). outcome ∷ map f set) (same recipient) ∙ ap (λ (all : List RuleOutcome). g recipient ∷ all) (same-each f g same set)

-- where a rule leaves those to which it applies
abbrev past : Setting → List Gate → ℕ → Rule → Progress → Stage
past setting opened place rule progress = and_then (after_actions setting.sender opened place rule.actions progress) (after_stop rule.stop)

by-rule : (setting : Setting) (opened : List Gate) (place : ℕ) (rule : Rule) (later : List Rule) (progress : Progress) (recipient : List ℕ) →
    outcome_from setting opened place (rule ∷ later) (stage progress None) recipient
    ≡ (if is_chosen setting progress.message rule recipient
    then outcome_from setting opened (place + 1) later (past setting opened place rule progress) recipient
    else outcome_from setting opened (place + 1) later (stage progress None) recipient)
by-rule setting opened place rule later progress recipient =
    elim (applies setting recipient progress.message rule)
    as (λ b. outcome_of (and_then (if b then past setting opened place rule progress else goes_on progress) (after_rules setting opened recipient (place + 1) later))
    ≡ (if b
    then outcome_from setting opened (place + 1) later (past setting opened place rule progress) recipient
    else outcome_from setting opened (place + 1) later (stage progress None) recipient)) [
      | true ↦ refl
      | false ↦ refl
    ]

each-by-rule : (setting : Setting) (opened : List Gate) (place : ℕ) (rule : Rule) (later : List Rule) (progress : Progress) (set : List (List ℕ)) →
    set_outcomes setting opened place (rule ∷ later) (stage progress None) set
    ≡ map (λ (recipient : List ℕ). if is_chosen setting progress.message rule recipient
    then outcome_from setting opened (place + 1) later (past setting opened place rule progress) recipient
    else outcome_from setting opened (place + 1) later (stage progress None) recipient) set
each-by-rule setting opened place rule later progress set =
    same-each (outcome_from setting opened place (rule ∷ later) (stage progress None))
    (λ (recipient : List ℕ). if is_chosen setting progress.message rule recipient
    then outcome_from setting opened (place + 1) later (past setting opened place rule progress) recipient
    else outcome_from setting opened (place + 1) later (stage progress None) recipient)
    (by-rule setting opened place rule later progress) set

-- A rule that applies to nobody of the set.
pub nobody : (setting : Setting) (opened : List Gate) (place : ℕ) (rule : Rule) (later : List Rule) (progress : Progress) (set others : List (List ℕ)) (all : List RuleOutcome) →
    chosen_of setting progress.message rule set ≡ [] → others ≡ others_of setting progress.message rule set →
    all ≡ set_outcomes setting opened (place + 1) later (stage progress None) others →
    all ≡ set_outcomes setting opened place (rule ∷ later) (stage progress None) set
nobody setting opened place rule later progress set others all none left is =
    is ∙ ap (set_outcomes setting opened (place + 1) later (stage progress None)) left
    ∙ none-chosen (is_chosen setting progress.message rule) (outcome_from setting opened (place + 1) later (past setting opened place rule progress))
    (outcome_from setting opened (place + 1) later (stage progress None)) set none
    ∙ sym (each-by-rule setting opened place rule later progress set)

-- One that applies to all of it.
pub everybody : (setting : Setting) (opened : List Gate) (place : ℕ) (rule : Rule) (later : List Rule) (progress : Progress) (set chosen : List (List ℕ)) (after : Stage) (all : List RuleOutcome) →
    others_of setting progress.message rule set ≡ [] → chosen ≡ chosen_of setting progress.message rule set →
    after ≡ past setting opened place rule progress →
    all ≡ set_outcomes setting opened (place + 1) later after chosen →
    all ≡ set_outcomes setting opened place (rule ∷ later) (stage progress None) set
everybody setting opened place rule later progress set chosen after all none taken stands is =
    is ∙ ap (λ (before : Stage). set_outcomes setting opened (place + 1) later before chosen) stands
    ∙ ap (set_outcomes setting opened (place + 1) later (past setting opened place rule progress)) taken
    ∙ all-chosen (is_chosen setting progress.message rule) (outcome_from setting opened (place + 1) later (past setting opened place rule progress))
    (outcome_from setting opened (place + 1) later (stage progress None)) set none
    ∙ sym (each-by-rule setting opened place rule later progress set)

-- One that splits it.
pub some : (setting : Setting) (opened : List Gate) (place : ℕ) (rule : Rule) (later : List Rule) (progress : Progress) (set : List (List ℕ)) (marks : List Bool) (chosen others : List (List ℕ)) (after : Stage)
    (firsts seconds all : List RuleOutcome) →
    marks ≡ marks_of setting progress.message rule set → chosen ≡ chosen_of setting progress.message rule set → others ≡ others_of setting progress.message rule set →
    after ≡ past setting opened place rule progress →
    firsts ≡ set_outcomes setting opened (place + 1) later after chosen →
    seconds ≡ set_outcomes setting opened (place + 1) later (stage progress None) others →
    all ≡ merged marks firsts seconds →
    all ≡ set_outcomes setting opened place (rule ∷ later) (stage progress None) set
some setting opened place rule later progress set marks chosen others after firsts seconds all marked taken left stands first second is =
    let f : List ℕ → RuleOutcome = outcome_from setting opened (place + 1) later (past setting opened place rule progress) in
    let g : List ℕ → RuleOutcome = outcome_from setting opened (place + 1) later (stage progress None) in
    let one : firsts ≡ map f (chosen_of setting progress.message rule set) =
    first ∙ ap (λ (before : Stage). set_outcomes setting opened (place + 1) later before chosen) stands ∙ ap (map f) taken in
    let two : seconds ≡ map g (others_of setting progress.message rule set) = second ∙ ap (map g) left in
    is ∙ ap (λ (list : List Bool). merged list firsts seconds) marked
    ∙ ap (λ (list : List RuleOutcome). merged (marks_of setting progress.message rule set) list seconds) one
    ∙ ap (λ (list : List RuleOutcome). merged (marks_of setting progress.message rule set) (map f (chosen_of setting progress.message rule set)) list) two
    ∙ halves-merged (is_chosen setting progress.message rule) f g set
    ∙ sym (each-by-rule setting opened place rule later progress set)

-- The outcomes of leaves are those of the set of their keys.
pub leaf-by-leaf : (rules : List Rule) (setting : Setting) (message : Mail) (opened : List Gate) (leaves : List Leaf) →
    set_outcomes setting opened 0 rules (stage (start message) None) (map (λ (leaf : Leaf). leaf.key) leaves) ≡ outcomes rules setting message opened leaves
leaf-by-leaf rules setting message opened [] = refl
leaf-by-leaf rules setting message opened (leaf ∷ leaves) =
    ap (λ (all : List RuleOutcome). fate rules setting message opened leaf.key ∷ all) (leaf-by-leaf rules setting message opened leaves)

pub one-each : (rules : List Rule) (setting : Setting) (message : Mail) (opened : List Gate) (leaves : List Leaf) →
    length (outcomes rules setting message opened leaves) ≡ length leaves
one-each rules setting message opened [] = refl
one-each rules setting message opened (leaf ∷ leaves) =
    ap (λ (n : ℕ). suc n) (one-each rules setting message opened leaves)

pub goes-on : (end : Option End) → is_some end ≡ false → end ≡ None
goes-on None h = refl
goes-on (Some end) h = absurd cc

-- A set whose fold has ended.
pub at-end : (setting : Setting) (opened : List Gate) (place : ℕ) (rules : List Rule) (progress : Progress) (end : Option End) (set : List (List ℕ)) (all : List RuleOutcome) →
    is_some end ≡ true → all ≡ map (λ (recipient : List ℕ). outcome_at progress end) set →
    all ≡ set_outcomes setting opened place rules (stage progress end) set
at-end setting opened place rules progress (Some end) set all h is = is
at-end setting opened place rules progress None set all h is = absurd cc

-- The rules behind the first one, as a slice has them.
abbrev pub tail : List Rule → List Rule
tail rules = take (length rules - 1) (drop 1 rules)

taken : (rules : List Rule) (n : ℕ) → n ≡ length rules → take n rules ≡ rules
taken [] zero e = refl
taken [] (suc n) e = absurd (omega (arith, e))
taken (rule ∷ rules) zero e = absurd (omega (arith, e))
taken (rule ∷ rules) (suc n) e =
    let less : n ≡ length rules = omega (arith, e) in
    ap (λ (list : List Rule). rule ∷ list) (taken rules n less)

pub cut : (rules : List Rule) (rule : Rule) → 1 ≤ length rules → rule ≡ get_or rules 0 rule → rules ≡ rule ∷ tail rules
cut [] rule some is = absurd (omega (arith, some))
cut (first ∷ others) rule some is =
    let e : length (first ∷ others) - 1 ≡ length others = omega arith in
    ap (λ (head : Rule). head ∷ others) (sym is) ∙ ap (λ (list : List Rule). rule ∷ list) (sym (taken others (length (first ∷ others) - 1) e))

pub tail-length : (rules : List Rule) (rule : Rule) → 1 ≤ length rules → rule ≡ get_or rules 0 rule → length rules ≡ length (tail rules) + 1
tail-length rules rule some is =
    let e : length rules ≡ length (rule ∷ tail rules) = ap (λ (list : List Rule). length list) (cut rules rule some is) in
    omega (arith, e)

right-is : (a b : Bool) → (a && b) ≡ true → b ≡ true
right-is true b h = h
right-is false b h = absurd cc

pub tail-form : (rules : List Rule) (rule : Rule) → 1 ≤ length rules → rule ≡ get_or rules 0 rule → list_all is_rule rules ≡ true → list_all is_rule (tail rules) ≡ true
tail-form rules rule some is form =
    right-is (is_rule rule) (list_all is_rule (tail rules)) (ap (λ (list : List Rule). list_all is_rule list) (sym (cut rules rule some is)) ∙ form)

-- What holds of the first rule and those behind it holds of the rules.
pub as-given : (setting : Setting) (opened : List Gate) (place : ℕ) (rules : List Rule) (rule : Rule) (progress : Progress) (end : Option End) (set : List (List ℕ)) (all : List RuleOutcome) →
    is_some end ≡ false → 1 ≤ length rules → rule ≡ get_or rules 0 rule →
    all ≡ set_outcomes setting opened place (rule ∷ tail rules) (stage progress None) set →
    all ≡ set_outcomes setting opened place rules (stage progress end) set
as-given setting opened place rules rule progress end set all still some is h =
    h ∙ ap (λ (list : List Rule). set_outcomes setting opened place list (stage progress None) set) (sym (cut rules rule some is))
    ∙ ap (λ (last : Option End). set_outcomes setting opened place rules (stage progress last) set) (sym (goes-on end still))

pub from-copy : (setting : Setting) (opened : List Gate) (place : ℕ) (rules : List Rule) (copied progress : Progress) (set : List (List ℕ)) (all : List RuleOutcome) →
    copied ≡ progress → all ≡ set_outcomes setting opened place rules (stage copied None) set → all ≡ set_outcomes setting opened place rules (stage progress None) set
from-copy setting opened place rules copied progress set all same is =
    is ∙ ap (λ (from : Progress). set_outcomes setting opened place rules (stage from None) set) same
