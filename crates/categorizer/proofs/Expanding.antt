-- Expansions keep their leaves, and each closed object until it is opened.
use Rattle.std.proofs.Common.{◌≡◌, ℕ, Bool, true, false, ◌||◌, ◌&&◌, not, if◌then◌else◌, List, [], ◌∷◌, ◌++◌, map, filter, bytes_eq, Option, refl, sym, ◌∙◌, ap, subst}
use Rattle.std.specs.List.{list_any}
use Rattle.std.proofs.lemmas.List.Folds.{list_any-append}
use Rattle.mail_names.specs.declared.gate.Gate.{Gate}
use Rattle.mail_names.specs.declared.gate.Gate.TheVariants as gates
use Rattle.org_directory.specs.Register.{Register, among}
use Rattle.org_directory.specs.Membership.{needs_approval}
use Rattle.group_expand.specs.declared.way.Way.{Way}
use Rattle.group_expand.specs.Expansion.{opens, is_closed, leaf_of, closed_of, expansion}
use Rattle.group_expand.specs.Routes.{Opens, leaves, closed_met, all_ways, keys_of}
use Rattle.group_expand.specs.Ways.{fresh}
use Rattle.group_expand.proofs.Offered.{leaves-stay, closed-stay, first-filter}
use Rattle.rule_engine.specs.Gates as engine
use Rattle.rule_engine.specs.Gates.{OpensMore}
use Rattle.mail_names.specs.Gates.{same_gate}
use Rattle.mail_plan.specs.Planning.{is_gate_among}
use Rattle.categorizer.specs.Plan.{closed_gates}
use Rattle.categorizer.specs.Growth.{is_leaf, ExpansionGrows}
use Rattle.categorizer.proofs.Lists.{is_opened, same_bytes, or_left, or_right}
use Rattle.categorizer.proofs.Meeting.{no-rule}

pub opens-more : (opened more : List Gate) → OpensMore opened (opened ++ more)
opens-more opened more rule h = list_any-append (engine.opens rule) opened more ∙ or_left (engine.is_opened opened rule) (engine.is_opened more rule) h

leaf-keys : (reg : Register) (ws : List Way) (key : List ℕ) → is_leaf (map (leaf_of reg) ws) key ≡ among key (keys_of ws)
leaf-keys reg [] key = refl
leaf-keys reg (w ∷ ws) key = ap (λ b. bytes_eq key w.key || b) (leaf-keys reg ws key)

closed-keys : (reg : Register) (ws : List Way) (key : List ℕ) → is_opened (closed_gates (map (closed_of reg) ws)) (gates.Object key) ≡ among key (keys_of ws)
closed-keys reg [] key = refl
closed-keys reg (w ∷ ws) key = ap (λ b. bytes_eq key w.key || b) (closed-keys reg ws key)

opens-gate : (key : List ℕ) (gate : Gate) → opens key gate ≡ same_gate (gates.Object key) gate
opens-gate key (gates.Object other) = refl
opens-gate key (gates.Rule place) = refl

opened-gate : (opened : List Gate) (key : List ℕ) → list_any (opens key) opened ≡ is_opened opened (gates.Object key)
opened-gate [] key = refl
opened-gate (gate ∷ opened) key =
    ap (λ b. b || list_any (opens key) opened) (opens-gate key gate) ∙ ap (λ b. same_gate (gates.Object key) gate || b) (opened-gate opened key)

fewer-closed : (reg : Register) (sender : Option (List ℕ)) (opened more : List Gate) → Opens (is_closed reg sender opened) (is_closed reg sender (opened ++ more))
fewer-closed reg sender opened more key h =
    at (needs_approval reg key sender) (list_any (opens key) opened) (list_any (opens key) more)
    (subst (λ b. (needs_approval reg key sender && not b) ≡ true) (list_any-append (opens key) opened more) h)
  where
    at : (n a b : Bool) → (n && not (a || b)) ≡ true → (n && not a) ≡ true
    at true true b h = h
    at true false b h = refl
    at false a b h = h

kept-at : (closed : List ℕ → Bool) (w : Way) (rest : List Way) (key : List ℕ) (b : Bool) → closed w.key ≡ b →
    (among key (keys_of rest) ≡ true → closed key ≡ true) → among key (keys_of (if b then w ∷ rest else rest)) ≡ true → closed key ≡ true
kept-at closed w rest key true e step h =
    either (bytes_eq key w.key) (among key (keys_of rest)) (λ same. subst (λ k. closed k ≡ true) (sym (same_bytes key w.key same)) e) step h
  where
    either : (a b : Bool) → (a ≡ true → closed key ≡ true) → (b ≡ true → closed key ≡ true) → (a || b) ≡ true → closed key ≡ true
    either true b f g h = f refl
    either false b f g h = g h
kept-at closed w rest key false e step h = step h

kept-keys : (closed : List ℕ → Bool) (ws : List Way) (key : List ℕ) → among key (keys_of (filter (λ (w : Way). closed w.key) ws)) ≡ true → closed key ≡ true
kept-keys closed [] key h = absurd (cc)
kept-keys closed (w ∷ ws) key h = kept-at closed w (filter (λ (w : Way). closed w.key) ws) key (closed w.key) refl (kept-keys closed ws key) h

-- what is met as closed is closed
met-closed : (reg : Register) (closed : List ℕ → Bool) (roots : List (List ℕ)) (key : List ℕ) → among key (keys_of (closed_met reg closed roots)) ≡ true → closed key ≡ true
met-closed reg closed roots key h =
    kept-keys closed (fresh (λ k. false) (all_ways reg closed roots)) key
    (subst (λ (ws : List Way). among key (keys_of ws) ≡ true) (first-filter closed (λ k. false) (all_ways reg closed roots)) h)

pub expands : (reg : Register) (roots : List (List ℕ)) (sender : Option (List ℕ)) (opened more : List Gate) →
    ExpansionGrows (opened ++ more) (expansion reg roots sender opened) (expansion reg roots sender (opened ++ more))
expands reg roots sender opened more = record {
  leaves = λ key h. leaf-keys reg (leaves reg (is_closed reg sender (opened ++ more)) roots) key
      ∙ leaves-stay reg (is_closed reg sender opened) (is_closed reg sender (opened ++ more)) roots key (fewer-closed reg sender opened more)
      (sym (leaf-keys reg (leaves reg (is_closed reg sender opened) roots) key) ∙ h);
  closed = stays;
}
  where
    by-test : (key : List ℕ) (b : Bool) → is_closed reg sender (opened ++ more) key ≡ b → among key (keys_of (closed_met reg (is_closed reg sender opened) roots)) ≡ true →
        (is_opened (closed_gates (map (closed_of reg) (closed_met reg (is_closed reg sender (opened ++ more)) roots))) (gates.Object key) || is_opened (opened ++ more) (gates.Object key)) ≡ true
    by-test key true e h =
        or_left (is_opened (closed_gates (map (closed_of reg) (closed_met reg (is_closed reg sender (opened ++ more)) roots))) (gates.Object key)) (is_opened (opened ++ more) (gates.Object key))
        (closed-keys reg (closed_met reg (is_closed reg sender (opened ++ more)) roots) key
        ∙ closed-stay reg (is_closed reg sender opened) (is_closed reg sender (opened ++ more)) roots key (fewer-closed reg sender opened more) h e)
    by-test key false e h =
        or_right (is_opened (closed_gates (map (closed_of reg) (closed_met reg (is_closed reg sender (opened ++ more)) roots))) (gates.Object key)) (is_opened (opened ++ more) (gates.Object key))
        (sym (opened-gate (opened ++ more) key)
        ∙ shown (needs_approval reg key sender) (list_any (opens key) opened) (list_any (opens key) (opened ++ more)) (met-closed reg (is_closed reg sender opened) roots key h) e)
      where
        shown : (n a b : Bool) → (n && not a) ≡ true → (n && not b) ≡ false → b ≡ true
        shown true a true h e = refl
        shown true a false h e = sym e
        shown false a b h e = absurd (cc)

    stays : (gate : Gate) → is_gate_among gate (closed_gates (map (closed_of reg) (closed_met reg (is_closed reg sender opened) roots))) ≡ true →
        (is_gate_among gate (closed_gates (map (closed_of reg) (closed_met reg (is_closed reg sender (opened ++ more)) roots))) || is_gate_among gate (opened ++ more)) ≡ true
    stays (gates.Object key) h = by-test key (is_closed reg sender (opened ++ more) key) refl (sym (closed-keys reg (closed_met reg (is_closed reg sender opened) roots) key) ∙ h)
    stays (gates.Rule place) h = let e : true ≡ false = sym h ∙ no-rule (map (closed_of reg) (closed_met reg (is_closed reg sender opened) roots)) place in absurd (cc)
