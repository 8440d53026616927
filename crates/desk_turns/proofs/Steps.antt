-- What the steps of a call tell together.
use Rattle.std.proofs.Common.{◌≡◌, ◌≢◌, ◌==◌, ℕ, Bool, List, [], ◌∷◌, ◌++◌, length, sym, ap, ◌∙◌, subst, Option, Some, None, arith, MatchBool, eq-eqb, ne_eqb}
use mathlib.Core.Option.{none}
use Rattle.atomic_table.specs.Table.{Me, step, rest}
use Rattle.desk_turns.specs.declared.view.Element.{Element}
use Rattle.desk_turns.specs.declared.view.View.{View}
use Rattle.desk_turns.specs.declared.view.Stage.TheVariants.{Idle, Waiting, Next, Holding, Returned}
use Rattle.desk_turns.specs.History.{element, calls_of, LeadsFrom}
use Rattle.desk_turns.specs.Plays.{at_stage, having_seen, Sees, IsLegal, took, gave}
use Rattle.desk_turns.specs.Calls.{Begun, Full, Made, Called}
use Rattle.desk_turns.proofs.Lists.{leads_more}

abbrev value_or : {C : Type 0} → C → List (ℕ × Option C) → C
value_or c [] = c
value_or c (x ∷ xs) = elim (x.1) [ Some y ↦ y | None ↦ c ]

abbrev slot_or : {C : Type 0} → List (ℕ × Option C) → Option C
slot_or [] = None
slot_or (x ∷ xs) = x.1

abbrev pub M : Type 0 → Type 0 → Type 0
M C E = Me (Option C) (View C E)

module _ {C E : Type 0} where
  pub same_stage : {m n : M C E} → m ≡ n → m.0.stage ≡ n.0.stage
  same_stage e = ap (λ (z : M C E). z.0.stage) e

  pub same_hand : {m n : M C E} → m ≡ n → m.1 ≡ n.1
  same_hand e = ap (λ (z : M C E). z.1) e

  -- what a seat knows of the desk itself
  pub same_key : {m n : M C E} → m ≡ n → (m.0.calls ≡ n.0.calls) × (m.0.start ≡ n.0.start)
  same_key e = (ap (λ (z : M C E). z.0.calls) e, ap (λ (z : M C E). z.0.start) e)

  abbrev Drew : M C E → ℕ → M C E → Bool → Type 0
  Drew m old w b = MatchBool b (w ≡ (at_stage m.0 (Waiting old), m.1)) (w ≡ m)

  pub drew_none : (old n : ℕ) (m w : M C E) → n ≢ old → Drew m old w (n == old) → w ≡ m
  drew_none old n m w is d = subst (λ b. Drew m old w b) (ne_eqb n old is) d

  pub drew_one : (old n : ℕ) (m u w : M C E) → u ≡ m → n ≡ old → Drew u old w (n == old) → w ≡ (at_stage m.0 (Waiting old), m.1)
  drew_one old n m u w same is d = subst (λ (z : M C E). w ≡ (at_stage z.0 (Waiting old), z.1)) same (subst (λ b. Drew u old w b) (eq-eqb n old is) d)

  abbrev Came : M C E → M C E → ℕ → Type 0
  Came m w n = (t : ℕ) → m.0.stage ≡ Waiting t → MatchBool (n == t) (w ≡ (at_stage m.0 (Next t), m.1)) (w ≡ m)

  pub came_not : (t n : ℕ) (m w : M C E) → m.0.stage ≡ Waiting t → n ≢ t → Came m w n → w ≡ m
  came_not t n m w waiting is d = subst (λ b. MatchBool b (w ≡ (at_stage m.0 (Next t), m.1)) (w ≡ m)) (ne_eqb n t is) (d t waiting)

  pub came_now : (t n : ℕ) (m u w : M C E) → u ≡ m → m.0.stage ≡ Waiting t → n ≡ t → Came u w n → w ≡ (at_stage m.0 (Next t), m.1)
  came_now t n m u w same waiting is d = subst (λ b. MatchBool b (w ≡ (at_stage m.0 (Next t), m.1)) (w ≡ m)) (eq-eqb n t is) (subst (λ (z : M C E). Came z w n) same d t waiting)

module _ {C E : Type 0} (does : C → E → C → Type 0) where
  pub same_lead : (value : C) {m n : M C E} → m ≡ n → LeadsFrom does n.0.start n.0.seen value → LeadsFrom does m.0.start m.0.seen value
  same_lead value e f = subst (λ (z : M C E). LeadsFrom does z.0.start z.0.seen value) (sym e) f

  pub took_slot : (slots : ℕ) (m w : M C E) (n t : ℕ) → m.0.stage ≡ Next t → took does (step slots 2 1 0 none) m n w → (x : Option C) × (w.1 ≡ (0, x) ∷ rest w.1)
  took_slot slots m w n t turn tells = let r = tells t turn in let e : w.1 ≡ (0, Some r.0) ∷ m.1 = ap (λ (z : M C E). z.1) r.2 in
      (Some r.0, e ∙ ap (λ (l : List (ℕ × Option C)). (0, Some r.0) ∷ l) (sym (ap (λ (l : List (ℕ × Option C)). rest l) e)))

  pub took_some : (slots : ℕ) (m w : M C E) (n t : ℕ) (x : Option C) → m.0.stage ≡ Next t → took does (step slots 2 1 0 none) m n w → w.1 ≡ (0, x) ∷ rest w.1 → (c : C) × (x ≡ Some c)
  took_some slots m w n t x turn tells is = let r = tells t turn in let e : w.1 ≡ (0, Some r.0) ∷ m.1 = ap (λ (z : M C E). z.1) r.2 in (r.0, ap slot_or (sym is ∙ e))

  pub began : (slots : ℕ) (m w u : M C E) (n t : ℕ) (c : C) → m.0.stage ≡ Next t → m.1 ≡ [] → took does (step slots 2 1 0 none) m n w
      → w.1 ≡ (0, Some c) ∷ rest w.1 → u ≡ (w.0, (0, None) ∷ rest w.1) → Begun does m u c
  began slots m w u n t c turn empty tells is now = let r = tells t turn in
      let e : w.1 ≡ (0, Some r.0) ∷ m.1 = ap (λ (z : M C E). z.1) r.2 in
      let same : r.0 ≡ c = ap (λ (l : List (ℕ × Option C)). value_or c l) (sym e ∙ is) in
      let At : ℕ → M C E = λ x. (record m.0 { stage = Holding x; seen = r.1 }, (0, None) ∷ []) in
      let here : u ≡ At t = now ∙ λ i. ((r.2 i).0, (0, None) ∷ (ap (λ (l : List (ℕ × Option C)). rest l) e ∙ empty) i) in
      let long = r.5 in let less = r.6 in record {
        history = r.1;
        now = here ∙ ap At (sym r.5);
        sees = r.3;
        leads = subst (λ (x : C). LeadsFrom does m.0.start r.1 x) same r.4;
        room = omega arith;
      }

  pub made : (names : ℕ → E → Type 0) (slots : ℕ) (m u w : M C E) (c : C) → m.0.stage ≡ Holding (length m.0.seen) → m.1 ≡ (0, None) ∷ [] → u ≡ (m.0, (0, Some c) ∷ rest m.1)
      → gave does names (step slots 2 0 0 none) u 0 w → Made does names c (Returned (length m.0.seen)) m w
  made names slots m u w c out hand now gave' =
      let r = subst (λ (z : M C E). gave does names (step slots 2 0 0 none) z 0 w) now gave' (length m.0.seen) c out (ap (λ (l : List (ℕ × Option C)). (0, Some c) ∷ rest l) hand) in
      record { by = r.0; deed = r.1; named = r.2; led = r.3; now = r.4; own = r.5 }

  abbrev SawFull : M C E → M C E → Bool → Type 0
  SawFull m w b = MatchBool b
      ((history : List (Element E)) × (w ≡ (having_seen m.0 history, m.1)) × Sees m.0 history × IsLegal does m.0 history × (length history ≡ m.0.calls)) (w ≡ m)

  pub full_now : (calls n : ℕ) (m u w : M C E) → u ≡ m → m.0.calls ≡ calls → n ≡ calls → SawFull u w (n == u.0.calls) → Full does m w
  full_now calls n m u w same key is f =
      let f' : SawFull m w (n == m.0.calls) = subst (λ (z : M C E). SawFull z w (n == z.0.calls)) same f in
      let r = subst (λ b. SawFull m w b) (eq-eqb n m.0.calls (is ∙ sym key)) f' in
      record { history = r.0; now = r.1; sees = r.2; legal = r.3; all = r.4 }

  pub full_not : (calls n : ℕ) (m u w : M C E) → u ≡ m → m.0.calls ≡ calls → n ≢ calls → SawFull u w (n == u.0.calls) → w ≡ u
  full_not calls n m u w same key is f = subst (λ b. SawFull u w b) (ne_eqb n u.0.calls (λ e. is (e ∙ (ap (λ (z : M C E). z.0.calls) same ∙ key)))) f

  from_more : (start : Option C) (history : List (Element E)) (c c' : C) (e : Element E) → LeadsFrom does start history c → does c e.deed c' → LeadsFrom does start (history ++ e ∷ []) c'
  from_more None history c c' e f d = f
  from_more (Some first) history c c' e f d = leads_more does first history c c' e f d

  -- what a seat that has the value may say of it
  pub begun_leads : (m u : M C E) (value : C) → Begun does m u value → LeadsFrom does u.0.start u.0.seen value
  begun_leads m u value b = same_lead value b.now b.leads

  pub begun_holds : (m u : M C E) (value : C) → Begun does m u value → (u.0.stage ≡ Holding (length u.0.seen)) × (u.1 ≡ (0, None) ∷ [])
  begun_holds m u value b = (same_stage b.now ∙ ap (λ (z : M C E). Holding (length z.0.seen)) (sym b.now), same_hand b.now)

  -- a call, from its two ends
  pub called : (names : ℕ → E → Type 0) (m u w : M C E) (before after : C) → Begun does m u before → Made does names after Idle u w → Called does names m.0 w.0
  called names m u w before after b made =
      let begun : M C E = (record m.0 { stage = Holding (length b.history); seen = b.history }, (0, None) ∷ []) in
      let r : Made does names after Idle begun w = subst (λ (z : M C E). Made does names after Idle z w) b.now made in
      let l : Element E = element r.by r.deed in
      let now = r.now in
      record {
        history = b.history;
        by = r.by;
        deed = r.deed;
        named = r.named;
        sees = b.sees;
        room = b.room;
        led = (r.led.0, after, r.led.1, r.led.2, same_lead after now (from_more m.0.start b.history r.led.0 after l r.led.1 r.led.2));
        seen = ap (λ (z : M C E). z.0.seen) now;
        numbers = ap (λ (z : M C E). z.0.numbers) now;
        own = ap (λ (z : M C E). calls_of z.0.numbers z.0.seen) now ∙ (r.own ∙ ap (λ (x : List (Element E)). x ++ l ∷ []) b.sees.1);
        key = (ap (λ (z : M C E). z.0.start) now, ap (λ (z : M C E). z.0.calls) now);
      }
