-- Each step on a desk keeps its rule.
use Rattle.std.proofs.Common.{◌≡◌, ◌≢◌, ℕ, zero, suc, ◌+◌, ◌<◌, ◌≤◌, ◌==◌, ◌%◌, Bool, true, cond, List, [], ◌∷◌, ◌++◌, length, get_or, set, sym, refl, ap, ◌∙◌, subst, ⊎_elim, arith, eq-eqb, ne_eqb, eqb-true, Option, Some, None, length-set, length-append, MatchBool}
use Rattle.std.proofs.Math.Nat.{mod-eq_of_lt}
use Rattle.std.proofs.lemmas.List.{append-nil}
use Rattle.std.proofs.lemmas.Bool.{or_cases, or_left, or_right}
use mathlib.Core.Logic.{dite}
use mathlib.Core.Option as maybe
use mathlib.Core.Option.{some, none, some-injective, some-ne-none}
use native.Mathlib.Decide.{ℕ_discrete}
use lib.ListN.{get_elem?}
use prog.Atomic.{either}
use Rattle.atomic_table.specs.Table.{State, Me, Act, step, keeps, takes, gives, Valid, homes_after, carried_after, rest as others_of, Allows, Splits, Joins}
use Rattle.atomic_table.proofs.Lists.{set_here, set_else, set_again, at_snoc, at_longer}
use Rattle.desk_turns.specs.declared.view.Element.{Element}
use Rattle.desk_turns.specs.declared.view.View.{View}
use Rattle.desk_turns.specs.declared.view.Stage.{Stage}
use Rattle.desk_turns.specs.declared.view.Stage.TheVariants.{Idle, Waiting, Next, Holding, Returned, Spent}
use Rattle.desk_turns.specs.History.{is_among, element, calls_of, Knows, HalvesKnow, longer, Leads, LeadsFrom}
use Rattle.desk_turns.specs.Rule.{Phase, at_rest, away, returned, out_word, made_now, Story, words_of, homes_of, HasTicket, Stands, HasTurn, Sits, Facts, Kept, newcomer}
use Rattle.desk_turns.specs.Plays.{at_stage, having_seen, Sees, IsLegal, drew, saw_full, came, took, gave, gave_back, united, spent, fresh, settled}
use Rattle.desk_turns.proofs.Lists.{halves_more, at_end, calls_of_none, knows_longer, same_number, is_among-more, not_true, at_inside, same_at, each_set, calls_of-append, calls_of_own, calls_of_known, knows_same, knows_all, knows_more, knows_prefix, leads_more, from_start, start_from}

abbrev ticket_or : Stage → ℕ
ticket_or (Waiting t) = t
ticket_or (Next t) = t
ticket_or (Holding t) = t
ticket_or (Returned t) = t
ticket_or _ = 0

abbrev value_or : {C : Type 0} → C → List (ℕ × Option C) → C
value_or c [] = c
value_or c (x ∷ xs) = elim (x.1) [ Some y ↦ y | None ↦ c ]

ticket_same : (t u : ℕ) → Waiting t ≡ Waiting u → t ≡ u
ticket_same t u e = ap ticket_or e

module _ {C E : Type 0} (does : C → E → C → Type 0) (calls : ℕ) (first : C) where
  abbrev V : Type 0
  V = View C E

  abbrev M : Type 0
  M = Me (Option C) V

  abbrev sat : V → List (ℕ × Option C) → M
  sat v c = (v, c)

  abbrev Rule : State (Option C) V → Type 0
  Rule s = Kept does calls first s

  abbrev F : Story C E → List V → Type 0
  F d vs = Facts does calls first d vs

  -- the step on a table of these words, homes and views
  abbrev Goes : ℕ → M → ℕ → (ℕ → ℕ) → (ℕ → M → Type 0) → List ℕ → List (maybe.Option (Option C)) → List V → Type 0
  Goes id me i f then ws hs vs = (w : V) × (a : Act (Option C)) × Valid hs me.1 a
      × Rule (record { words = set ws i (f (get_or ws i 0)); homes = homes_after hs me.1 a; views = set vs id w }) × then (get_or ws i 0) (w, carried_after me.1 a)

  parted : (slots id : ℕ) (me : M) (i : ℕ) (f : ℕ → ℕ) (then : ℕ → M → Type 0)
      → ((d : Story C E) (vs : List V) → F d vs → get_elem? vs id ≡ some me.0 → Goes id me i f then (words_of d) (homes_of d) vs)
      → Allows Rule slots id me i f then
  parted slots id me i f then go s k _ at _ =
      subst (λ ws. Goes id me i f then ws s.homes s.views) (sym k.words)
      (subst (λ hs. Goes id me i f then (words_of k.story) hs s.views) (sym k.homes) (go k.story s.views k.facts at))

  -- a story may be looked at as one of a known phase
  at_phase : (d : Story C E) (p : Phase) → d.phase ≡ p → (P : Story C E → Type 0) → P (record d { phase = p }) → P d
  at_phase d p e P x = subst P (λ i. record d { phase = sym e i }) x

  abbrev Quiet : Stage → Type 0
  Quiet Idle = Unit {0}
  Quiet (Waiting t) = Unit {0}
  Quiet (Next t) = Unit {0}
  Quiet (Holding t) = ⊥
  Quiet (Returned t) = ⊥
  Quiet Spent = Unit {0}

  -- a quiet seat's view may change while another is busy
  turn_set : (d d' : Story C E) (vs : List V) (id : ℕ) (v w : V) → get_elem? vs id ≡ some v → Quiet v.stage → d'.served ≡ d.served → d.drawn ≤ d'.drawn
      → (d.served < d.drawn → d'.owner d.served ≡ d.owner d.served) → (p : Phase) → HasTurn d vs p → HasTurn d' (set vs id w) p
  turn_set d d' vs id v w at quiet same more own at_rest b = tt
  turn_set d d' vs id v w at quiet same more own away b =
      let other : d.owner d.served ≢ id = λ e. subst Quiet b.3 (subst (λ (x : V). Quiet x.stage) (same_at vs id v b.1 at (subst (λ j. get_elem? vs j ≡ some b.1) e b.2)) quiet) in
      let lt = b.0 in
      let o : d'.owner d'.served ≡ d.owner d.served = ap d'.owner same ∙ own b.0 in
      (omega arith, b.1, ap (λ j. get_elem? (set vs id w) j) o ∙ (set_else vs id (d.owner d.served) w other ∙ b.2), b.3 ∙ ap Holding (sym same))
  turn_set d d' vs id v w at quiet same more own returned b =
      let other : d.owner d.served ≢ id = λ e. subst Quiet b.3 (subst (λ (x : V). Quiet x.stage) (same_at vs id v b.1 at (subst (λ j. get_elem? vs j ≡ some b.1) e b.2)) quiet) in
      let lt = b.0 in
      let o : d'.owner d'.served ≡ d.owner d.served = ap d'.owner same ∙ own b.0 in
      (omega arith, b.1, ap (λ j. get_elem? (set vs id w) j) o ∙ (set_else vs id (d.owner d.served) w other ∙ b.2), b.3 ∙ ap Returned (sym same))

  -- what is known of the elements stays known where a view is set to one with at least its numbers
  covered_set : (history : List (Element E)) (keeper : ℕ → ℕ) (vs : List V) (id : ℕ) (v w : V) → get_elem? vs id ≡ some v → ((n : ℕ) → is_among n v.numbers ≡ true → is_among n w.numbers ≡ true)
      → ((k : ℕ) (l : Element E) → get_elem? history k ≡ some l → (x : V) × (get_elem? vs (keeper l.by) ≡ some x) × (is_among l.by x.numbers ≡ true))
      → (k : ℕ) (l : Element E) → get_elem? history k ≡ some l → (x : V) × (get_elem? (set vs id w) (keeper l.by) ≡ some x) × (is_among l.by x.numbers ≡ true)
  covered_set history keeper vs id v w at more known k l e = let t = known k l e in dite (ℕ_discrete (keeper l.by) id)
      (λ same. (
        w,
        subst (λ j. get_elem? (set vs id w) j ≡ some w) (sym same) (set_here vs id w (at_inside vs id v at)),
        more l.by (subst (λ (x : V). is_among l.by x.numbers ≡ true) (same_at vs id t.0 v (subst (λ j. get_elem? vs j ≡ some t.0) same t.1) at) t.2),
      ))
      (λ other. (t.0, set_else vs id (keeper l.by) w other ∙ t.1, t.2))

  unused_set : (keeper : ℕ → ℕ) (vs : List V) (id : ℕ) (w : V) → ((n : ℕ) → length vs ≤ n → keeper n ≡ n) → (n : ℕ) → length (set vs id w) ≤ n → keeper n ≡ n
  unused_set keeper vs id w known n le = known n (subst (λ (x : ℕ). x ≤ n) (length-set vs id w) le)

  -- a story with the same history and keepers, of which the others know what they knew
  restands : (d d' : Story C E) (j : ℕ) (v : V) → Sits calls first d j v → d'.history ≡ d.history → d'.keeper ≡ d.keeper → Stands d' j v.seen v.stage → Sits calls first d' j v
  restands d d' j v s history keeper now = record {
    key_is = s.key_is;
    keeps_own = λ n. ap (λ (k : ℕ → ℕ). k j) keeper ∙ s.keeps_own n;
    numbers = λ n is. ap (λ (k : ℕ → ℕ). k n) keeper ∙ s.numbers n is;
    knows = subst (λ (l : List (Element E)). Knows l v.numbers v.seen) (sym history) s.knows;
    halves = subst (λ (l : List (Element E)). HalvesKnow l v.numbers v.halves) (sym history) s.halves;
    stands = now;
  }

  -- the holder of the first ticket that is not given back is one seat
  one_holder : (d : Story C E) (i j t u : ℕ) → HasTicket d i t → HasTicket d j u → t ≡ u → i ≡ j
  one_holder d i j t u h k e = sym h.2 ∙ (ap d.owner e ∙ k.2)

  pub draws : (slots id : ℕ) (me : M) (old new : ℕ) → me.0.stage ≡ Idle → new ≡ old + 1 → old < calls
      → Allows Rule slots id me 0 (λ n. either (n == old) new n) (drew (step slots 0 old new none) me)
  draws slots id me old new idle up room = parted slots id me 0 (λ n. either (n == old) new n) (drew (step slots 0 old new none) me) (λ d vs f at. dite (ℕ_discrete d.drawn old)
      (λ hit.
      let w : V = at_stage me.0 (Waiting old) in
      let owner : ℕ → ℕ = λ t. cond (t == d.drawn) id (d.owner t) in
      let d' : Story C E = record d { drawn = d.drawn + 1; owner = owner } in
      let own : (t : ℕ) → t < d.drawn → owner t ≡ d.owner t = λ t lt. ap (λ b. cond b id (d.owner t)) (ne_eqb t d.drawn (omega arith)) in
      let last : owner old ≡ id = ap (λ b. cond b id (d.owner old)) (eq-eqb old d.drawn (sym hit)) in
      let s = f.seats id me.0 at in
      let order = f.order in
      let more : d.drawn ≤ d.drawn + 1 = omega arith in
      let holds : (j t : ℕ) → HasTicket d j t → HasTicket d' j t = λ j t h. let lt = h.1 in (h.0, omega arith, own t lt ∙ h.2) in
      let stand : (j : ℕ) (seen : List (Element E)) (st : Stage) → Stands d j seen st → Stands d' j seen st = λ j seen. elim [
        | Idle ↦ (λ h. tt)
        | Waiting t ↦ (λ h. holds j t h)
        | Next t ↦ (λ h. (holds j t h.0, h.1, h.2))
        | Holding t ↦ (λ h. (holds j t h.0, h.1, h.2, h.3))
        | Returned t ↦ (λ h. (holds j t h.0, h.1, h.2))
        | Spent ↦ (λ h. tt)
      ] in
      let live : me.0.stage ≢ Spent = λ e. let x : Idle ≡ Spent = sym idle ∙ e in cc in
      let facts : F d' (set vs id w) = record {
        order = omega arith;
        most = omega arith;
        count = f.count;
        leads = f.leads;
        turn = turn_set d d' vs id me.0 w at (subst Quiet (sym idle) tt) refl more (own d.served) d.phase f.turn;
        seats = each_set (Sits calls first d') vs id w
            (record {
              key_is = λ _. s.key_is live;
              keeps_own = λ _. s.keeps_own live;
              numbers = s.numbers;
              knows = s.knows;
              halves = s.halves;
              stands = (omega arith, omega arith, last);
            })
            (λ j v _ there. let o = f.seats j v there in restands d d' j v o refl refl (stand j v.seen v.stage o.stands));
        unused = unused_set d.keeper vs id w f.unused;
        covered = covered_set d.history d.keeper vs id me.0 w at (λ n is. is) f.covered;
      } in
      let grown : either (d.drawn == old) new d.drawn ≡ d.drawn + 1 = ap (λ b. either b new d.drawn) (eq-eqb d.drawn old hit) ∙ (up ∙ ap (λ x. x + 1) (sym hit)) in (
        w,
        keeps,
        tt,
        record { story = d'; words = ap (λ (x : ℕ). x ∷ d.served ∷ out_word d.phase ∷ []) grown; homes = refl; facts = facts },
        subst (λ b. MatchBool b (sat w me.1 ≡ sat (at_stage me.0 (Waiting old)) me.1) (sat w me.1 ≡ me)) (sym (eq-eqb d.drawn old hit)) refl,
      ))
      (λ lost.
      let same : set vs id me.0 ≡ vs = set_again vs id me.0 at in
      let as_was : either (d.drawn == old) new d.drawn ≡ d.drawn = ap (λ b. either b new d.drawn) (ne_eqb d.drawn old lost) in (
        me.0,
        keeps,
        tt,
        record { story = d; words = ap (λ (x : ℕ). x ∷ d.served ∷ out_word d.phase ∷ []) as_was; homes = refl; facts = subst (F d) (sym same) f },
        subst (λ b. MatchBool b (me ≡ sat (at_stage me.0 (Waiting old)) me.1) (me ≡ me)) (sym (ne_eqb d.drawn old lost)) refl,
      )))

  -- a seat in no call looks whether all turns were given back
  pub looks_for_end : (slots id : ℕ) (me : M) → me.0.stage ≡ Idle → Allows Rule slots id me 1 (λ n. n) (saw_full does (step slots 1 0 0 none) me)
  looks_for_end slots id me idle = parted slots id me 1 (λ n. n) (saw_full does (step slots 1 0 0 none) me) (λ d vs f at.
      let s = f.seats id me.0 at in
      let live : me.0.stage ≢ Spent = λ e. let x : Idle ≡ Spent = sym idle ∙ e in cc in
      let key = s.key_is live in
      let Tells : V → List (ℕ × Option C) → Bool → Type 0 = λ w c b. MatchBool b
      ((history : List (Element E)) × (sat w c ≡ sat (having_seen me.0 history) me.1) × Sees me.0 history × IsLegal does me.0 history × (length history ≡ me.0.calls)) (sat w c ≡ me) in
      dite (ℕ_discrete d.served me.0.calls)
      (λ hit.
      let w : V = having_seen me.0 d.history in
      let order = f.order in let most = f.most in
      let all : length d.history ≡ me.0.calls =
      let P : Phase → Type 0 = λ p. HasTurn d vs p → length d.history ≡ d.served + made_now p → length d.history ≡ me.0.calls in
      let none_has_it : (p : Phase) → P p = elim [ at_rest ↦ (λ b c. omega arith) | away ↦ (λ b c. omega arith) | returned ↦ (λ b c. let lt = b.0 in let e = key.1 in absurd (omega arith)) ] in
      none_has_it d.phase f.turn f.count in
      let facts : F d (set vs id w) = record {
        order = f.order;
        most = f.most;
        count = f.count;
        leads = f.leads;
        turn = turn_set d d vs id me.0 w at (subst Quiet (sym idle) tt) refl (omega arith) (λ _. refl) d.phase f.turn;
        seats = each_set (Sits calls first d) vs id w
            (record { key_is = λ _. key; keeps_own = λ _. s.keeps_own live; numbers = s.numbers; knows = knows_all d.history me.0.numbers; halves = s.halves; stands = subst (Stands d id d.history) (sym idle) tt })
            (λ j v _ there. f.seats j v there);
        unused = unused_set d.keeper vs id w f.unused;
        covered = covered_set d.history d.keeper vs id me.0 w at (λ n is. is) f.covered;
      } in (
        w,
        keeps,
        tt,
        record { story = d; words = refl; homes = refl; facts = facts },
        subst (Tells w me.1) (sym (eq-eqb d.served me.0.calls hit)) (
          d.history,
          refl,
          (knows_prefix d.history me.0.numbers me.0.seen s.knows, knows_same d.history me.0.numbers me.0.seen s.knows),
          (d.value, from_start does me.0.start first d.history d.value key.0 f.leads),
          all,
        ),
      ))
      (λ other. (
        me.0,
        keeps,
        tt,
        record { story = d; words = refl; homes = refl; facts = subst (F d) (sym (set_again vs id me.0 at)) f },
        subst (Tells me.0 me.1) (sym (ne_eqb d.served me.0.calls other)) refl,
      )))

  -- the turn has come where the turns given back are as many as the ticket
  pub comes : (slots id : ℕ) (me : M) (t : ℕ) → me.0.stage ≡ Waiting t → Allows Rule slots id me 1 (λ n. n) (came (step slots 1 0 0 none) me)
  comes slots id me t drawn = parted slots id me 1 (λ n. n) (came (step slots 1 0 0 none) me) (λ d vs f at. dite (ℕ_discrete d.served t)
      (λ hit.
      let w : V = at_stage me.0 (Next t) in
      let s = f.seats id me.0 at in
      let live : me.0.stage ≢ Spent = λ e. let x : Waiting t ≡ Spent = sym drawn ∙ e in cc in
      let h : HasTicket d id t = subst (Stands d id me.0.seen) drawn s.stands in
      let mine : d.owner d.served ≡ id = ap d.owner hit ∙ h.2 in
      let P : Phase → Type 0 = λ p. HasTurn d vs p → p ≡ at_rest in
      let only : (p : Phase) → P p = elim [
        | at_rest ↦ (λ b. refl)
        | away ↦ (λ b. let e : me.0 ≡ b.1 = same_at vs id me.0 b.1 at (subst (λ j. get_elem? vs j ≡ some b.1) mine b.2) in let x : Waiting t ≡ Holding d.served = sym drawn ∙ (ap (λ (v : V). v.stage) e ∙ b.3) in absurd cc)
        | returned ↦ (λ b. let e : me.0 ≡ b.1 = same_at vs id me.0 b.1 at (subst (λ j. get_elem? vs j ≡ some b.1) mine b.2) in let x : Waiting t ≡ Returned d.served = sym drawn ∙ (ap (λ (v : V). v.stage) e ∙ b.3) in absurd cc)
      ] in
      let facts : F d (set vs id w) = record {
        order = f.order;
        most = f.most;
        count = f.count;
        leads = f.leads;
        turn = turn_set d d vs id me.0 w at (subst Quiet (sym drawn) tt) refl (omega arith) (λ _. refl) d.phase f.turn;
        seats = each_set (Sits calls first d) vs id w
            (record { key_is = λ _. s.key_is live; keeps_own = λ _. s.keeps_own live; numbers = s.numbers; knows = s.knows; halves = s.halves; stands = (h, sym hit, only d.phase f.turn) })
            (λ j v _ there. f.seats j v there);
        unused = unused_set d.keeper vs id w f.unused;
        covered = covered_set d.history d.keeper vs id me.0 w at (λ n is. is) f.covered;
      } in (
        w,
        keeps,
        tt,
        record { story = d; words = refl; homes = refl; facts = facts },
        λ u is. let same : t ≡ u = ticket_same t u (sym drawn ∙ is) in
            subst (λ (x : ℕ). MatchBool (d.served == x) (sat w me.1 ≡ sat (at_stage me.0 (Next x)) me.1) (sat w me.1 ≡ me)) same
            (subst (λ b. MatchBool b (sat w me.1 ≡ sat (at_stage me.0 (Next t)) me.1) (sat w me.1 ≡ me)) (sym (eq-eqb d.served t hit)) refl),
      ))
      (λ other. (
        me.0,
        keeps,
        tt,
        record { story = d; words = refl; homes = refl; facts = subst (F d) (sym (set_again vs id me.0 at)) f },
        λ u is. let same : t ≡ u = ticket_same t u (sym drawn ∙ is) in
            subst (λ (x : ℕ). MatchBool (d.served == x) (me ≡ sat (at_stage me.0 (Next x)) me.1) (me ≡ me)) same
            (subst (λ b. MatchBool b (me ≡ sat (at_stage me.0 (Next t)) me.1) (me ≡ me)) (sym (ne_eqb d.served t other)) refl),
      )))

  -- a story of the same history and keepers, in which another seat's tickets are as they were
  others_stand : (d d' : Story C E) (id t : ℕ) → HasTicket d id t → t ≡ d.served → ((j u : ℕ) → j ≢ id → HasTicket d j u → HasTicket d' j u)
      → (j : ℕ) → j ≢ id → (seen : List (Element E)) (st : Stage) → Stands d j seen st → Stands d' j seen st
  others_stand d d' id t h is more j other seen Idle k = tt
  others_stand d d' id t h is more j other seen (Waiting u) k = more j u other k
  others_stand d d' id t h is more j other seen (Next u) k = absurd (other (one_holder d j id u t k.0 h (k.1 ∙ sym is)))
  others_stand d d' id t h is more j other seen (Holding u) k = absurd (other (one_holder d j id u t k.0 h (k.1 ∙ sym is)))
  others_stand d d' id t h is more j other seen (Returned u) k = absurd (other (one_holder d j id u t k.0 h (k.1 ∙ sym is)))
  others_stand d d' id t h is more j other seen Spent k = tt

  -- the value is taken out
  pub takes_out : (slots id : ℕ) (me : M) (t : ℕ) → me.0.stage ≡ Next t → Allows Rule slots id me 2 (λ _. 1) (took does (step slots 2 1 0 none) me)
  takes_out slots id me t turn = parted slots id me 2 (λ _. 1) (took does (step slots 2 1 0 none) me) (λ d vs f₀ at₀.
      let stood : Stands d id me.0.seen (Next t) = subst (Stands d id me.0.seen) turn (f₀.seats id me.0 at₀).stands in
      at_phase d at_rest stood.2 (λ x. F x vs → Goes id me 2 (λ _. 1) (took does (step slots 2 1 0 none) me) (words_of x) (homes_of x) vs) (λ f.
      let s = f.seats id me.0 at₀ in
      let dd : Story C E = record d { phase = at_rest } in
      let d' : Story C E = record d { phase = away } in
      let w : V = record me.0 { stage = Holding t; seen = d.history } in
      let live : me.0.stage ≢ Spent = λ e. let x : Next t ≡ Spent = sym turn ∙ e in cc in
      let h : HasTicket d id t = stood.0 in
      let mine : d.owner d.served ≡ id = ap d.owner (sym stood.1) ∙ h.2 in
      let lt = h.1 in let is = stood.1 in let most = f.most in let count = f.count in
      let facts : F d' (set vs id w) = record {
        order = f.order;
        most = f.most;
        count = f.count;
        leads = f.leads;
        turn = (omega arith, w, subst (λ j. get_elem? (set vs id w) j ≡ some w) (sym mine) (set_here vs id w (at_inside vs id me.0 at₀)), ap Holding is);
        seats = each_set (Sits calls first d') vs id w
            (record { key_is = λ _. s.key_is live; keeps_own = λ _. s.keeps_own live; numbers = s.numbers; knows = knows_all d.history me.0.numbers; halves = s.halves; stands = (h, is, refl, refl) })
            (λ j v other there. let o = f.seats j v there in restands dd d' j v o refl refl (others_stand dd d' id t h is (λ _ _ _ k. k) j other v.seen v.stage o.stands));
        unused = unused_set d.keeper vs id w f.unused;
        covered = covered_set d.history d.keeper vs id me.0 w at₀ (λ n is. is) f.covered;
      } in (
        w,
        takes 0 (Some d.value),
        refl,
        record { story = d'; words = refl; homes = refl; facts = facts },
        λ u is'. let same : t ≡ u = ap ticket_or (sym turn ∙ is') in (
          d.value,
          d.history,
          ap (λ (x : ℕ). sat (record w { stage = Holding x }) ((0, Some d.value) ∷ me.1)) same,
          (knows_prefix d.history me.0.numbers me.0.seen s.knows, knows_same d.history me.0.numbers me.0.seen s.knows),
          from_start does me.0.start first d.history d.value (s.key_is live).0 f.leads,
          let key = (s.key_is live).1 in omega arith,
          let key = (s.key_is live).1 in omega arith,
        ),
      )) f₀)

  -- the value goes home, with an element that leads to it
  pub gives_home : (slots id : ℕ) (me : M) (t : ℕ) (c c' : C) (e : E) (names : ℕ → E → Type 0) → me.0.stage ≡ Holding t → me.1 ≡ (0, Some c') ∷ [] → LeadsFrom does me.0.start me.0.seen c → does c e c' → names id e
      → Allows Rule slots id me 2 (λ _. 0) (λ _. gave does names (step slots 2 0 0 none) me 0)
  gives_home slots id me t c c' e names out hand from did ok = parted slots id me 2 (λ _. 0) (λ _. gave does names (step slots 2 0 0 none) me 0) (λ d vs f₀ at₀.
      let stood : Stands d id me.0.seen (Holding t) = subst (Stands d id me.0.seen) out (f₀.seats id me.0 at₀).stands in
      at_phase d away stood.2 (λ x. F x vs → Goes id me 2 (λ _. 0) (λ _. gave does names (step slots 2 0 0 none) me 0) (words_of x) (homes_of x) vs) (λ f.
      let s = f.seats id me.0 at₀ in
      let l : Element E = element id e in
      let dd : Story C E = record d { phase = away } in
      let d' : Story C E = record d { phase = returned; value = c'; history = d.history ++ l ∷ [] } in
      let w : V = record me.0 { stage = Returned t; seen = me.0.seen ++ l ∷ []; numbers = id ∷ me.0.numbers; halves = [] } in
      let live : me.0.stage ≢ Spent = λ e. let x : Holding t ≡ Spent = sym out ∙ e in cc in
      let h : HasTicket d id t = stood.0 in
      let is = stood.1 in let lt = h.1 in
      let all : me.0.seen ≡ d.history = stood.3 in
      let mine : d.owner d.served ≡ id = ap d.owner (sym is) ∙ h.2 in
      let count = f.count in
      let key = s.key_is live in
      let own : d.keeper id ≡ id = s.keeps_own live in
      let numbers : (n : ℕ) → is_among n (id ∷ me.0.numbers) ≡ true → d.keeper n ≡ id = λ n is. ⊎_elim
      (λ (x : (n == id) ≡ true). ap d.keeper (eqb-true n id x) ∙ own) (λ (x : is_among n me.0.numbers ≡ true). s.numbers n x) (or_cases (n == id) (is_among n me.0.numbers) is) in
      let more : (n : ℕ) → is_among n me.0.numbers ≡ true → is_among n (id ∷ me.0.numbers) ≡ true = λ n x. or_right (n == id) (is_among n me.0.numbers) x in
      let mine' : is_among id (id ∷ me.0.numbers) ≡ true = or_left (id == id) (is_among id me.0.numbers) (same_number id) in
      let old = covered_set d.history d.keeper vs id me.0 w at₀ more f.covered in
      let known : (k : ℕ) (x : Element E) → get_elem? d.history k ≡ some x → x.by ≡ id → is_among x.by me.0.numbers ≡ true = λ k x there by.
      let t = f.covered k x there in subst (λ (v : V). is_among x.by v.numbers ≡ true) (same_at vs id t.0 me.0 (subst (λ j. get_elem? vs j ≡ some t.0) (ap d.keeper by ∙ own) t.1) at₀) t.2 in
      let facts : F d' (set vs id w) = record {
        order = f.order;
        most = f.most;
        count = length-append d.history (l ∷ []) ∙ omega arith;
        leads = leads_more does first d.history c c' l (subst (λ (x : List (Element E)). Leads does first x c) all (start_from does me.0.start first me.0.seen c key.0 from)) did;
        turn = (omega arith, w, subst (λ j. get_elem? (set vs id w) j ≡ some w) (sym mine) (set_here vs id w (at_inside vs id me.0 at₀)), ap Returned is);
        seats = each_set (Sits calls first d') vs id w
            (record {
              key_is = λ _. key;
              keeps_own = λ _. own;
              numbers = numbers;
              knows = ([], append-nil (me.0.seen ++ l ∷ []) ∙ ap (λ (x : List (Element E)). x ++ l ∷ []) all, refl);
              halves = tt;
              stands = (h, is, refl);
            })
            (λ j v other there. let o = f.seats j v there in record {
              key_is = o.key_is;
              keeps_own = o.keeps_own;
              numbers = o.numbers;
              knows = knows_more d.history v.numbers v.seen l o.knows (not_true (is_among id v.numbers) (λ is. other (sym (o.numbers id is) ∙ own)));
              halves = halves_more d.history v.numbers v.halves l o.halves (not_true (is_among id v.numbers) (λ is. other (sym (o.numbers id is) ∙ own)));
              stands = others_stand dd d' id t h is (λ _ _ _ k. k) j other v.seen v.stage o.stands;
            });
        unused = unused_set d.keeper vs id w f.unused;
        covered = λ k x there. ⊎_elim (λ (q : get_elem? d.history k ≡ some x). old k x q)
            (λ (q : l ≡ x). subst (λ (y : Element E). (v : V) × (get_elem? (set vs id w) (d.keeper y.by) ≡ some v) × (is_among y.by v.numbers ≡ true)) q
            (w, subst (λ j. get_elem? (set vs id w) j ≡ some w) (sym own) (set_here vs id w (at_inside vs id me.0 at₀)), mine'))
            (at_snoc d.history l x k there);
      } in
      let grown : calls_of (id ∷ me.0.numbers) (me.0.seen ++ l ∷ []) ≡ calls_of me.0.numbers me.0.seen ++ l ∷ [] =
      calls_of-append (id ∷ me.0.numbers) me.0.seen (l ∷ []) ∙ (λ i. calls_of_known id me.0.numbers me.0.seen (subst (λ (x : List (Element E)). (k : ℕ) (y : Element E) → get_elem? x k ≡ some y → y.by ≡ id → is_among y.by me.0.numbers ≡ true) (sym all) known) i
      ++ calls_of_own (id ∷ me.0.numbers) l mine' i) in (
        w,
        gives,
        tt,
        record { story = d'; words = refl; homes = subst (λ (x : List (ℕ × Option C)). homes_after (none ∷ []) x gives ≡ some (Some c') ∷ []) (sym hand) refl; facts = facts },
        λ u value is' hand'.
            let same : t ≡ u = ap ticket_or (sym out ∙ is') in
            let same' : c' ≡ value = ap (λ (x : List (ℕ × Option C)). value_or c' x) (sym hand ∙ hand') in (
              id,
              e,
              ok,
              (c, from, subst (λ (x : C). does c e x) same' did),
              ap (λ (x : ℕ). sat (record w { stage = Returned x }) (others_of me.1)) same ∙ ap (λ (x : List (ℕ × Option C)). sat (record w { stage = Returned u }) (others_of x)) hand,
              grown,
            ),
      )) f₀)

  -- a word that is raised by one
  abbrev pub raised : ℕ → ℕ
  raised n = (n + 1) % 18446744073709551616

  -- the turn is given back
  pub gives_back : (slots id : ℕ) (me : M) (t : ℕ) → calls < 18446744073709551616 → me.0.stage ≡ Returned t → Allows Rule slots id me 1 raised (gave_back (step slots 1 1 0 none) me)
  gives_back slots id me t small home = parted slots id me 1 raised (gave_back (step slots 1 1 0 none) me) (λ d vs f₀ at₀.
      let stood : Stands d id me.0.seen (Returned t) = subst (Stands d id me.0.seen) home (f₀.seats id me.0 at₀).stands in
      at_phase d returned stood.2 (λ x. F x vs → Goes id me 1 raised (gave_back (step slots 1 1 0 none) me) (words_of x) (homes_of x) vs) (λ f.
      let s = f.seats id me.0 at₀ in
      let dd : Story C E = record d { phase = returned } in
      let d' : Story C E = record d { phase = at_rest; served = d.served + 1 } in
      let w : V = at_stage me.0 Idle in
      let live : me.0.stage ≢ Spent = λ e. let x : Returned t ≡ Spent = sym home ∙ e in cc in
      let h : HasTicket d id t = stood.0 in
      let is = stood.1 in let lt = h.1 in let count = f.count in let most = f.most in
      let next : raised d.served ≡ d.served + 1 = mod-eq_of_lt (omega arith) in
      let later : (j u : ℕ) → j ≢ id → HasTicket d j u → HasTicket d' j u = λ j u other k. dite (ℕ_discrete u t)
      (λ (e : u ≡ t). absurd (other (one_holder d j id u t k h e))) (λ (n : u ≢ t). let le = k.0 in (omega arith, k.1, k.2)) in
      let facts : F d' (set vs id w) = record {
        order = omega arith;
        most = f.most;
        count = omega arith;
        leads = f.leads;
        turn = tt;
        seats = each_set (Sits calls first d') vs id w
            (record { key_is = λ _. s.key_is live; keeps_own = λ _. s.keeps_own live; numbers = s.numbers; knows = s.knows; halves = s.halves; stands = tt })
            (λ j v other there. let o = f.seats j v there in restands dd d' j v o refl refl (others_stand dd d' id t h is later j other v.seen v.stage o.stands));
        unused = unused_set d.keeper vs id w f.unused;
        covered = covered_set d.history d.keeper vs id me.0 w at₀ (λ n is. is) f.covered;
      } in
      (w, keeps, tt, record { story = d'; words = ap (λ (x : ℕ). d.drawn ∷ x ∷ 0 ∷ []) next; homes = refl; facts = facts }, refl)) f₀)

  first_seat : (d : Story C E) (j : ℕ) (v : V) → d.history ≡ [] → ((n : ℕ) → d.keeper n ≡ n) → get_elem? (newcomer calls first ∷ []) j ≡ some v → Sits calls first d j v
  first_seat d zero v empty own e = subst (λ (x : V). Sits calls first d 0 x) (some-injective (newcomer calls first) v e)
      (record { key_is = λ _. (refl, refl); keeps_own = λ _. own 0; numbers = λ n is. absurd cc; knows = ([], sym empty, refl); halves = tt; stands = tt })
  first_seat d (suc j) v empty own e = absurd (some-ne-none v (sym e))

  pub opens : Rule (record { words = 0 ∷ 0 ∷ 0 ∷ []; homes = some (Some first) ∷ []; views = newcomer calls first ∷ [] })
  opens =
      let d : Story C E = record { drawn = 0; served = 0; phase = at_rest; value = first; history = []; owner = λ _. 0; keeper = λ n. n } in
      record {
        story = d;
        words = refl;
        homes = refl;
        facts = record {
          order = omega arith;
          most = omega arith;
          count = refl;
          leads = refl;
          turn = tt;
          seats = λ j v e. first_seat d j v refl (λ n. refl) e;
          unused = λ n le. refl;
          covered = λ k l e. absurd (some-ne-none l (sym e));
        };
      }

  pub splits : (id : ℕ) (v : V) → v.stage ≡ Idle → Splits Rule id v v (fresh v)
  splits id v idle s k at =
      let d = k.story in let f = k.facts in let vs = s.views in
      let here = f.seats id v at in
      let live : v.stage ≢ Spent = λ e. let x : Idle ≡ Spent = sym idle ∙ e in cc in
      let same : set vs id v ≡ vs = set_again vs id v at in
      let longer_busy : (p : Phase) → HasTurn d vs p → HasTurn d (vs ++ fresh v ∷ []) p = elim [
        | at_rest ↦ (λ b. tt)
        | away ↦ (λ b. (b.0, b.1, at_longer vs (fresh v ∷ []) (d.owner d.served) b.1 b.2, b.3))
        | returned ↦ (λ b. (b.0, b.1, at_longer vs (fresh v ∷ []) (d.owner d.served) b.1 b.2, b.3))
      ] in
      let facts : F d (vs ++ fresh v ∷ []) = record {
        order = f.order;
        most = f.most;
        count = f.count;
        leads = f.leads;
        turn = longer_busy d.phase f.turn;
        seats = λ j x there. ⊎_elim (λ (q : get_elem? vs j ≡ some x). f.seats j x q)
            (λ (q : (j ≡ length vs) × (fresh v ≡ x)). subst (λ (z : ℕ × V). Sits calls first d z.0 z.1) (λ i. (sym q.0 i, q.1 i))
            (record {
              key_is = λ _. here.key_is live;
              keeps_own = λ _. f.unused (length vs) (omega arith);
              numbers = λ n is. absurd cc;
              knows = (here.knows.0, here.knows.1, calls_of_none here.knows.0);
              halves = tt;
              stands = tt;
            }))
            (at_end vs (fresh v) x j there);
        unused = λ n le. f.unused n (let e = length-append vs (fresh v ∷ []) in omega arith);
        covered = λ k l there. let t = f.covered k l there in (t.0, at_longer vs (fresh v ∷ []) (d.keeper l.by) t.0 t.1, t.2);
      } in
      record { story = d; words = k.words; homes = k.homes; facts = subst (λ (l : List V). F d (l ++ fresh v ∷ [])) (sym same) facts }

  pub joins : (id other : ℕ) (v w : V) → v.stage ≡ Idle → w.stage ≡ Idle → Joins Rule id v other w (united v w) spent
  joins id other v w idle idle' s k at apart at' =
      let d = k.story in let f = k.facts in let vs = s.views in
      let there : get_elem? vs other ≡ some w = sym (set_else vs id other (united v w) apart) ∙ at' in
      let one = f.seats id v at in let two = f.seats other w there in
      let live : v.stage ≢ Spent = λ e. let x : Idle ≡ Spent = sym idle ∙ e in cc in
      let live' : w.stage ≢ Spent = λ e. let x : Idle ≡ Spent = sym idle' ∙ e in cc in
      let keeper : ℕ → ℕ = λ n. cond (d.keeper n == other) id (d.keeper n) in
      let moved : (n : ℕ) → d.keeper n ≡ other → keeper n ≡ id = λ n e. ap (λ b. cond b id (d.keeper n)) (eq-eqb (d.keeper n) other e) in
      let stayed : (n : ℕ) → d.keeper n ≢ other → keeper n ≡ d.keeper n = λ n e. ap (λ b. cond b id (d.keeper n)) (ne_eqb (d.keeper n) other e) in
      let d' : Story C E = record d { keeper = keeper } in
      let us : List V = set vs id (united v w) in
      let ws : List V = set us other spent in
      let own : keeper id ≡ id = let e = one.keeps_own live in stayed id (λ x. apart (sym x ∙ e)) ∙ e in
      let not_id : id ≢ other = λ e. apart (sym e) in
      let taken : (n : ℕ) → is_among n (v.numbers ++ w.numbers) ≡ true → keeper n ≡ id = λ n is. ⊎_elim
      (λ (x : is_among n v.numbers ≡ true). let e = one.numbers n x in stayed n (λ y. not_id (sym e ∙ y)) ∙ e)
      (λ (x : is_among n w.numbers ≡ true). moved n (two.numbers n x))
      (or_cases (is_among n v.numbers) (is_among n w.numbers) (sym (is_among-more n v.numbers w.numbers) ∙ is)) in
      let facts : F d' ws = record {
        order = f.order;
        most = f.most;
        count = f.count;
        leads = f.leads;
        turn = turn_set d' d' us other w spent at' (subst Quiet (sym idle') tt) refl (omega arith) (λ _. refl) d.phase
            (turn_set d d' vs id v (united v w) at (subst Quiet (sym idle) tt) refl (omega arith) (λ _. refl) d.phase f.turn);
        seats = each_set (Sits calls first d') us other spent
            (record { key_is = λ n. absurd (n refl); keeps_own = λ n. absurd (n refl); numbers = λ n is. absurd cc; knows = (d.history, refl, calls_of_none d.history); halves = tt; stands = tt })
            (λ j x far there'. each_set (λ j x. j ≢ other → Sits calls first d' j x) vs id (united v w)
            (λ _. record {
              key_is = λ _. one.key_is live;
              keeps_own = λ _. own;
              numbers = taken;
              knows = knows_longer d.history v.numbers w.numbers v.seen w.seen one.knows two.knows;
              halves = (one.knows, (λ n x. is_among-more n v.numbers w.numbers ∙ or_left (is_among n v.numbers) (is_among n w.numbers) x), (two.knows, (λ n x. is_among-more n v.numbers w.numbers ∙ or_right (is_among n v.numbers) (is_among n w.numbers) x), tt));
              stands = subst (Stands d' id (longer v.seen w.seen)) (sym idle) tt;
            })
            (λ j x _ q far. let o = f.seats j x q in record {
              key_is = o.key_is;
              keeps_own = λ n. let e = o.keeps_own n in stayed j (λ y. far (sym e ∙ y)) ∙ e;
              numbers = λ n is. let e = o.numbers n is in stayed n (λ y. far (sym e ∙ y)) ∙ e;
              knows = o.knows;
              halves = o.halves;
              stands = o.stands;
            }) j x there' far);
        unused = λ n le. let le' : length vs ≤ n = subst (λ (x : ℕ). x ≤ n) (length-set us other spent ∙ length-set vs id (united v w)) le in
            let inside = at_inside vs other w there in let e = f.unused n le' in stayed n (λ y. let z : n ≡ other = sym e ∙ y in omega arith) ∙ e;
        covered = λ k l q. let t = f.covered k l q in
            let here : (is_among l.by (united v w).numbers ≡ true) → (keeper l.by ≡ id) → (x : V) × (get_elem? ws (keeper l.by) ≡ some x) × (is_among l.by x.numbers ≡ true) = λ is e.
            (united v w, subst (λ j. get_elem? ws j ≡ some (united v w)) (sym e) (set_else us other id spent not_id ∙ set_here vs id (united v w) (at_inside vs id v at)), is) in
            dite (ℕ_discrete (d.keeper l.by) other)
            (λ e. here (is_among-more l.by v.numbers w.numbers ∙ or_right (is_among l.by v.numbers) (is_among l.by w.numbers)
            (subst (λ (x : V). is_among l.by x.numbers ≡ true) (same_at vs other t.0 w (subst (λ j. get_elem? vs j ≡ some t.0) e t.1) there) t.2)) (moved l.by e))
            (λ far. dite (ℕ_discrete (d.keeper l.by) id)
            (λ e. here (is_among-more l.by v.numbers w.numbers ∙ or_left (is_among l.by v.numbers) (is_among l.by w.numbers)
            (subst (λ (x : V). is_among l.by x.numbers ≡ true) (same_at vs id t.0 v (subst (λ j. get_elem? vs j ≡ some t.0) e t.1) at) t.2)) (stayed l.by far ∙ e))
            (λ else. (t.0, ap (λ j. get_elem? ws j) (stayed l.by far) ∙ (set_else us other (d.keeper l.by) spent far ∙ (set_else vs id (d.keeper l.by) (united v w) else ∙ t.1)), t.2)));
      } in
      record { story = d'; words = k.words; homes = k.homes; facts = facts }

  -- a seat that was put together of two looks, and is whole
  pub settles : (slots id : ℕ) (me : M) → me.0.stage ≡ Idle → Allows Rule slots id me 1 (λ n. n) (settled does (step slots 1 0 0 none) me)
  settles slots id me idle = parted slots id me 1 (λ n. n) (settled does (step slots 1 0 0 none) me) (λ d vs f at.
      let w : V = record me.0 { halves = [] } in
      let s = f.seats id me.0 at in
      let live : me.0.stage ≢ Spent = λ e. let x : Idle ≡ Spent = sym idle ∙ e in cc in
      let facts : F d (set vs id w) = record {
        order = f.order;
        most = f.most;
        count = f.count;
        leads = f.leads;
        turn = turn_set d d vs id me.0 w at (subst Quiet (sym idle) tt) refl (omega arith) (λ _. refl) d.phase f.turn;
        seats = each_set (Sits calls first d) vs id w
            (record { key_is = λ _. s.key_is live; keeps_own = λ _. s.keeps_own live; numbers = s.numbers; knows = s.knows; halves = tt; stands = s.stands })
            (λ j v _ there. f.seats j v there);
        unused = unused_set d.keeper vs id w f.unused;
        covered = covered_set d.history d.keeper vs id me.0 w at (λ n is. is) f.covered;
      } in (
        w,
        keeps,
        tt,
        record { story = d; words = refl; homes = refl; facts = facts },
        (
          d.history,
          refl,
          (knows_prefix d.history me.0.numbers me.0.seen s.knows, knows_same d.history me.0.numbers me.0.seen s.knows),
          s.halves,
          (d.value, from_start does me.0.start first d.history d.value (s.key_is live).0 f.leads),
        ),
      ))
