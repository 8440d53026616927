-- Growth: with more gates opened, what was met is met.
use Rattle.std.specs.Prelude.{◌≡◌, ◌+◌, ℕ, suc, zero, Bool, true, false, not, if◌then◌else◌, ◌||◌, List, [], ◌∷◌, ◌++◌, ◌⊎◌, length, filter, refl}
use Rattle.std.proofs.Common.{sym, ◌∙◌, ap, subst, inl, inr, arith}
use Rattle.std.proofs.lemmas.Grind.{common_steps}
use Rattle.std.specs.List.{flat_map}
use Rattle.std.specs.Str.{bytes_eq}
use Rattle.org_directory.specs.Register.{among, Register, is_inside, object_of, onward_of}
use Rattle.group_expand.specs.Ways.{Web, ways, here, unless, fresh}
use Rattle.group_expand.specs.declared.way.Way.{Way}
use Rattle.org_directory.proofs.Offered.{same_key, key_is_itself}
use Rattle.group_expand.proofs.Words.{AllHad, all_flat, fresh-agree}
use Rattle.group_expand.proofs.Walking.{ends_at_end, agree_off}
use Rattle.group_expand.specs.Marked.{with_key}
use Rattle.group_expand.specs.Paths.{Has}
use Rattle.group_expand.specs.Routes.{web_of, is_leaf, all_ways, routes, leaves, closed_met, keys_of, Opens, LeavesStay, ClosedStay}

pub Has-front : (w : Way) (xs ys : List Way) → Has w xs → Has w (xs ++ ys)
Has-front w [] ys h = absurd h
Has-front w (x ∷ xs) ys (inl e) = inl e
Has-front w (x ∷ xs) ys (inr h) = inr (Has-front w xs ys h)

pub Has-behind : (w : Way) (xs ys : List Way) → Has w ys → Has w (xs ++ ys)
Has-behind w [] ys h = h
Has-behind w (x ∷ xs) ys h = inr (Has-behind w xs ys h)

pub Has-parts : (w : Way) (xs ys : List Way) → Has w (xs ++ ys) → Has w xs ⊎ Has w ys
Has-parts w [] ys h = inr h
Has-parts w (x ∷ xs) ys (inl e) = inl (inl e)
Has-parts w (x ∷ xs) ys (inr h) = again (Has-parts w xs ys h)
  where
    again : Has w xs ⊎ Has w ys → Has w (x ∷ xs) ⊎ Has w ys
    again (inl a) = inl (inr a)
    again (inr b) = inr b

-- what each of the keys gives may be replaced by what gives more
Has-flat : (w : Way) (f g : List ℕ → List Way) (ks : List (List ℕ)) → ((k : List ℕ) → Has w (f k) → Has w (g k))
    → Has w (flat_map f ks) → Has w (flat_map g ks)
Has-flat w f g [] more h = absurd h
Has-flat w f g (k ∷ ks) more h = by_part (λ b. Has-flat w f g ks more b) (Has-parts w (f k) (flat_map f ks) h)
  where
    by_part : (Has w (flat_map f ks) → Has w (flat_map g ks)) → Has w (f k) ⊎ Has w (flat_map f ks) → Has w (g k ++ flat_map g ks)
    by_part again (inl a) = Has-front w (g k) (flat_map g ks) (more k a)
    by_part again (inr b) = Has-behind w (g k) (flat_map g ks) (again b)

-- a web that goes on wherever the other does
abbrev pub GoesOn : Web → Web → Type 0
GoesOn before after = (k : List ℕ) → (before.next k ≡ []) ⊎ (before.next k ≡ after.next k)

pub ways-grow : (before after : Web) → GoesOn before after → (w : Way) → after.is_end w.key ≡ true
    → (room : ℕ) (route : List (List ℕ)) (k : List ℕ) → Has w (ways before room route k) → Has w (ways after room route k)
unfolding ways
ways-grow before after goes w ended zero route k h = absurd h
ways-grow before after goes w ended (suc room) route k h =
    by_test (λ m h. ways-grow before after goes w ended room (route ++ k ∷ []) m h) (among k route) h
  where
    from_here : (b : Bool) → Has w (here b route k) → Has w (here (after.is_end k) route k)
    from_here true (inl e) =
        let yes : after.is_end k ≡ true = subst (λ x. after.is_end x ≡ true) (ap (λ x. x.key) e) ended in
        subst (λ b. Has w (here b route k)) (sym yes) (inl e)
    from_here true (inr h) = absurd h
    from_here false h = absurd h

    from_next : ((m : List ℕ) → Has w (ways before room (route ++ k ∷ []) m) → Has w (ways after room (route ++ k ∷ []) m)) → (before.next k ≡ []) ⊎ (before.next k ≡ after.next k) → Has w (flat_map (ways before room (route ++ k ∷ [])) (before.next k))
        → Has w (flat_map (ways after room (route ++ k ∷ [])) (after.next k))
    from_next again (inl none) h = absurd (subst (λ ks. Has w (flat_map (ways before room (route ++ k ∷ [])) ks)) none h)
    from_next again (inr same) h =
        subst (λ ks. Has w (flat_map (ways after room (route ++ k ∷ [])) ks)) same
        (Has-flat w (ways before room (route ++ k ∷ [])) (ways after room (route ++ k ∷ [])) (before.next k)
        again h)

    by_part : ((m : List ℕ) → Has w (ways before room (route ++ k ∷ []) m) → Has w (ways after room (route ++ k ∷ []) m)) → Has w (here (before.is_end k) route k) ⊎ Has w (flat_map (ways before room (route ++ k ∷ [])) (before.next k))
        → Has w (here (after.is_end k) route k ++ flat_map (ways after room (route ++ k ∷ [])) (after.next k))
    by_part again (inl a) = Has-front w (here (after.is_end k) route k) (flat_map (ways after room (route ++ k ∷ [])) (after.next k)) (from_here (before.is_end k) a)
    by_part again (inr b) = Has-behind w (here (after.is_end k) route k) (flat_map (ways after room (route ++ k ∷ [])) (after.next k)) (from_next again (goes k) b)

    by_test : ((m : List ℕ) → Has w (ways before room (route ++ k ∷ []) m) → Has w (ways after room (route ++ k ∷ []) m)) → (b : Bool) → Has w (unless b (here (before.is_end k) route k ++ flat_map (ways before room (route ++ k ∷ [])) (before.next k)))
        → Has w (unless b (here (after.is_end k) route k ++ flat_map (ways after room (route ++ k ∷ [])) (after.next k)))
    by_test again true h = absurd h
    by_test again false h = by_part again (Has-parts w (here (before.is_end k) route k) (flat_map (ways before room (route ++ k ∷ [])) (before.next k)) h)

-- the first of each: from the list, and one for each key
first-from : (w : Way) (had : List ℕ → Bool) (ws : List Way) → Has w (fresh had ws) → Has w ws
first-from w had [] h = absurd h
first-from w had (x ∷ ws) h = by_test (λ f h. first-from w f ws h) (had x.key) h
  where
    by_test : ((f : List ℕ → Bool) → Has w (fresh f ws) → Has w ws) → (b : Bool) → Has w (if b then fresh had ws else x ∷ fresh (λ k. bytes_eq k x.key || had k) ws) → Has w (x ∷ ws)
    by_test again true h = inr (again had h)
    by_test again false (inl e) = inl e
    by_test again false (inr h) = inr (again (λ k. bytes_eq k x.key || had k) h)

first-keeps : (key : List ℕ) (had : List ℕ → Bool) (ws : List Way) → had key ≡ false → among key (keys_of ws) ≡ true → among key (keys_of (fresh had ws)) ≡ true
first-keeps key had [] new h = h
first-keeps key had (x ∷ ws) new h = by_same (λ f n h. first-keeps key f ws n h) (bytes_eq key x.key) refl h
  where
    skipped : (b : Bool) → had x.key ≡ b → b ≡ false → fresh had (x ∷ ws) ≡ x ∷ fresh (λ k. bytes_eq k x.key || had k) ws
    skipped true e f = absurd (cc f)
    skipped false e f = rw e refl

    by_had : ((f : List ℕ → Bool) → f key ≡ false → among key (keys_of ws) ≡ true → among key (keys_of (fresh f ws)) ≡ true) → (b : Bool) → had x.key ≡ b → bytes_eq key x.key ≡ false → among key (keys_of ws) ≡ true → among key (keys_of (fresh had (x ∷ ws))) ≡ true
    by_had again true e other h = rw e (again had new h)
    by_had again false e other h =
        let new' : (bytes_eq key x.key || had key) ≡ false = rw (other, new) refl in
        let rest : among key (keys_of (fresh (λ k. bytes_eq k x.key || had k) ws)) ≡ true = again (λ k. bytes_eq k x.key || had k) new' h in
        rw (e, other) rest

    by_same : ((f : List ℕ → Bool) → f key ≡ false → among key (keys_of ws) ≡ true → among key (keys_of (fresh f ws)) ≡ true) → (b : Bool) → bytes_eq key x.key ≡ b → (b || among key (keys_of ws)) ≡ true → among key (keys_of (fresh had (x ∷ ws))) ≡ true
    by_same again true e h =
        let x-new : had x.key ≡ false = subst (λ k. had k ≡ false) (same_key key x.key e) new in
        rw (x-new, e) refl
    by_same again false e h = by_had again (had x.key) refl e h

-- keys and ways
key-way : (key : List ℕ) (ws : List Way) → among key (keys_of ws) ≡ true → (w : Way) × (w.key ≡ key) × Has w ws
key-way key [] h = absurd (cc h)
key-way key (x ∷ ws) h = by_same (λ h. key-way key ws h) (bytes_eq key x.key) refl h
  where
    later : (w : Way) × (w.key ≡ key) × Has w ws → (w : Way) × (w.key ≡ key) × Has w (x ∷ ws)
    later t = (t.0, t.1, inr t.2)

    by_same : (among key (keys_of ws) ≡ true → (w : Way) × (w.key ≡ key) × Has w ws) → (b : Bool) → bytes_eq key x.key ≡ b → (b || among key (keys_of ws)) ≡ true → (w : Way) × (w.key ≡ key) × Has w (x ∷ ws)
    by_same again true e h = (x, sym (same_key key x.key e), inl refl)
    by_same again false e h = later (again h)

way-key : (w : Way) (ws : List Way) → Has w ws → among w.key (keys_of ws) ≡ true
way-key w [] h = absurd h
way-key w (x ∷ ws) (inl e) = subst (λ y. (bytes_eq w.key y.key || among w.key (keys_of ws)) ≡ true) e (rw (key_is_itself w.key) refl)
way-key w (x ∷ ws) (inr h) = let rest : among w.key (keys_of ws) ≡ true = way-key w ws h in grind (arith, common_steps, rest)

filter-from : (p : Way → Bool) (w : Way) (ws : List Way) → Has w (filter p ws) → (p w ≡ true) × Has w ws
filter-from p w [] h = absurd h
filter-from p w (x ∷ ws) h = by_test (λ h. filter-from p w ws h) (p x) refl h
  where
    later : (p w ≡ true) × Has w ws → (p w ≡ true) × Has w (x ∷ ws)
    later t = (t.0, inr t.1)

    by_test : (Has w (filter p ws) → (p w ≡ true) × Has w ws) → (b : Bool) → p x ≡ b → Has w (if b then x ∷ filter p ws else filter p ws) → (p w ≡ true) × Has w (x ∷ ws)
    by_test again true e (inl same) = (subst (λ y. p y ≡ true) (sym same) e, inl same)
    by_test again true e (inr h) = later (again h)
    by_test again false e h = later (again h)

filter-to : (p : Way → Bool) (w : Way) (ws : List Way) → p w ≡ true → Has w ws → Has w (filter p ws)
filter-to p w [] e h = absurd h
filter-to p w (x ∷ ws) e h = by_test (λ h. filter-to p w ws e h) (p x) refl h
  where
    clash : p x ≡ false → w ≡ x → ⊥
    clash off same = let on : p x ≡ true = subst (λ y. p y ≡ true) same e in cc (on, off)

    by_test : (Has w ws → Has w (filter p ws)) → (b : Bool) → p x ≡ b → (w ≡ x) ⊎ Has w ws → Has w (if b then x ∷ filter p ws else filter p ws)
    by_test again true o (inl same) = inl same
    by_test again true o (inr h) = inr (again h)
    by_test again false o (inl same) = absurd (clash o same)
    by_test again false o (inr h) = again h

-- the webs of a register
goes-on : (reg : Register) (before after : List ℕ → Bool) → Opens before after → GoesOn (web_of reg before) (web_of reg after)
goes-on reg before after opens k = by_test (before k) refl (after k) refl
  where
    clash : (b c : Bool) → b ≡ false → c ≡ true → (c ≡ true → b ≡ true) → ⊥
    clash b c off on h = cc (off, h on)

    by_test : (b : Bool) → before k ≡ b → (c : Bool) → after k ≡ c
        → ((if b then [] else onward_of reg k) ≡ []) ⊎ ((if b then [] else onward_of reg k) ≡ (if c then [] else onward_of reg k))
    by_test true e c f = inl refl
    by_test false e true f = absurd (clash (before k) (after k) e f (opens k))
    by_test false e false f = inr refl

all-grow : (reg : Register) (before after : List ℕ → Bool) (roots : List (List ℕ)) (w : Way) → Opens before after → (web_of reg after).is_end w.key ≡ true
    → Has w (all_ways reg before roots) → Has w (all_ways reg after roots)
all-grow reg before after roots w opens ended h =
    Has-flat w (ways (web_of reg before) (length reg.objects + 1) []) (ways (web_of reg after) (length reg.objects + 1) []) roots
    (λ k h. ways-grow (web_of reg before) (web_of reg after) (goes-on reg before after opens) w ended (length reg.objects + 1) [] k h) h

had-of : (f : List ℕ → Bool) (w : Way) (ws : List Way) → AllHad f ws → Has w ws → f w.key ≡ true
had-of f w [] a h = absurd h
had-of f w (x ∷ ws) a (inl e) = subst (λ y. f y.key ≡ true) (sym e) a.0
had-of f w (x ∷ ws) a (inr h) = had-of f w ws a.1 h

all-end : (reg : Register) (closed : List ℕ → Bool) (roots : List (List ℕ)) (w : Way) → Has w (all_ways reg closed roots) → (web_of reg closed).is_end w.key ≡ true
all-end reg closed roots w h =
    had-of (web_of reg closed).is_end w (all_ways reg closed roots)
    (all_flat (web_of reg closed).is_end (ways (web_of reg closed) (length reg.objects + 1) []) roots (λ k _. ends_at_end (web_of reg closed) (length reg.objects + 1) [] k)) h

is-off : (b : Bool) → not b ≡ true → b ≡ false
is-off true h = absurd (cc h)
is-off false h = refl

stays-off : (b c : Bool) → b ≡ false → (c ≡ true → b ≡ true) → c ≡ false
stays-off b true off h = absurd (clash (h refl))
  where
    clash : b ≡ true → ⊥
    clash on = cc (on, off)
stays-off b false off h = refl

or-rest : (b c : Bool) → b ≡ false → (b || c) ≡ true → c ≡ true
or-rest true c off h = absurd (cc off)
or-rest false c off h = h

or-first : (b c : Bool) → b ≡ true → (b || c) ≡ true
or-first true c h = refl
or-first false c h = absurd (cc h)

or-second : (b c : Bool) → c ≡ true → (b || c) ≡ true
or-second true c h = refl
or-second false c h = h

pub leaves-stay : LeavesStay
leaves-stay reg before after roots key opens h =
    let found : (w : Way) × (w.key ≡ key) × Has w (leaves reg before roots) = key-way key (leaves reg before roots) h in
    let listed : Has found.0 (routes reg before roots) = first-from found.0 (λ k. false) (routes reg before roots) found.2 in
    let parts : (not (before found.0.key) ≡ true) × Has found.0 (all_ways reg before roots) = filter-from (λ w. not (before w.key)) found.0 (all_ways reg before roots) listed in
    let off : before found.0.key ≡ false = is-off (before found.0.key) parts.0 in
    let off' : after found.0.key ≡ false = stays-off (before found.0.key) (after found.0.key) off (opens found.0.key) in
    let leaf : is_leaf (object_of reg found.0.key) (is_inside reg found.0.key) ≡ true
    = or-rest (before found.0.key) (is_leaf (object_of reg found.0.key) (is_inside reg found.0.key)) off (all-end reg before roots found.0 parts.1) in
    let ended : (web_of reg after).is_end found.0.key ≡ true = or-second (after found.0.key) (is_leaf (object_of reg found.0.key) (is_inside reg found.0.key)) leaf in
    let there : Has found.0 (all_ways reg after roots) = all-grow reg before after roots found.0 opens ended parts.1 in
    let kept : Has found.0 (routes reg after roots) = filter-to (λ w. not (after w.key)) found.0 (all_ways reg after roots) (ap not off') there in
    let named : among found.0.key (keys_of (routes reg after roots)) ≡ true = way-key found.0 (routes reg after roots) kept in
    first-keeps key (λ k. false) (routes reg after roots) refl (subst (λ k. among k (keys_of (routes reg after roots)) ≡ true) found.1 named)

pub closed-stay : ClosedStay
closed-stay reg before after roots key opens h still =
    let found : (w : Way) × (w.key ≡ key) × Has w (closed_met reg before roots) = key-way key (closed_met reg before roots) h in
    let listed : Has found.0 (filter (λ w. before w.key) (all_ways reg before roots)) = first-from found.0 (λ k. false) (filter (λ w. before w.key) (all_ways reg before roots)) found.2 in
    let parts : (before found.0.key ≡ true) × Has found.0 (all_ways reg before roots) = filter-from (λ w. before w.key) found.0 (all_ways reg before roots) listed in
    let shut : after found.0.key ≡ true = subst (λ k. after k ≡ true) (sym found.1) still in
    let ended : (web_of reg after).is_end found.0.key ≡ true = or-first (after found.0.key) (is_leaf (object_of reg found.0.key) (is_inside reg found.0.key)) shut in
    let there : Has found.0 (all_ways reg after roots) = all-grow reg before after roots found.0 opens ended parts.1 in
    let kept : Has found.0 (filter (λ w. after w.key) (all_ways reg after roots)) = filter-to (λ w. after w.key) found.0 (all_ways reg after roots) shut there in
    let named : among found.0.key (keys_of (filter (λ w. after w.key) (all_ways reg after roots))) ≡ true = way-key found.0 (filter (λ w. after w.key) (all_ways reg after roots)) kept in
    first-keeps key (λ k. false) (filter (λ w. after w.key) (all_ways reg after roots)) refl (subst (λ k. among k (keys_of (filter (λ w. after w.key) (all_ways reg after roots))) ≡ true) found.1 named)

-- the first of each end, and a choice of ends, come in either order
pub first-filter : (p : List ℕ → Bool) (had : List ℕ → Bool) (ws : List Way) → fresh had (filter (λ w. p w.key) ws) ≡ filter (λ w. p w.key) (fresh had ws)
first-filter p had [] = refl
first-filter p had (x ∷ ws) = by_test (λ f. first-filter p f ws) (p x.key) refl (had x.key) refl
  where
    passing : (ws : List Way) → AllHad p (filter (λ w. p w.key) ws)
    passing [] = tt
    passing (w ∷ ws) = one (passing ws) (p w.key) refl
      where
        one : AllHad p (filter (λ w. p w.key) ws) → (b : Bool) → p w.key ≡ b → AllHad p (if b then w ∷ filter (λ w. p w.key) ws else filter (λ w. p w.key) ws)
        one rest true e = (e, rest)
        one rest false e = rest

    by_test : ((f : List ℕ → Bool) → fresh f (filter (λ w. p w.key) ws) ≡ filter (λ w. p w.key) (fresh f ws))
        → (b : Bool) → p x.key ≡ b → (c : Bool) → had x.key ≡ c → fresh had (filter (λ w. p w.key) (x ∷ ws)) ≡ filter (λ w. p w.key) (fresh had (x ∷ ws))
    by_test again true e true h = rw (e, h) (again had)
    by_test again true e false h = rw (e, h, e) (ap (λ r. x ∷ r) (again (λ k. bytes_eq k x.key || had k)))
    by_test again false e true h = rw (e, h) (again had)
    by_test again false e false h = rw (e, h, e)
        (fresh-agree had (with_key x.key had) (filter (λ w. p w.key) ws) (agree_off (record { is_end = p; next = λ k. [] }) had x.key e (filter (λ w. p w.key) ws) (passing ws))
        ∙ again (λ k. bytes_eq k x.key || had k))
