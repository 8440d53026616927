-- The marked walk: what is left out was had before, so the first way found is the first of all.
use Rattle.std.specs.Prelude.{◌≡◌, ◌+◌, ◌-◌, ◌<◌, ℕ, suc, zero, Bool, true, false, ◌||◌, List, [], ◌∷◌, ◌++◌, ◌⊎◌, length, refl}
use Rattle.std.proofs.Common.{sym, ◌∙◌, ap, subst, inl, inr, arith, append_assoc, length-append}
use Rattle.std.proofs.lemmas.Grind.{common_steps}
use Rattle.std.specs.List.{flat_map}
use Rattle.std.specs.Str.{bytes_eq}
use Rattle.std.proofs.lemmas.List.Folds.{list_any-append}
use Rattle.group_expand.specs.declared.way.Way.{Way}
use Rattle.org_directory.specs.Register.{among}
use Rattle.group_expand.specs.Ways.{Web, here, unless, ways, fresh}
use Rattle.group_expand.specs.Marked.{Sealed, Frame, frame, trail_of, pending, Begun, Walks, Holding, Facing, with_key}
use Rattle.org_directory.proofs.Offered.{same_key, key_is_itself}
use Rattle.group_expand.proofs.Words.{AllHad, AllHad-append, fresh-skip, Agree, fresh-agree, in_front, in_parts, all_flat}

pub here-had : (had : List ℕ → Bool) (b : Bool) (trail : List (List ℕ)) (k : List ℕ) → had k ≡ true → AllHad had (here b trail k)
here-had had true trail k h = (h, tt)
here-had had false trail k h = tt

pub unless-had : (had : List ℕ → Bool) (b : Bool) (ws : List Way) → (b ≡ false → AllHad had ws) → AllHad had (unless b ws)
unless-had had true ws h = tt
unless-had had false ws h = h refl

abbrev pub Within : List (List ℕ) → List (List ℕ) → Type 0
Within small large = (g : List ℕ) → among g large ≡ false → among g small ≡ false

-- The central fact: a way through a key that was had ends at a key that was had.
pub nothing_new : (web : Web) (had : List ℕ → Bool) (trail : List (List ℕ)) → Sealed web had trail
    → (room : ℕ) (passed : List (List ℕ)) (k : List ℕ) → Within trail passed → had k ≡ true
    → AllHad had (ways web room passed k)
unfolding ways
nothing_new web had trail closed zero passed k wide h = tt
nothing_new web had trail closed (suc room) passed k wide h =
    unless-had had (among k passed)
    (here (web.is_end k) passed k ++ flat_map (ways web room (passed ++ k ∷ [])) (web.next k))
    (λ off. AllHad-append had (here (web.is_end k) passed k) (flat_map (ways web room (passed ++ k ∷ [])) (web.next k))
    (here-had had (web.is_end k) passed k h)
    (all_flat had (ways web room (passed ++ k ∷ [])) (web.next k)
    (λ m follows. nothing_new web had trail closed room (passed ++ k ∷ []) m
    (λ g out. wide g (outside g passed k out))
    (closed k h (wide k off) m follows))))
  where
    outside : (g : List ℕ) (xs : List (List ℕ)) (k : List ℕ) → among g (xs ++ k ∷ []) ≡ false → among g xs ≡ false
    outside g xs k out = grind (arith, common_steps, in_front g xs (k ∷ []))

-- every way ends at an end
pub ends_at_end : (web : Web) (room : ℕ) (passed : List (List ℕ)) (k : List ℕ) → AllHad web.is_end (ways web room passed k)
unfolding ways
ends_at_end web zero passed k = tt
ends_at_end web (suc room) passed k =
    unless-had web.is_end (among k passed)
    (here (web.is_end k) passed k ++ flat_map (ways web room (passed ++ k ∷ [])) (web.next k))
    (λ off. AllHad-append web.is_end (here (web.is_end k) passed k) (flat_map (ways web room (passed ++ k ∷ [])) (web.next k))
    (here-end (web.is_end k) refl)
    (all_flat web.is_end (ways web room (passed ++ k ∷ [])) (web.next k) (λ m follows. ends_at_end web room (passed ++ k ∷ []) m)))
  where
    here-end : (b : Bool) → web.is_end k ≡ b → AllHad web.is_end (here b passed k)
    here-end true e = (e, tt)
    here-end false e = tt

pub pending-end : (web : Web) (room : ℕ) (roots : List (List ℕ)) (frames : List Frame) → AllHad web.is_end (pending web room roots frames)
pending-end web room roots [] = all_flat web.is_end (ways web room []) roots (λ m _. ends_at_end web room [] m)
pending-end web room roots (f ∷ fs) =
    AllHad-append web.is_end (flat_map (ways web (room - length (trail_of (f ∷ fs))) (trail_of (f ∷ fs))) f.rest) (pending web room roots fs)
    (all_flat web.is_end (ways web (room - length (trail_of (f ∷ fs))) (trail_of (f ∷ fs))) f.rest
    (λ m _. ends_at_end web (room - length (trail_of (f ∷ fs))) (trail_of (f ∷ fs)) m))
    (pending-end web room roots fs)

or-right : (a b : Bool) → b ≡ true → (a || b) ≡ true
or-right true b h = refl
or-right false b h = h

or-case : (a b : Bool) → (a || b) ≡ true → (a ≡ true) ⊎ (b ≡ true)
or-case true b h = inl refl
or-case false b h = inr h

-- what isn't an end can be marked: no way ends there
pub agree_off : (web : Web) (had : List ℕ → Bool) (m : List ℕ) → web.is_end m ≡ false
    → (ws : List Way) → AllHad web.is_end ws → Agree had (with_key m had) ws
agree_off web had m off [] a = tt
agree_off web had m off (w ∷ ws) a = (one (bytes_eq w.key m) refl, agree_off web had m off ws a.1)
  where
    one : (b : Bool) → bytes_eq w.key m ≡ b → had w.key ≡ (b || had w.key)
    one true e = let same : w.key ≡ m = same_key w.key m e in let on : web.is_end m ≡ true = subst (λ x. web.is_end x ≡ true) same a.0 in absurd (clash on)
      where
        clash : web.is_end m ≡ true → ⊥
        clash on = cc (on, off)
    one false e = refl

-- A key that was had gives nothing.
pub skips : (web : Web) (had : List ℕ → Bool) (trail : List (List ℕ)) (room : ℕ) (m : List ℕ) (later : List Way)
    → Sealed web had trail → had m ≡ true
    → fresh had (ways web room trail m ++ later) ≡ fresh had later
skips web had trail room m later closed h =
    fresh-skip had (ways web room trail m) later (nothing_new web had trail closed room trail m (λ g out. out) h)

-- A key that wasn't had gives its own way, and then what its members give.
pub enters : (web : Web) (had : List ℕ → Bool) (trail : List (List ℕ)) (room : ℕ) (m : List ℕ) (later : List Way)
    → among m trail ≡ false → had m ≡ false → AllHad web.is_end later
    → fresh had (ways web (suc room) trail m ++ later)
    ≡ here (web.is_end m) trail m ++ fresh (with_key m had) (flat_map (ways web room (trail ++ m ∷ [])) (web.next m) ++ later)
unfolding ways
enters web had trail room m later off new ends =
    rw off (rw append_assoc (by_end (web.is_end m) refl))
  where
    rest : List Way
    rest = flat_map (ways web room (trail ++ m ∷ [])) (web.next m) ++ later

    rest-ends : AllHad web.is_end rest
    rest-ends = AllHad-append web.is_end (flat_map (ways web room (trail ++ m ∷ [])) (web.next m)) later
        (all_flat web.is_end (ways web room (trail ++ m ∷ [])) (web.next m) (λ x _. ends_at_end web room (trail ++ m ∷ []) x)) ends

    by_end : (b : Bool) → web.is_end m ≡ b → fresh had (here b trail m ++ rest) ≡ here b trail m ++ fresh (with_key m had) rest
    by_end true e = rw new refl
    by_end false e = fresh-agree had (with_key m had) rest (agree_off web had m e rest rest-ends)

false-true : {A : Type 0} → false ≡ true → A
false-true h = absurd (cc h)

pub walks-start : (web : Web) → Walks web (λ k. false) []
walks-start web = record {
  passed = λ g h. false-true h;
  sealed = λ g h out m follows. false-true h;
  begun = tt;
}

Begun-more : (web : Web) (had : List ℕ → Bool) (x : List ℕ) (fs : List Frame) → Begun web had fs → Begun web (with_key x had) fs
Begun-more web had x [] b = tt
Begun-more web had x (f ∷ fs) b = (λ m follows. one m (b.0 m follows), Begun-more web had x fs b.1)
  where
    one : (m : List ℕ) → (had m ≡ true) ⊎ (among m f.rest ≡ true) → (with_key x had m ≡ true) ⊎ (among m f.rest ≡ true)
    one m (inl h) = inl (or-right (bytes_eq m x) (had m) h)
    one m (inr h) = inr h

pub Begun-advance : (web : Web) (had : List ℕ → Bool) (c m : List ℕ) (ms : List (List ℕ)) (fs : List Frame)
    → had m ≡ true → Begun web had (frame c (m ∷ ms) ∷ fs) → Begun web had (frame c ms ∷ fs)
Begun-advance web had c m ms fs h b = (λ x follows. one x (b.0 x follows), b.1)
  where
    two : (x : List ℕ) (b : Bool) → bytes_eq x m ≡ b → (b || among x ms) ≡ true → (had x ≡ true) ⊎ (among x ms ≡ true)
    two x true e _ = inl (subst (λ y. had y ≡ true) (sym (same_key x m e)) h)
    two x false e inside = inr inside

    one : (x : List ℕ) → (had x ≡ true) ⊎ (among x (m ∷ ms) ≡ true) → (had x ≡ true) ⊎ (among x ms ≡ true)
    one x (inl g) = inl g
    one x (inr g) = two x (bytes_eq x m) refl (any_step x g)
      where
        any_step : (x : List ℕ) → among x (m ∷ ms) ≡ true → (bytes_eq x m || among x ms) ≡ true
        any_step x g = g

-- Nothing is left of the last carrier: it is done.
pub walks-pop : (web : Web) (had : List ℕ → Bool) (c : List ℕ) (fs : List Frame) → Walks web had (frame c [] ∷ fs) → Walks web had fs
walks-pop web had c fs w = record {
  passed = λ g h. w.passed g (in_front g (trail_of fs) (c ∷ []) h);
  sealed = λ g h out. by_carrier g h out (bytes_eq g c) refl;
  begun = w.begun.1;
}
  where
    only : (g : List ℕ) → bytes_eq g c ≡ false → among g (trail_of fs) ≡ false → among g (trail_of fs ++ c ∷ []) ≡ false
    only g e out = grind (arith, common_steps, list_any-append (bytes_eq g) (trail_of fs) (c ∷ []))

    none : (m : List ℕ) → (had m ≡ true) ⊎ (among m [] ≡ true) → had m ≡ true
    none m (inl h) = h
    none m (inr h) = false-true h

    by_carrier : (g : List ℕ) → had g ≡ true → among g (trail_of fs) ≡ false → (b : Bool) → bytes_eq g c ≡ b
        → (m : List ℕ) → among m (web.next g) ≡ true → had m ≡ true
    by_carrier g h out true e m follows = none m (w.begun.0 m (subst (λ x. among m (web.next x) ≡ true) (same_key g c e) follows))
    by_carrier g h out false e m follows = w.sealed g h (only g e out) m follows

room-left : (room n : ℕ) → n < room → room - n ≡ suc (room - (n + 1))
room-left room n h = omega arith

-- the sum, where the next key is met for the first time
sum-enter : (web : Web) (room : ℕ) (whole found : List Way) (had : List ℕ → Bool) (trail : List (List ℕ)) (m : List ℕ) (later : List Way)
    → length trail < room → among m trail ≡ false → had m ≡ false → AllHad web.is_end later
    → whole ≡ found ++ fresh had (ways web (room - length trail) trail m ++ later)
    → whole ≡ (found ++ here (web.is_end m) trail m)
    ++ fresh (with_key m had) (flat_map (ways web (room - length (trail ++ m ∷ [])) (trail ++ m ∷ [])) (web.next m) ++ later)
sum-enter web room whole found had trail m later deep off new ends sum =
    let left : ℕ = room - (length trail + 1) in
    let less : room - length trail ≡ suc (room - (length trail + 1)) = room-left room (length trail) deep in
    let same : room - length (trail ++ m ∷ []) ≡ room - (length trail + 1) = rw (length-append {A = List ℕ} trail (m ∷ [])) refl in
    let at_suc : whole ≡ found ++ fresh had (ways web (suc (room - (length trail + 1))) trail m ++ later)
    = subst (λ r. whole ≡ found ++ fresh had (ways web r trail m ++ later)) less sum in
    let opened : whole ≡ found ++ (here (web.is_end m) trail m ++ fresh (with_key m had) (flat_map (ways web (room - (length trail + 1)) (trail ++ m ∷ [])) (web.next m) ++ later))
    = at_suc ∙ ap (λ ws. found ++ ws) (enters web had trail (room - (length trail + 1)) m later off new ends) in
    subst (λ r. whole ≡ (found ++ here (web.is_end m) trail m) ++ fresh (with_key m had) (flat_map (ways web r (trail ++ m ∷ [])) (web.next m) ++ later)) (sym same)
    (rw append_assoc opened)

not_on_trail : (had : List ℕ → Bool) (trail : List (List ℕ)) (m : List ℕ)
    → ((g : List ℕ) → among g trail ≡ true → had g ≡ true) → had m ≡ false → among m trail ≡ false
not_on_trail had trail m passed new = by_test (among m trail) refl
  where
    by_test : (b : Bool) → among m trail ≡ b → b ≡ false
    by_test false e = refl
    by_test true e = absurd (clash (passed m e))
      where
        clash : had m ≡ true → ⊥
        clash old = cc (old, new)

pub holding-pop : (web : Web) (room : ℕ) (whole : List Way) (roots : List (List ℕ)) (had : List ℕ → Bool) (c : List ℕ) (fs : List Frame) (found : List Way)
    → Holding web room whole roots had (frame c [] ∷ fs) found → Holding web room whole roots had fs found
holding-pop web room whole roots had c fs found h = record { walks = walks-pop web had c fs h.walks; sum = h.sum }

with-itself : (m : List ℕ) (had : List ℕ → Bool) → with_key m had m ≡ true
with-itself m had = rw (key_is_itself m) refl

pub facing-member : (web : Web) (room : ℕ) (whole : List Way) (roots : List (List ℕ)) (had : List ℕ → Bool) (c m : List ℕ) (ms : List (List ℕ)) (fs : List Frame) (found : List Way)
    → Holding web room whole roots had (frame c (m ∷ ms) ∷ fs) found → Facing web room whole roots had (frame c ms ∷ fs) m found
facing-member web room whole roots had c m ms fs found h = record {
  passed = h.walks.passed;
  sealed = h.walks.sealed;
  begun = Begun-advance web (with_key m had) c m ms fs (with-itself m had) (Begun-more web had m (frame c (m ∷ ms) ∷ fs) h.walks.begun);
  sum = subst (λ ws. whole ≡ found ++ fresh had ws)
      (append_assoc (ways web (room - length (trail_of fs ++ c ∷ [])) (trail_of fs ++ c ∷ []) m)
      (flat_map (ways web (room - length (trail_of fs ++ c ∷ [])) (trail_of fs ++ c ∷ [])) ms) (pending web room roots fs)) h.sum;
}

pub facing-root : (web : Web) (room : ℕ) (whole : List Way) (m : List ℕ) (ms : List (List ℕ)) (had : List ℕ → Bool) (found : List Way)
    → Holding web room whole (m ∷ ms) had [] found → Facing web room whole ms had [] m found
facing-root web room whole m ms had found h = record {
  passed = h.walks.passed;
  sealed = h.walks.sealed;
  begun = tt;
  sum = subst (λ r. whole ≡ found ++ fresh had (ways web r [] m ++ pending web room ms [])) (none room) h.sum;
}
  where
    none : (room : ℕ) → room ≡ room - 0
    none room = omega arith

Begun-less : (web : Web) (had : List ℕ → Bool) (x : List ℕ) (fs : List Frame) → had x ≡ true → Begun web (with_key x had) fs → Begun web had fs
Begun-less web had x [] old b = tt
Begun-less web had x (f ∷ fs) old b = (λ m follows. one m (b.0 m follows), Begun-less web had x fs old b.1)
  where
    two : (m : List ℕ) (b : Bool) → bytes_eq m x ≡ b → (b || had m) ≡ true → had m ≡ true
    two m true e h = subst (λ y. had y ≡ true) (sym (same_key m x e)) old
    two m false e h = h

    one : (m : List ℕ) → (with_key x had m ≡ true) ⊎ (among m f.rest ≡ true) → (had m ≡ true) ⊎ (among m f.rest ≡ true)
    one m (inl h) = inl (two m (bytes_eq m x) refl h)
    one m (inr h) = inr h

-- The key was had: nothing is lost by leaving it out.
pub facing-skip : (web : Web) (room : ℕ) (whole : List Way) (roots : List (List ℕ)) (had : List ℕ → Bool) (frames : List Frame) (m : List ℕ) (found : List Way)
    → had m ≡ true → Facing web room whole roots had frames m found → Holding web room whole roots had frames found
facing-skip web room whole roots had frames m found old h = record {
  walks = record { passed = h.passed; sealed = h.sealed; begun = Begun-less web had m frames old h.begun };
  sum = h.sum ∙ ap (λ ws. found ++ ws) (skips web had (trail_of frames) (room - length (trail_of frames)) m (pending web room roots frames) h.sealed old);
}

-- The key is met for the first time.
pub facing-enter : (web : Web) (room : ℕ) (whole : List Way) (roots : List (List ℕ)) (had : List ℕ → Bool) (frames : List Frame) (m : List ℕ) (found : List Way)
    → length (trail_of frames) < room → had m ≡ false → Facing web room whole roots had frames m found
    → Holding web room whole roots (with_key m had) (frame m (web.next m) ∷ frames) (found ++ here (web.is_end m) (trail_of frames) m)
facing-enter web room whole roots had frames m found deep new h = record {
  walks = record {
    passed = λ g on. by_part g (in_parts g (trail_of frames) (m ∷ []) on);
    sealed = λ g old out. by_key g out (bytes_eq g m) refl old;
    begun = (λ x follows. inr follows, h.begun);
  };
  sum = sum-enter web room whole found had (trail_of frames) m (pending web room roots frames) deep
      (not_on_trail had (trail_of frames) m h.passed new) new (pending-end web room roots frames) h.sum;
}
  where
    alone : (g : List ℕ) → among g (m ∷ []) ≡ true → bytes_eq g m ≡ true
    alone g on = grind (arith, common_steps, on)

    or-left : (a b : Bool) → a ≡ true → (a || b) ≡ true
    or-left true b e = refl
    or-left false b e = false-true e

    by_part : (g : List ℕ) → (among g (trail_of frames) ≡ true) ⊎ (among g (m ∷ []) ≡ true) → with_key m had g ≡ true
    by_part g (inl on) = or-right (bytes_eq g m) (had g) (h.passed g on)
    by_part g (inr on) = or-left (bytes_eq g m) (had g) (alone g on)

    not-last : (g : List ℕ) → bytes_eq g m ≡ true → among g (trail_of frames ++ m ∷ []) ≡ false → ⊥
    not-last g e out = absurd (grind (arith, common_steps, list_any-append (bytes_eq g) (trail_of frames) (m ∷ [])))

    not-front : (g : List ℕ) → among g (trail_of frames ++ m ∷ []) ≡ false → among g (trail_of frames) ≡ false
    not-front g out = grind (arith, common_steps, list_any-append (bytes_eq g) (trail_of frames) (m ∷ []))

    by_key : (g : List ℕ) → among g (trail_of frames ++ m ∷ []) ≡ false → (b : Bool) → bytes_eq g m ≡ b → (b || had g) ≡ true
        → (x : List ℕ) → among x (web.next g) ≡ true → with_key m had x ≡ true
    by_key g out true e old x follows = absurd (not-last g e out)
    by_key g out false e old x follows = or-right (bytes_eq x m) (had x) (h.sealed g old (not-front g out) x follows)

-- What was entered and has nothing behind it needs no frame.
pub holding-end : (web : Web) (room : ℕ) (whole : List Way) (roots : List (List ℕ)) (had : List ℕ → Bool) (m : List ℕ) (fs : List Frame) (found : List Way)
    → web.next m ≡ [] → Holding web room whole roots had (frame m (web.next m) ∷ fs) found → Holding web room whole roots had fs found
holding-end web room whole roots had m fs found ended h =
    holding-pop web room whole roots had m fs found (subst (λ ms. Holding web room whole roots had (frame m ms ∷ fs) found) ended h)

-- A root that leads nowhere and is no end.
pub holding-nothing : (web : Web) (room : ℕ) (whole : List Way) (m : List ℕ) (ms : List (List ℕ)) (had : List ℕ → Bool) (found : List Way)
    → web.next m ≡ [] → web.is_end m ≡ false → Holding web room whole (m ∷ ms) had [] found → Holding web room whole ms had [] found
unfolding ways
holding-nothing web room whole m ms had found ended no-end h = record {
  walks = h.walks;
  sum = h.sum ∙ ap (λ ws. found ++ fresh had (ws ++ pending web room ms [])) (nothing room);
}
  where
    nothing : (room : ℕ) → ways web room [] m ≡ []
    nothing zero = refl
    nothing (suc room) = rw (no-end, ended) refl

-- the start, and the end
pub holding-start : (web : Web) (room : ℕ) (roots : List (List ℕ))
    → Holding web room (fresh (λ k. false) (flat_map (ways web room []) roots)) roots (λ k. false) [] []
holding-start web room roots = record { walks = walks-start web; sum = refl }
