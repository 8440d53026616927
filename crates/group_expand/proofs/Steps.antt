-- The steps of the walk by places are steps of the walk on keys.
use Rattle.std.specs.Prelude.{replicate, ◌≡◌, ◌<◌, ◌≤◌, ◌+◌, ℕ, zero, suc, Bool, true, false, not, ◌||◌, if◌then◌else◌, List, [], ◌∷◌, ◌++◌, length, map, reverse, drop, Option, Some, None, is_some, slice_get, get_or, sum_by, All, refl}
use Rattle.std.proofs.Common.{sym, ◌∙◌, ap, subst, arith, rules, length-append, set}
use Rattle.std.proofs.lemmas.Grind.{common_steps}
use Rattle.std.proofs.lemmas.List.{length-replicate, append-nil, length-map, reverse-reverse, reverse-append, get_or-set_same, get_or-set_other, map-append, length-set}
use Rattle.std.proofs.lemmas.List.Folds.{list_any-append}
use Rattle.std.specs.List.{list_any}
use Rattle.std.proofs.lemmas.List.Elements.{All-append, All-head, All-tail, All-push, All-pop}
use Rattle.std.proofs.lemmas.Option.{slice_get_within}
use Rattle.std.proofs.lemmas.List.Sums.{sum_by-set, sum_by-append}
use Rattle.std.specs.Str.{bytes_eq}
use Rattle.org_directory.proofs.Offered.{object-there, place_of-key_at, below-place, object_of-at, onward-at, onward-below, onward-few, found-below, same_key, key_is_itself}
use Rattle.org_directory.specs.Register.{Register, IsSound, forward_list, key_at, keys_at, onward, onward_in, is_carrier, is_group, is_inside, place_of, object_of, object_at, onward_of, among}
use Rattle.group_expand.specs.Ways.{Web, first_of_each, here}
use Rattle.group_expand.specs.Marked.{Frame, frame, Holding, Facing, with_key, trail_of}
use Rattle.org_directory.specs.declared.object.Object.{Object}
use Rattle.group_expand.specs.declared.way.Way.{Way}
use Rattle.group_expand.proofs.Walking.{holding-pop, holding-end, holding-nothing, holding-start, facing-member, facing-root, facing-skip, facing-enter}
use Rattle.group_expand.specs.declared.walk.Entered.{Entered}
use Rattle.group_expand.specs.Routes.{all_ways, web_of, is_leaf}
use Rattle.group_expand.specs.Places.{places_of, is_end_in, is_no_carrier, ends_at, stops_at, entry, entered, frame_of, frames_of, marked_at, had_by, cost, unmarked, Holds, Faces, Ready, Took, with_stranger, no_marks, entries, carriers, CostsEntriesAndCarriers, price, owed, left_of, all_owed}

pub had-at : (reg : Register) (marks : List Bool) (found : List Way) (p : ℕ) → IsSound reg → p < length reg.objects
    → had_by reg marks found (key_at reg p) ≡ get_or marks p false
had-at reg marks found p sound h = ap (marked_at marks found (key_at reg p)) (place_of-key_at reg p sound h)

leaf-is : (o : Option Object) (inside : Bool) (x : Object) → o ≡ Some x → is_leaf o inside ≡ is_end_in o
leaf-is (Some o) inside x h = refl
leaf-is None inside x h = absurd (cc h)

is_end-at : (reg : Register) (shut : List ℕ → Bool) (p : ℕ) → IsSound reg → p < length reg.objects
    → (web_of reg shut).is_end (key_at reg p) ≡ ends_at reg shut p
is_end-at reg shut p sound h =
    let there : (o : Object) × (slice_get reg.objects p ≡ Some o) = object-there reg.objects p h in
    let e2 : object_of reg (key_at reg p) ≡ slice_get reg.objects p = object_of-at reg p sound h in
    let e3 : is_leaf (slice_get reg.objects p) (is_inside reg (key_at reg p)) ≡ is_end_in (slice_get reg.objects p)
    = leaf-is (slice_get reg.objects p) (is_inside reg (key_at reg p)) there.0 there.1 in
    let e4 : is_leaf (object_of reg (key_at reg p)) (is_inside reg (key_at reg p)) ≡ is_end_in (slice_get reg.objects p)
    = ap (λ o. is_leaf o (is_inside reg (key_at reg p))) e2 ∙ e3 in
    ap (λ b. shut (key_at reg p) || b) e4

-- what follows a key, where ways go on from it, and where none does
or-false : (a b : Bool) → (a || b) ≡ false → (a ≡ false) × (b ≡ false)
or-false true b h = absurd (cc h)
or-false false b h = (refl, h)

next-open : (reg : Register) (shut : List ℕ → Bool) (p : ℕ) → IsSound reg → p < length reg.objects → stops_at reg shut p ≡ false
    → (web_of reg shut).next (key_at reg p) ≡ keys_at reg (onward_in (slice_get reg.objects p))
next-open reg shut p sound h open-here =
    let e1 : shut (key_at reg p) ≡ false
    = (or-false (shut (key_at reg p)) (is_no_carrier (slice_get reg.objects p)) open-here).0 in
    ap (λ b. if b then [] else onward_of reg (key_at reg p)) e1 ∙ onward-at reg p sound h

nothing-onward : (o : Option Object) → is_no_carrier o ≡ true → onward_in o ≡ []
nothing-onward None h = refl
nothing-onward (Some o) h = by_both (is_group o.kind) o.forward h
  where
    by_both : (b : Bool) (f : Option ℕ) → not (b || is_some f) ≡ true → (if b then o.members else forward_list f) ≡ []
    by_both true f h = absurd (cc h)
    by_both false None h = refl
    by_both false (Some p) h = absurd (cc h)

next-stop : (reg : Register) (shut : List ℕ → Bool) (p : ℕ) → IsSound reg → p < length reg.objects → stops_at reg shut p ≡ true
    → (web_of reg shut).next (key_at reg p) ≡ []
next-stop reg shut p sound h ended = by_shut (shut (key_at reg p)) refl
  where
    or-rest : (b : Bool) → (b || is_no_carrier (slice_get reg.objects p)) ≡ true → b ≡ false → is_no_carrier (slice_get reg.objects p) ≡ true
    or-rest true h e = absurd (cc e)
    or-rest false h e = h

    by_shut : (b : Bool) → shut (key_at reg p) ≡ b → (web_of reg shut).next (key_at reg p) ≡ []
    by_shut true e = ap (λ b. if b then [] else onward_of reg (key_at reg p)) e
    by_shut false e =
        ap (λ b. if b then [] else onward_of reg (key_at reg p)) e
        ∙ (onward-at reg p sound h ∙ ap (keys_at reg) (nothing-onward (slice_get reg.objects p) (or-rest (shut (key_at reg p)) ended e)))

-- the keys that were had, behind a mark
had-marked : (reg : Register) (marks : List Bool) (found more : List Way) (p : ℕ) → IsSound reg → p < length reg.objects
    → length marks ≡ length reg.objects → ((k : List ℕ) → among k (map (λ w. w.key) more) ≡ true → bytes_eq k (key_at reg p) ≡ true)
    → (k : List ℕ) → had_by reg (set marks p true) (found ++ more) k ≡ with_key (key_at reg p) (had_by reg marks found) k
had-marked reg marks found more p sound h long inside k = by_place (place_of reg k) refl
  where
    same-place : (q : ℕ) → place_of reg k ≡ Some q → bytes_eq k (key_at reg p) ≡ true → q ≡ p
    same-place q e s =
        let k-is : k ≡ key_at reg p = same_key k (key_at reg p) s in
        let two : Some p ≡ Some q = sym (place_of-key_at reg p sound h) ∙ (ap (place_of reg) (sym k-is) ∙ e) in
        cc two

    none-same : place_of reg k ≡ None → (b : Bool) → bytes_eq k (key_at reg p) ≡ b → b ≡ false
    none-same e false s = refl
    none-same e true s =
        let k-is : k ≡ key_at reg p = same_key k (key_at reg p) s in
        let two : Some p ≡ None = sym (place_of-key_at reg p sound h) ∙ (ap (place_of reg) (sym k-is) ∙ e) in
        absurd (cc two)

    none-more : place_of reg k ≡ None → (b : Bool) → among k (map (λ w. w.key) more) ≡ b → b ≡ false
    none-more e false s = refl
    none-more e true s = absurd (cc (inside k s, none-same e (bytes_eq k (key_at reg p)) refl))

    by_same : (q : ℕ) → place_of reg k ≡ Some q → (b : Bool) → bytes_eq k (key_at reg p) ≡ b
        → get_or (set marks p true) q false ≡ (b || get_or marks q false)
    by_same q e true s = subst (λ x. get_or (set marks p true) x false ≡ true) (sym (same-place q e s))
        (get_or-set_same marks p true false (subst (λ n. p < n) (sym long) h))
    by_same q e false s = get_or-set_other marks p q true false (λ q-is. differs q-is)
      where
        differs : q ≡ p → ⊥
        differs q-is =
            let k-is : k ≡ key_at reg p = below-place reg k q e ∙ ap (key_at reg) q-is in
            let yes : bytes_eq k (key_at reg p) ≡ true = subst (λ x. bytes_eq k x ≡ true) k-is (key_is_itself k) in
            cc (yes, s)

    by_place : (o : Option ℕ) → place_of reg k ≡ o
        → marked_at (set marks p true) (found ++ more) k o ≡ (bytes_eq k (key_at reg p) || marked_at marks found k o)
    by_place (Some q) e = by_same q e (bytes_eq k (key_at reg p)) refl
    by_place None e =
        let e1 : bytes_eq k (key_at reg p) ≡ false = none-same e (bytes_eq k (key_at reg p)) refl in
        let e2 : among k (map (λ w. w.key) more) ≡ false = none-more e (among k (map (λ w. w.key) more)) refl in
        let parts : among k (map (λ w. w.key) (found ++ more)) ≡ (among k (map (λ w. w.key) found) || among k (map (λ w. w.key) more))
        = ap (list_any (bytes_eq k)) (map-append (λ w. w.key) found more) ∙ list_any-append (bytes_eq k) (map (λ w. w.key) found) (map (λ w. w.key) more) in
        grind (arith, common_steps, parts)

-- the trail of a stack
trail-of : (reg : Register) (es : List Entered) → trail_of (frames_of reg es) ≡ places_of reg (reverse es)
trail-of reg [] = refl
trail-of reg (e ∷ es) =
    let parts : reverse (e ∷ es) ≡ reverse es ++ e ∷ [] = reverse-append (e ∷ []) es in
    let whole : places_of reg (reverse (e ∷ es)) ≡ places_of reg (reverse es) ++ key_at reg e.place ∷ []
    = ap (places_of reg) parts ∙ map-append (λ x. key_at reg x.place) (reverse es) (e ∷ []) in
    ap (λ ks. ks ++ key_at reg e.place ∷ []) (trail-of reg es) ∙ sym whole

trail-of-stack : (reg : Register) (stack : List Entered) → trail_of (frames_of reg (reverse stack)) ≡ places_of reg stack
trail-of-stack reg stack = trail-of reg (reverse stack) ∙ ap (places_of reg) (reverse-reverse stack)

pushed : (reg : Register) (stack : List Entered) (e : Entered) → frames_of reg (reverse (stack ++ e ∷ [])) ≡ frame_of reg e ∷ frames_of reg (reverse stack)
pushed reg stack e = ap (frames_of reg) (reverse-append stack (e ∷ []))

keys-here : (b : Bool) (route : List (List ℕ)) (key k : List ℕ) → among k (map (λ w. w.key) (here b route key)) ≡ true → bytes_eq k key ≡ true
keys-here true route key k h = grind (arith, common_steps, h)
keys-here false route key k h = absurd (cc h)

-- A first meeting, by places, is one on keys.
pub visited : (reg : Register) (shut : List ℕ → Bool) (whole : List Way) (roots : List (List ℕ)) (marks : List Bool) (stack : List Entered) (found : List Way) (p : ℕ)
    → IsSound reg → p < length reg.objects → length marks ≡ length reg.objects → get_or marks p false ≡ false → length stack ≤ length reg.objects
    → Faces reg shut whole roots marks stack (key_at reg p) found
    → Holds reg shut whole roots (set marks p true) (entered (stops_at reg shut p) stack p)
    (found ++ here (ends_at reg shut p) (places_of reg stack) (key_at reg p))
visited reg shut whole roots marks stack found p sound inside long new deep facing = by_stop (stops_at reg shut p) refl
  where
    web : Web
    web = web_of reg shut

    room : ℕ
    room = length reg.objects + 1

    key : List ℕ
    key = key_at reg p

    frames : List Frame
    frames = frames_of reg (reverse stack)

    had : List ℕ → Bool
    had = had_by reg marks found

    new-key : had key ≡ false
    new-key = had-at reg marks found p sound inside ∙ new

    trail-is : trail_of frames ≡ places_of reg stack
    trail-is = trail-of-stack reg stack

    deep-enough : length (trail_of frames) < room
    deep-enough =
        let e : length (trail_of frames) ≡ length stack = ap length trail-is ∙ length-map stack (λ x. key_at reg x.place) in
        omega arith

    more : List Way
    more = here (ends_at reg shut p) (places_of reg stack) key

    had-is : with_key key had ≡ had_by reg (set marks p true) (found ++ more)
    had-is = λ i k. sym (had-marked reg marks found more p sound inside long (λ k h. keys-here (ends_at reg shut p) (places_of reg stack) key k h) k) i

    step1 : Holding web room whole roots (with_key key had) (frame key (web.next key) ∷ frames) (found ++ here (web.is_end key) (trail_of frames) key)
    step1 = facing-enter web room whole roots had frames key found deep-enough new-key facing

    step2 : Holding web room whole roots (with_key key had) (frame key (web.next key) ∷ frames) (found ++ more)
    step2 = subst (λ ws. Holding web room whole roots (with_key key had) (frame key (web.next key) ∷ frames) (found ++ ws))
        (ap (λ b. here b (trail_of frames) key) (is_end-at reg shut p sound inside) ∙ ap (λ t. here (ends_at reg shut p) t key) trail-is) step1

    step3 : Holding web room whole roots (had_by reg (set marks p true) (found ++ more)) (frame key (web.next key) ∷ frames) (found ++ more)
    step3 = subst (λ f. Holding web room whole roots f (frame key (web.next key) ∷ frames) (found ++ more)) had-is step2

    by_stop : (b : Bool) → stops_at reg shut p ≡ b → Holds reg shut whole roots (set marks p true) (entered b stack p) (found ++ more)
    by_stop true e = holding-end web room whole roots (had_by reg (set marks p true) (found ++ more)) key frames (found ++ more) (next-stop reg shut p sound inside e) step3
    by_stop false e =
        let at : Holding web room whole roots (had_by reg (set marks p true) (found ++ more)) (frame key (keys_at reg (onward_in (slice_get reg.objects p))) ∷ frames) (found ++ more)
        = subst (λ ms. Holding web room whole roots (had_by reg (set marks p true) (found ++ more)) (frame key ms ∷ frames) (found ++ more)) (next-open reg shut p sound inside e) step3 in
        subst (λ fs. Holding web room whole roots (had_by reg (set marks p true) (found ++ more)) fs (found ++ more)) (sym (pushed reg stack (entry p 0))) at

-- the walk stays ready
fewer : (marks : List Bool) (p : ℕ) → p < length marks → get_or marks p false ≡ false → unmarked (set marks p true) + 1 ≡ unmarked marks
fewer marks p h new =
    let e : unmarked (set marks p true) + cost (get_or marks p false) ≡ unmarked marks + cost true = sum_by-set cost marks p true false h in
    let one : cost (get_or marks p false) ≡ 1 = ap cost new in
    omega arith

pub ready-visited : (reg : Register) (marks : List Bool) (stack : List Entered) (p : ℕ) (b : Bool)
    → p < length reg.objects → get_or marks p false ≡ false → Ready reg marks stack → Ready reg (set marks p true) (entered b stack p)
ready-visited reg marks stack p true inside new r =
    let less : unmarked (set marks p true) + 1 ≡ unmarked marks = fewer marks p (subst (λ n. p < n) (sym r.long) inside) new in
    record {
      sound = r.sound;
      long = length-set marks p true ∙ r.long;
      in_range = r.in_range;
      within = r.within;
      deep = omega (arith, r.deep);
    }
ready-visited reg marks stack p false inside new r =
    let less : unmarked (set marks p true) + 1 ≡ unmarked marks = fewer marks p (subst (λ n. p < n) (sym r.long) inside) new in
    let one-more : length (stack ++ entry p 0 ∷ []) ≡ length stack + 1 = length-append stack (entry p 0 ∷ []) in
    record {
      sound = r.sound;
      long = length-set marks p true ∙ r.long;
      in_range = All-append (λ e. e.place < length reg.objects) stack (entry p 0 ∷ []) r.in_range (alone inside);
      within = All-append (λ e. e.taken ≤ length (onward_in (slice_get reg.objects e.place))) stack (entry p 0 ∷ []) r.within (alone-within);
      deep = omega (arith, r.deep);
    }
  where
    alone : p < length reg.objects → All (λ e. e.place < length reg.objects) (entry p 0 ∷ [])
    alone h = search rules

    alone-within : All (λ e. e.taken ≤ length (onward_in (slice_get reg.objects e.place))) (entry p 0 ∷ [])
    alone-within = search rules

owed-marked : (os : List Object) (marks : List Bool) (p : ℕ) (o : Object) → slice_get os p ≡ Some o → p < length marks → get_or marks p false ≡ false
    → owed os (set marks p true) + price o false ≡ owed os marks
owed-marked [] marks p o h inside new = absurd (cc h)
owed-marked (x ∷ os) [] p o h inside new = absurd (omega arith)
owed-marked (x ∷ os) (m ∷ ms) zero o h inside new =
    let same : o ≡ x = cc h in
    rw (same, new) (omega arith)
owed-marked (x ∷ os) (m ∷ ms) (suc p) o h inside new =
    let rest : owed os (set ms p true) + price o false ≡ owed os ms = owed-marked os ms p o h (omega arith) new in
    omega (arith, rest)

pub owed-visited : (reg : Register) (shut : List ℕ → Bool) (marks : List Bool) (stack : List Entered) (p : ℕ)
    → p < length reg.objects → get_or marks p false ≡ false → length marks ≡ length reg.objects
    → all_owed reg (set marks p true) (entered (stops_at reg shut p) stack p) ≤ all_owed reg marks stack
owed-visited reg shut marks stack p inside new long = by_end (stops_at reg shut p) refl
  where
    there : (o : Object) × (slice_get reg.objects p ≡ Some o)
    there = object-there reg.objects p inside

    paid : owed reg.objects (set marks p true) + price there.0 false ≡ owed reg.objects marks
    paid = owed-marked reg.objects marks p there.0 there.1 (subst (λ n. p < n) (sym long) inside) new

    not-false : (b : Bool) → not b ≡ false → b ≡ true
    not-false true h = refl
    not-false false h = absurd (cc h)

    carrier-price : (o : Object) → slice_get reg.objects p ≡ Some o → is_no_carrier (slice_get reg.objects p) ≡ false → price o false ≡ left_of reg (entry p 0)
    carrier-price o e open-here =
        let is : is_carrier o ≡ true = not-false (is_carrier o) (subst (λ x. is_no_carrier x ≡ false) e open-here) in
        let size : onward_in (slice_get reg.objects p) ≡ onward o = ap onward_in e in
        rw (is, size) (omega arith)

    by_end : (b : Bool) → stops_at reg shut p ≡ b → all_owed reg (set marks p true) (entered b stack p) ≤ all_owed reg marks stack
    by_end true e = omega (arith, paid)
    by_end false e =
        let cost-is : price there.0 false ≡ left_of reg (entry p 0) = carrier-price there.0 there.1 (or-false (shut (key_at reg p)) (is_no_carrier (slice_get reg.objects p)) e).1 in
        let more : sum_by (left_of reg) (stack ++ entry p 0 ∷ []) ≡ sum_by (left_of reg) stack + sum_by (left_of reg) (entry p 0 ∷ []) = sum_by-append (left_of reg) stack (entry p 0 ∷ []) in
        let alone : sum_by (left_of reg) (entry p 0 ∷ []) ≡ left_of reg (entry p 0) = omega arith in
        omega (arith, paid, cost-is, more, alone)

-- the next member of the last group entered
drop-some : (xs : List ℕ) (k m : ℕ) → slice_get xs k ≡ Some m → drop k xs ≡ m ∷ drop (k + 1) xs
drop-some [] k m h = absurd (cc h)
drop-some (x ∷ xs) zero m h = cc h
drop-some (x ∷ xs) (suc k) m h =
    let next : suc (k + 1) ≡ suc k + 1 = omega arith in
    subst (λ n. drop (suc k) (x ∷ xs) ≡ m ∷ drop n (x ∷ xs)) next (drop-some xs k m h)

drop-none : (xs : List ℕ) (k : ℕ) → slice_get xs k ≡ None → drop k xs ≡ []
drop-none [] zero h = refl
drop-none [] (suc k) h = refl
drop-none (x ∷ xs) zero h = absurd (cc h)
drop-none (x ∷ xs) (suc k) h = drop-none xs k h

abbrev pub members_at : Register → Entered → List ℕ
members_at reg e = onward_in (slice_get reg.objects e.place)

pub popped : (reg : Register) (shut : List ℕ → Bool) (whole : List Way) (roots : List (List ℕ)) (marks : List Bool) (front : List Entered) (e : Entered) (found : List Way)
    → slice_get (members_at reg e) e.taken ≡ None
    → Holds reg shut whole roots marks (front ++ e ∷ []) found → Holds reg shut whole roots marks front found
popped reg shut whole roots marks front e found past h =
    let at : Holding (web_of reg shut) (length reg.objects + 1) whole roots (had_by reg marks found) (frame_of reg e ∷ frames_of reg (reverse front)) found
    = subst (λ fs. Holding (web_of reg shut) (length reg.objects + 1) whole roots (had_by reg marks found) fs found) (pushed reg front e) h in
    holding-pop (web_of reg shut) (length reg.objects + 1) whole roots (had_by reg marks found) (key_at reg e.place) (frames_of reg (reverse front)) found
    (subst (λ ms. Holding (web_of reg shut) (length reg.objects + 1) whole roots (had_by reg marks found) (frame (key_at reg e.place) (keys_at reg ms) ∷ frames_of reg (reverse front)) found)
    (drop-none (members_at reg e) e.taken past) at)

pub faced : (reg : Register) (shut : List ℕ → Bool) (whole : List Way) (roots : List (List ℕ)) (marks : List Bool) (front : List Entered) (e : Entered) (m : ℕ) (found : List Way)
    → slice_get (members_at reg e) e.taken ≡ Some m
    → Holds reg shut whole roots marks (front ++ e ∷ []) found → Faces reg shut whole roots marks (front ++ entry e.place (e.taken + 1) ∷ []) (key_at reg m) found
faced reg shut whole roots marks front e m found is h =
    let at : Holding (web_of reg shut) (length reg.objects + 1) whole roots (had_by reg marks found) (frame_of reg e ∷ frames_of reg (reverse front)) found
    = subst (λ fs. Holding (web_of reg shut) (length reg.objects + 1) whole roots (had_by reg marks found) fs found) (pushed reg front e) h in
    let split : Holding (web_of reg shut) (length reg.objects + 1) whole roots (had_by reg marks found)
    (frame (key_at reg e.place) (key_at reg m ∷ keys_at reg (drop (e.taken + 1) (members_at reg e))) ∷ frames_of reg (reverse front)) found
    = subst (λ ms. Holding (web_of reg shut) (length reg.objects + 1) whole roots (had_by reg marks found) (frame (key_at reg e.place) (keys_at reg ms) ∷ frames_of reg (reverse front)) found)
    (drop-some (members_at reg e) e.taken m is) at in
    subst (λ fs. Facing (web_of reg shut) (length reg.objects + 1) whole roots (had_by reg marks found) fs (key_at reg m) found)
    (sym (pushed reg front (entry e.place (e.taken + 1))))
    (facing-member (web_of reg shut) (length reg.objects + 1) whole roots (had_by reg marks found) (key_at reg e.place) (key_at reg m)
    (keys_at reg (drop (e.taken + 1) (members_at reg e))) (frames_of reg (reverse front)) found split)

-- a member that was had is left out
pub left_out : (reg : Register) (shut : List ℕ → Bool) (whole : List Way) (roots : List (List ℕ)) (marks : List Bool) (stack : List Entered) (m : ℕ) (found : List Way)
    → IsSound reg → m < length reg.objects → get_or marks m false ≡ true
    → Faces reg shut whole roots marks stack (key_at reg m) found → Holds reg shut whole roots marks stack found
left_out reg shut whole roots marks stack m found sound inside old h =
    facing-skip (web_of reg shut) (length reg.objects + 1) whole roots (had_by reg marks found) (frames_of reg (reverse stack)) (key_at reg m) found
    (had-at reg marks found m sound inside ∙ old) h

pub taken-below : (reg : Register) (p k m : ℕ) → IsSound reg → slice_get (onward_in (slice_get reg.objects p)) k ≡ Some m → k < 200000
taken-below reg p k m sound h = by_object (slice_get reg.objects p) refl
  where
    by_object : (o : Option Object) → slice_get reg.objects p ≡ o → k < 200000
    by_object None e = absurd (cc (subst (λ x. slice_get (onward_in x) k ≡ Some m) e h))
    by_object (Some o) e =
        let within : k < length (onward o) = slice_get_within (onward o) k m (subst (λ x. slice_get (onward_in x) k ≡ Some m) e h) in
        let few : length (onward o) ≤ 200000 = onward-few (length reg.objects) o (sound.placed p o e) in
        omega arith

-- a member is an object
pub member-there : (reg : Register) (p k m : ℕ) → IsSound reg → slice_get (onward_in (slice_get reg.objects p)) k ≡ Some m → m < length reg.objects
member-there reg p k m sound h = by_object (slice_get reg.objects p) refl
  where
    by_object : (o : Option Object) → slice_get reg.objects p ≡ o → m < length reg.objects
    by_object None e = absurd (cc (subst (λ x. slice_get (onward_in x) k ≡ Some m) e h))
    by_object (Some o) e = at (onward o) k (onward-below (length reg.objects) o (sound.placed p o e)) (subst (λ x. slice_get (onward_in x) k ≡ Some m) e h)
      where
        at : (xs : List ℕ) (k : ℕ) → All (λ x. x < length reg.objects) xs → slice_get xs k ≡ Some m → m < length reg.objects
        at [] k all is = absurd (cc is)
        at (x ∷ xs) zero all is =
            let same : x ≡ m = cc is in
            subst (λ y. y < length reg.objects) same (All-head (λ y. y < length reg.objects) x xs all)
        at (x ∷ xs) (suc k) all is = at xs k (All-tail (λ y. y < length reg.objects) x xs all) is

abbrev pub InTable : Register → List Entered → Type 0
InTable reg stack = All (λ e. e.place < length reg.objects) stack

abbrev pub InMembers : Register → List Entered → Type 0
InMembers reg stack = All (λ e. e.taken ≤ length (onward_in (slice_get reg.objects e.place))) stack

pub ready-popped : (reg : Register) (marks : List Bool) (front : List Entered) (e : Entered) → Ready reg marks (front ++ e ∷ []) → Ready reg marks front
ready-popped reg marks front e r =
    let size : length (front ++ e ∷ []) ≡ length front + 1 = length-append front (e ∷ []) in
    record {
      sound = r.sound;
      long = r.long;
      in_range = (All-pop (λ e. e.place < length reg.objects) (front ++ e ∷ []) front (Some e) refl r.in_range).0;
      within = (All-pop (λ e. e.taken ≤ length (onward_in (slice_get reg.objects e.place))) (front ++ e ∷ []) front (Some e) refl r.within).0;
      deep = omega (arith, r.deep);
    }

pub ready-moved : (reg : Register) (marks : List Bool) (front : List Entered) (e : Entered) (m : ℕ)
    → slice_get (members_at reg e) e.taken ≡ Some m → Ready reg marks (front ++ e ∷ []) → Ready reg marks (front ++ entry e.place (e.taken + 1) ∷ [])
ready-moved reg marks front e m is r =
    let size : length (front ++ e ∷ []) ≡ length front + 1 = length-append front (e ∷ []) in
    let size' : length (front ++ entry e.place (e.taken + 1) ∷ []) ≡ length front + 1 = length-append front (entry e.place (e.taken + 1) ∷ []) in
    let below : e.taken < length (members_at reg e) = slice_get_within (members_at reg e) e.taken m is in
    let ranges : All (λ e. e.place < length reg.objects) front × (e.place < length reg.objects)
    = All-pop (λ e. e.place < length reg.objects) (front ++ e ∷ []) front (Some e) refl r.in_range in
    let inner : All (λ e. e.taken ≤ length (onward_in (slice_get reg.objects e.place))) front × (e.taken ≤ length (onward_in (slice_get reg.objects e.place)))
    = All-pop (λ e. e.taken ≤ length (onward_in (slice_get reg.objects e.place))) (front ++ e ∷ []) front (Some e) refl r.within in
    record {
      sound = r.sound;
      long = r.long;
      in_range = All-push (λ e. e.place < length reg.objects) front (entry e.place (e.taken + 1)) ranges.0 ranges.1;
      within = All-push (λ e. e.taken ≤ length (onward_in (slice_get reg.objects e.place))) front (entry e.place (e.taken + 1)) inner.0 (omega arith);
      deep = omega (arith, r.deep);
    }

last-owed : (reg : Register) (marks : List Bool) (front : List Entered) (e : Entered) → all_owed reg marks (front ++ e ∷ []) ≡ all_owed reg marks front + left_of reg e
last-owed reg marks front e =
    let more : sum_by (left_of reg) (front ++ e ∷ []) ≡ sum_by (left_of reg) front + sum_by (left_of reg) (e ∷ []) = sum_by-append (left_of reg) front (e ∷ []) in
    let alone : sum_by (left_of reg) (e ∷ []) ≡ left_of reg e = omega arith in
    omega (arith, more, alone)

pub owed-popped : (reg : Register) (marks : List Bool) (front : List Entered) (e : Entered) → Ready reg marks (front ++ e ∷ [])
    → all_owed reg marks front + 1 ≤ all_owed reg marks (front ++ e ∷ [])
owed-popped reg marks front e r =
    let inner : All (λ e. e.taken ≤ length (onward_in (slice_get reg.objects e.place))) front × (e.taken ≤ length (onward_in (slice_get reg.objects e.place)))
    = All-pop (λ e. e.taken ≤ length (onward_in (slice_get reg.objects e.place))) (front ++ e ∷ []) front (Some e) refl r.within in
    let last : all_owed reg marks (front ++ e ∷ []) ≡ all_owed reg marks front + left_of reg e = last-owed reg marks front e in
    let at_least : 1 ≤ left_of reg e = omega (arith, inner.1) in
    omega (arith, last, at_least)

pub owed-moved : (reg : Register) (marks : List Bool) (front : List Entered) (e : Entered) (m : ℕ) → slice_get (members_at reg e) e.taken ≡ Some m
    → all_owed reg marks (front ++ entry e.place (e.taken + 1) ∷ []) + 1 ≤ all_owed reg marks (front ++ e ∷ [])
owed-moved reg marks front e m is =
    let below : e.taken < length (members_at reg e) = slice_get_within (members_at reg e) e.taken m is in
    let last : all_owed reg marks (front ++ e ∷ []) ≡ all_owed reg marks front + left_of reg e = last-owed reg marks front e in
    let last' : all_owed reg marks (front ++ entry e.place (e.taken + 1) ∷ []) ≡ all_owed reg marks front + left_of reg (entry e.place (e.taken + 1)) = last-owed reg marks front (entry e.place (e.taken + 1)) in
    let one_less : left_of reg (entry e.place (e.taken + 1)) + 1 ≤ left_of reg e = omega (arith, below) in
    omega (arith, last, last', one_less)

-- what taking the next member means
pub took-left : (reg : Register) (old left : List Entered) → Took reg None old left
    → ((marks : List Bool) → Ready reg marks old → Ready reg marks left)
    × ((shut : List ℕ → Bool) (whole : List Way) (roots : List (List ℕ)) (marks : List Bool) (found : List Way) → Holds reg shut whole roots marks old found → Holds reg shut whole roots marks left found)
    × ((marks : List Bool) → Ready reg marks old → all_owed reg marks left + 1 ≤ all_owed reg marks old)
took-left reg old left t = (
  (λ marks r. ready-popped reg marks left t.0 (subst (λ s. Ready reg marks s) t.1 r)),
  (λ shut whole roots marks found h. popped reg shut whole roots marks left t.0 found t.2 (subst (λ s. Holds reg shut whole roots marks s found) t.1 h)),
  (λ marks r. subst (λ s. all_owed reg marks left + 1 ≤ all_owed reg marks s) (sym t.1) (owed-popped reg marks left t.0 (subst (λ s. Ready reg marks s) t.1 r))),
)

pub took-member : (reg : Register) (m : ℕ) (old left : List Entered) → Took reg (Some m) old left
    → ((marks : List Bool) → Ready reg marks old → Ready reg marks left)
    × ((shut : List ℕ → Bool) (whole : List Way) (roots : List (List ℕ)) (marks : List Bool) (found : List Way) → Holds reg shut whole roots marks old found → Faces reg shut whole roots marks left (key_at reg m) found)
    × ((marks : List Bool) → Ready reg marks old → all_owed reg marks left + 1 ≤ all_owed reg marks old)
    × (IsSound reg → m < length reg.objects)
took-member reg m old left t = (
  (λ marks r. subst (λ s. Ready reg marks s) (sym t.3) (ready-moved reg marks t.0 t.1 m t.4 (subst (λ s. Ready reg marks s) t.2 r))),
  (λ shut whole roots marks found h. subst (λ s. Faces reg shut whole roots marks s (key_at reg m) found) (sym t.3) (faced reg shut whole roots marks t.0 t.1 m found t.4 (subst (λ s. Holds reg shut whole roots marks s found) t.2 h))),
  (λ marks r. subst (λ s. all_owed reg marks s + 1 ≤ all_owed reg marks old) (sym t.3) (subst (λ s. all_owed reg marks (t.0 ++ entry t.1.place (t.1.taken + 1) ∷ []) + 1 ≤ all_owed reg marks s) (sym t.2) (owed-moved reg marks t.0 t.1 m t.4))),
  (λ sound. member-there reg t.1.place t.1.taken m sound t.4),
)

-- roots
pub root-faced : (reg : Register) (shut : List ℕ → Bool) (whole : List Way) (roots : List (List ℕ)) (marks : List Bool) (found : List Way) (key : List ℕ) (p : ℕ)
    → place_of reg key ≡ Some p → Holds reg shut whole (key ∷ roots) marks [] found → Faces reg shut whole roots marks [] (key_at reg p) found
root-faced reg shut whole roots marks found key p is h =
    subst (λ k. Faces reg shut whole roots marks [] k found) (found-below reg key p is).1
    (facing-root (web_of reg shut) (length reg.objects + 1) whole key roots (had_by reg marks found) found h)

pub stranger-holds : (reg : Register) (shut : List ℕ → Bool) (whole : List Way) (roots : List (List ℕ)) (marks : List Bool) (found : List Way) (key : List ℕ)
    → place_of reg key ≡ None → shut key ≡ false → Holds reg shut whole (key ∷ roots) marks [] found
    → Holds reg shut whole roots marks [] (with_stranger (is_inside reg key) (among key (map (λ w. w.key) found)) found key)
stranger-holds reg shut whole roots marks found key none open-key h = by_case (is_inside reg key) (among key (map (λ w. w.key) found)) refl refl
  where
    web : Web
    web = web_of reg shut

    room : ℕ
    room = length reg.objects + 1

    had : List ℕ → Bool
    had = had_by reg marks found

    nothing : web.next key ≡ []
    nothing = ap (λ b. if b then [] else onward_of reg key) open-key ∙ ap (λ o. keys_at reg (onward_in (object_at reg o))) none

    had-is : had key ≡ among key (map (λ w. w.key) found)
    had-is = ap (marked_at marks found key) none

    end-is : web.is_end key ≡ not (is_inside reg key)
    end-is = ap (λ b. b || is_leaf (object_of reg key) (is_inside reg key)) open-key ∙ ap (λ o. is_leaf (object_at reg o) (is_inside reg key)) none

    way : Way
    way = record { route = []; key = key }

    differs : (k : List ℕ) (q : ℕ) → place_of reg k ≡ Some q → (b : Bool) → bytes_eq k key ≡ b → b ≡ false
    differs k q e false s = refl
    differs k q e true s =
        let same : k ≡ key = same_key k key s in
        let two : None ≡ Some q = sym none ∙ (ap (place_of reg) (sym same) ∙ e) in
        absurd (cc two)

    by_place : (k : List ℕ) (o : Option ℕ) → place_of reg k ≡ o → (bytes_eq k key || marked_at marks found k o) ≡ marked_at marks (found ++ way ∷ []) k o
    by_place k (Some q) e = ap (λ b. b || get_or marks q false) (differs k q e (bytes_eq k key) refl)
    by_place k None e =
        let parts : among k (map (λ w. w.key) (found ++ way ∷ [])) ≡ (among k (map (λ w. w.key) found) || (bytes_eq k key || false))
        = ap (list_any (bytes_eq k)) (map-append (λ w. w.key) found (way ∷ [])) ∙ list_any-append (bytes_eq k) (map (λ w. w.key) found) (key ∷ []) in
        grind (arith, common_steps, parts)

    by_case : (inside had-it : Bool) → is_inside reg key ≡ inside → among key (map (λ w. w.key) found) ≡ had-it
        → Holds reg shut whole roots marks [] (with_stranger inside had-it found key)
    by_case true had-it i a = holding-nothing web room whole key roots had found nothing (end-is ∙ ap not i) h
    by_case false true i a = facing-skip web room whole roots had [] key found (had-is ∙ a) (facing-root web room whole key roots had found h)
    by_case false false i a =
        let entered-key : Holding web room whole roots (with_key key had) (frame key (web.next key) ∷ []) (found ++ here (web.is_end key) [] key)
        = facing-enter web room whole roots had [] key found (omega arith) (had-is ∙ a) (facing-root web room whole key roots had found h) in
        let left : Holding web room whole roots (with_key key had) [] (found ++ here (web.is_end key) [] key)
        = holding-end web room whole roots (with_key key had) key [] (found ++ here (web.is_end key) [] key) nothing entered-key in
        let ended : Holding web room whole roots (with_key key had) [] (found ++ way ∷ [])
        = subst (λ b. Holding web room whole roots (with_key key had) [] (found ++ here b [] key)) (end-is ∙ ap not i) left in
        let funs : with_key key had ≡ had_by reg marks (found ++ way ∷ []) = λ j k. by_place k (place_of reg k) refl j in
        subst (λ f. Holding web room whole roots f [] (found ++ way ∷ [])) funs ended

pub any-map : (key : List ℕ) (ws : List Way) → list_any (λ w. bytes_eq key w.key) ws ≡ among key (map (λ w. w.key) ws)
any-map key [] = refl
any-map key (w ∷ ws) = ap (λ b. bytes_eq key w.key || b) (any-map key ws)

-- the start
pub all-false : (n p : ℕ) → get_or (replicate n false) p false ≡ false
all-false zero p = refl
all-false (suc n) zero = refl
all-false (suc n) (suc p) = all-false n p

all-unmarked : (n : ℕ) → unmarked (replicate n false) ≡ n
all-unmarked zero = refl
all-unmarked (suc n) =
    let rest : unmarked (replicate n false) ≡ n = all-unmarked n in
    let split : unmarked (false ∷ replicate n false) ≡ unmarked (false ∷ []) + unmarked (replicate n false) = sum_by-append cost (false ∷ []) (replicate n false) in
    let one : unmarked (false ∷ []) ≡ 1 = refl in
    let same : unmarked (replicate (suc n) false) ≡ unmarked (false ∷ replicate n false) = refl in
    omega (arith, rest, split, one, same)

pub start-holds : (reg : Register) (shut : List ℕ → Bool) (roots : List (List ℕ))
    → Holds reg shut (first_of_each (all_ways reg shut roots)) roots (no_marks reg.objects) [] []
start-holds reg shut roots =
    let funs : (λ k. false) ≡ had_by reg (no_marks reg.objects) [] = λ j k. by_place k (place_of reg k) j in
    subst (λ f. Holding (web_of reg shut) (length reg.objects + 1) (first_of_each (all_ways reg shut roots)) roots f [] []) funs
    (holding-start (web_of reg shut) (length reg.objects + 1) roots)
  where
    by_place : (k : List ℕ) (o : Option ℕ) → false ≡ marked_at (no_marks reg.objects) [] k o
    by_place k (Some q) = sym (all-false (length reg.objects) q)
    by_place k None = refl

pub start-ready : (reg : Register) → IsSound reg → Ready reg (no_marks reg.objects) []
start-ready reg sound = record {
  sound = sound;
  long = length-replicate (length reg.objects) false;
  in_range = search rules;
  within = search rules;
  deep = let all : unmarked (no_marks reg.objects) ≡ length reg.objects = all-unmarked (length reg.objects) in omega (arith, all);
}

pub end-sum : (reg : Register) (shut : List ℕ → Bool) (whole : List Way) (marks : List Bool) (found : List Way)
    → Holds reg shut whole [] marks [] found → found ≡ whole
end-sum reg shut whole marks found h = sym (h.sum ∙ append-nil found)

pub costs : CostsEntriesAndCarriers
costs [] = refl
costs (o ∷ os) = by_kind (is_carrier o) (costs os)
  where
    by_kind : (b : Bool) → owed os (no_marks os) ≡ entries os + carriers os
        → (if b then length (onward o) + 1 else 0) + owed os (no_marks os) ≡ ((if b then length (onward o) else 0) + entries os) + ((if b then 1 else 0) + carriers os)
    by_kind true rest = omega (arith, rest)
    by_kind false rest = omega (arith, rest)

pub costs_of : (objects : List Object) → owed objects (no_marks objects) ≡ entries objects + carriers objects
costs_of objects = costs objects

-- While a group is entered, a call is owed.
pub owes-one : (reg : Register) (marks : List Bool) (stack : List Entered) → Ready reg marks stack → 0 < length stack → 1 ≤ all_owed reg marks stack
owes-one reg marks [] ready some = absurd (omega (arith, some))
owes-one reg marks (e ∷ es) ready some =
    let within : e.taken ≤ length (onward_in (slice_get reg.objects e.place)) = ready.within 0 e (omega arith) in
    let sum : sum_by (left_of reg) (e ∷ es) ≡ sum_by (left_of reg) (e ∷ []) + sum_by (left_of reg) es = sum_by-append (left_of reg) (e ∷ []) es in
    let one : sum_by (left_of reg) (e ∷ []) ≡ 0 + left_of reg e = refl in
    omega (arith, within, sum, one)
