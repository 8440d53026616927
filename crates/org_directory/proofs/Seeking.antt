-- The walk from a group: what is queued was reached, and what was taken from the queue is settled.
use Rattle.std.specs.Prelude.{◌≡◌, ◌<◌, ◌≤◌, ◌+◌, ◌-◌, ℕ, zero, suc, Bool, true, false, ◌||◌, List, [], ◌∷◌, ◌++◌, ◌⊎◌, length, Some, slice_get, slice_set, get_or, sum_by, replicate, All, refl}
use Rattle.std.proofs.Common.{sym, ◌∙◌, ap, subst, inl, inr, arith, rules, eqb, append_assoc, length-append}
use Rattle.std.proofs.lemmas.List.{append-nil, length-set, length-replicate, get_or-set_same, get_or-set_other, get_or-replicate}
use Rattle.std.proofs.lemmas.List.Sums.{sum_by-set}
use Rattle.std.specs.Str.{bytes_eq}
use Rattle.org_directory.specs.Register.{Register, IsSound, among, key_at, keys_at, members_in, members_of}
use Rattle.org_directory.specs.Membership.{Chain, In}
use Rattle.org_directory.specs.Marks.{marked, newly, new_at}
use Rattle.org_directory.specs.declared.object.Object.{Object}
use Rattle.org_directory.proofs.Keys.{same_key, key_is_itself}
use Rattle.org_directory.proofs.Places.{members-at}

abbrev pub Has : ℕ → List ℕ → Type 0
Has p [] = ⊥
Has p (x ∷ xs) = (p ≡ x) ⊎ Has p xs

abbrev pub Each : (ℕ → Type 0) → List ℕ → Type 0
Each P [] = Unit {0}
Each P (x ∷ xs) = P x × Each P xs

Has-left : (p : ℕ) (xs ys : List ℕ) → Has p xs → Has p (xs ++ ys)
Has-left p [] ys h = absurd h
Has-left p (x ∷ xs) ys (inl e) = inl e
Has-left p (x ∷ xs) ys (inr h) = inr (Has-left p xs ys h)

Has-right : (p : ℕ) (xs ys : List ℕ) → Has p ys → Has p (xs ++ ys)
Has-right p [] ys h = h
Has-right p (x ∷ xs) ys h = inr (Has-right p xs ys h)

Each-append : (P : ℕ → Type 0) (xs ys : List ℕ) → Each P xs → Each P ys → Each P (xs ++ ys)
Each-append P [] ys a b = b
Each-append P (x ∷ xs) ys a b = (a.0, Each-append P xs ys a.1 b)

Each-right : (P : ℕ → Type 0) (xs ys : List ℕ) → Each P (xs ++ ys) → Each P ys
Each-right P [] ys a = a
Each-right P (x ∷ xs) ys a = Each-right P xs ys a.1

Each-has : (P : ℕ → Type 0) (xs : List ℕ) (p : ℕ) → Each P xs → Has p xs → P p
Each-has P [] p a h = absurd h
Each-has P (x ∷ xs) p a (inl e) = subst P (sym e) a.0
Each-has P (x ∷ xs) p a (inr h) = Each-has P xs p a.1 h

Each-map : (P Q : ℕ → Type 0) → ((p : ℕ) → P p → Q p) → (xs : List ℕ) → Each P xs → Each Q xs
Each-map P Q f [] a = tt
Each-map P Q f (x ∷ xs) a = (f x a.0, Each-map P Q f xs a.1)

pub Each-of : (P : ℕ → Type 0) (xs : List ℕ) → All P xs → Each P xs
Each-of P [] a = tt
Each-of P (x ∷ xs) a = (a 0 x (omega arith), Each-of P xs (λ k d h. a (suc k) d (omega (arith, h))))

eqb-same : (a b : ℕ) → eqb a b ≡ true → a ≡ b
eqb-same a b h = search rules

eqb-itself : (a b : ℕ) → a ≡ b → eqb a b ≡ true
eqb-itself a b h = search rules

-- marks
set-keeps : (marks : List Bool) (q p : ℕ) → q < length marks → get_or marks p false ≡ true → get_or (slice_set marks q true) p false ≡ true
set-keeps marks q p inside h = by (eqb p q) refl
  where
    by : (b : Bool) → eqb p q ≡ b → get_or (slice_set marks q true) p false ≡ true
    by true e = subst (λ x. get_or (slice_set marks q true) x false ≡ true) (sym (eqb-same p q e)) (get_or-set_same marks q true false inside)
    by false e = get_or-set_other marks q p true false (λ s. cc (eqb-itself p q s, e)) ∙ h

set-from : (marks : List Bool) (q p : ℕ) → get_or (slice_set marks q true) p false ≡ true → (p ≡ q) ⊎ (get_or marks p false ≡ true)
set-from marks q p h = by (eqb p q) refl
  where
    by : (b : Bool) → eqb p q ≡ b → (p ≡ q) ⊎ (get_or marks p false ≡ true)
    by true e = inl (eqb-same p q e)
    by false e = inr (sym (get_or-set_other marks q p true false (λ s. cc (eqb-itself p q s, e))) ∙ h)

abbrev pub Within : List Bool → List ℕ → Type 0
Within marks ps = Each (λ p. p < length marks) ps

Within-set : (marks : List Bool) (q : ℕ) (ps : List ℕ) → Within marks ps → Within (slice_set marks q true) ps
Within-set marks q ps a = subst (λ n. Each (λ p. p < n) ps) (sym (length-set marks q true)) a

pub marked-long : (marks : List Bool) (ps : List ℕ) → length (marked marks ps) ≡ length marks
marked-long marks [] = refl
marked-long marks (p ∷ ps) = marked-long (slice_set marks p true) ps ∙ length-set marks p true

marked-keeps : (marks : List Bool) (ps : List ℕ) (p : ℕ) → Within marks ps → get_or marks p false ≡ true → get_or (marked marks ps) p false ≡ true
marked-keeps marks [] p a h = h
marked-keeps marks (m ∷ ms) p a h = marked-keeps (slice_set marks m true) ms p (Within-set marks m ms a.1) (set-keeps marks m p a.0 h)

marked-all : (marks : List Bool) (ps : List ℕ) → Within marks ps → Each (λ p. get_or (marked marks ps) p false ≡ true) ps
marked-all marks [] a = tt
marked-all marks (m ∷ ms) a = (
  marked-keeps (slice_set marks m true) ms m (Within-set marks m ms a.1) (get_or-set_same marks m true false a.0),
  marked-all (slice_set marks m true) ms (Within-set marks m ms a.1),
)

marked-from : (marks : List Bool) (ps : List ℕ) (p : ℕ) → get_or (marked marks ps) p false ≡ true → (get_or marks p false ≡ true) ⊎ Has p (newly marks ps)
marked-from marks [] p h = inl h
marked-from marks (m ∷ ms) p h = by_part (marked-from (slice_set marks m true) ms p h)
  where
    first : (b : Bool) → get_or marks m false ≡ b → p ≡ m → (get_or marks p false ≡ true) ⊎ Has p (new_at b m ++ newly (slice_set marks m true) ms)
    first true e same = inl (ap (λ x. get_or marks x false) same ∙ e)
    first false e same = inr (inl same)

    by_set : (p ≡ m) ⊎ (get_or marks p false ≡ true) → (get_or marks p false ≡ true) ⊎ Has p (newly marks (m ∷ ms))
    by_set (inl same) = first (get_or marks m false) refl same
    by_set (inr old) = inl old

    by_part : (get_or (slice_set marks m true) p false ≡ true) ⊎ Has p (newly (slice_set marks m true) ms) → (get_or marks p false ≡ true) ⊎ Has p (newly marks (m ∷ ms))
    by_part (inl a) = by_set (set-from marks m p a)
    by_part (inr b) = inr (Has-right p (new_at (get_or marks m false) m) (newly (slice_set marks m true) ms) b)

newly-each : (P : ℕ → Type 0) (marks : List Bool) (ps : List ℕ) → Each P ps → Each P (newly marks ps)
newly-each P marks [] a = tt
newly-each P marks (m ∷ ms) a =
    Each-append P (new_at (get_or marks m false) m) (newly (slice_set marks m true) ms) (one (get_or marks m false))
    (newly-each P (slice_set marks m true) ms a.1)
  where
    one : (b : Bool) → Each P (new_at b m)
    one true = tt
    one false = (a.0, tt)

abbrev pub cost : Bool → ℕ
cost true = 0
cost false = 1

-- how many places have no mark
abbrev pub unmarked : List Bool → ℕ
unmarked marks = sum_by cost marks

pub fewer : (marks : List Bool) (ps : List ℕ) → Within marks ps → unmarked (marked marks ps) + length (newly marks ps) ≡ unmarked marks
fewer marks [] a = omega arith
fewer marks (m ∷ ms) a =
    let set : sum_by cost (slice_set marks m true) + cost (get_or marks m false) ≡ sum_by cost marks + cost true = sum_by-set cost marks m true false a.0 in
    let rest : unmarked (marked (slice_set marks m true) ms) + length (newly (slice_set marks m true) ms) ≡ unmarked (slice_set marks m true)
    = fewer (slice_set marks m true) ms (Within-set marks m ms a.1) in
    let size : length (newly marks (m ∷ ms)) ≡ length (new_at (get_or marks m false) m) + length (newly (slice_set marks m true) ms)
    = length-append (new_at (get_or marks m false) m) (newly (slice_set marks m true) ms) in
    let one : length (new_at (get_or marks m false) m) ≡ cost (get_or marks m false) = count (get_or marks m false) in
    omega (arith, set, rest, size, one)
  where
    count : (b : Bool) → length (new_at b m) ≡ cost b
    count true = refl
    count false = refl

-- the group itself, or in it
abbrev pub Reached : Register → ℕ → ℕ → Type 0
Reached reg group p = (p ≡ group) ⊎ In reg (key_at reg group) (key_at reg p)

abbrev pub places_under : Register → ℕ → List ℕ
places_under reg p = members_in (slice_get reg.objects p)

-- The key isn't among its members, and these are marked.
abbrev pub Settled : Register → List ℕ → List Bool → ℕ → Type 0
Settled reg key marks p = (among key (keys_at reg (places_under reg p)) ≡ false) × Each (λ m. get_or marks m false ≡ true) (places_under reg p)

pub record Seeking (reg : Register) (group : ℕ) (key : List ℕ) (marks : List Bool) (queue : List ℕ) (done : ℕ) : Type 0 where
  pub long : length marks ≡ length reg.objects
  pub below : Each (λ p. p < length reg.objects) queue
  pub reached : Each (Reached reg group) queue
  pub queued : (p : ℕ) → get_or marks p false ≡ true → Has p queue
  pub begun : Has group queue
  pub settled : (front rest : List ℕ) × (queue ≡ front ++ rest) × (length front ≡ done) × Each (Settled reg key marks) front

no-marks : (n p : ℕ) → get_or (replicate n false) p false ≡ true → ⊥
no-marks zero p h = cc h
no-marks (suc n) zero h = cc h
no-marks (suc n) (suc p) h = no-marks n p h

pub seek-start : (reg : Register) (group : ℕ) (key : List ℕ) (marks marks' : List Bool) (queue queue' : List ℕ)
    → group < length reg.objects → marks ≡ replicate (length reg.objects) false → queue ≡ [] → marks' ≡ slice_set marks group true
    → queue' ≡ queue ++ new_at (get_or marks group false) group → Seeking reg group key marks' queue' 0
seek-start reg group key marks marks' queue queue' inside none empty set new =
    let off : get_or marks group false ≡ false = ap (λ m. get_or m group false) none ∙ get_or-replicate (length reg.objects) group false false inside in
    let is : queue' ≡ group ∷ [] = new ∙ (ap (λ q. q ++ new_at (get_or marks group false) group) empty ∙ ap (λ b. new_at b group) off) in
    let size : length marks' ≡ length reg.objects = ap length set ∙ (length-set marks group true ∙ (ap length none ∙ length-replicate (length reg.objects) false)) in
    let start : Seeking reg group key marks' (group ∷ []) 0 = record {
      long = size;
      below = (inside, tt);
      reached = (inl refl, tt);
      queued = λ p h. only p (set-from marks group p (sym (ap (λ m. get_or m p false) set) ∙ h));
      begun = inl refl;
      settled = ([], group ∷ [], refl, refl, tt);
    } in
    subst (λ q. Seeking reg group key marks' q 0) (sym is) start
  where
    only : (p : ℕ) → (p ≡ group) ⊎ (get_or marks p false ≡ true) → Has p (group ∷ [])
    only p (inl e) = inl e
    only p (inr h) = absurd (no-marks (length reg.objects) p (sym (ap (λ m. get_or m p false) none) ∙ h))

-- the next place of the queue
pub next-place : (queue front rest : List ℕ) (done : ℕ) → queue ≡ front ++ rest → length front ≡ done → done < length queue
    → (p : ℕ) × (later : List ℕ) × (rest ≡ p ∷ later) × (slice_get queue done ≡ Some p)
next-place queue front rest done is size more =
    let sized : length queue ≡ length front + length rest = ap length is ∙ length-append front rest in
    at rest (omega (arith, sized, size, more)) is
  where
    there : (front later : List ℕ) (p : ℕ) → slice_get (front ++ p ∷ later) (length front) ≡ Some p
    there [] later p = refl
    there (x ∷ xs) later p = there xs later p

    at : (rest : List ℕ) → 0 < length rest → queue ≡ front ++ rest → (p : ℕ) × (later : List ℕ) × (rest ≡ p ∷ later) × (slice_get queue done ≡ Some p)
    at [] h e = absurd (omega (arith, h))
    at (p ∷ later) h e = (p, later, refl, ap (λ q. slice_get q done) e ∙ (ap (slice_get (front ++ p ∷ later)) (sym size) ∙ there front later p))

-- a key among the keys at places is that of one of them
listed : (reg : Register) (key : List ℕ) (ps : List ℕ) → among key (keys_at reg ps) ≡ true → (p : ℕ) × Has p ps × (key ≡ key_at reg p)
listed reg key [] h = absurd (cc h)
listed reg key (p ∷ ps) h = by (λ h. listed reg key ps h) (bytes_eq key (key_at reg p)) refl h
  where
    later : (q : ℕ) × Has q ps × (key ≡ key_at reg q) → (q : ℕ) × Has q (p ∷ ps) × (key ≡ key_at reg q)
    later t = (t.0, inr t.1, t.2)

    by : (among key (keys_at reg ps) ≡ true → (q : ℕ) × Has q ps × (key ≡ key_at reg q)) → (b : Bool) → bytes_eq key (key_at reg p) ≡ b
        → (b || among key (keys_at reg ps)) ≡ true → (q : ℕ) × Has q (p ∷ ps) × (key ≡ key_at reg q)
    by again true e _ = (p, inl refl, same_key key (key_at reg p) e)
    by again false e h = later (again h)

lists-it : (reg : Register) (p : ℕ) (ps : List ℕ) → Has p ps → among (key_at reg p) (keys_at reg ps) ≡ true
lists-it reg p [] h = absurd h
lists-it reg p (x ∷ xs) (inl e) = or-left (bytes_eq (key_at reg p) (key_at reg x)) (among (key_at reg p) (keys_at reg xs)) (subst (λ y. bytes_eq (key_at reg p) (key_at reg y) ≡ true) e (key_is_itself (key_at reg p)))
  where
    or-left : (b c : Bool) → b ≡ true → (b || c) ≡ true
    or-left true c h = refl
    or-left false c h = absurd (cc h)
lists-it reg p (x ∷ xs) (inr h) = or-right (bytes_eq (key_at reg p) (key_at reg x)) (among (key_at reg p) (keys_at reg xs)) (lists-it reg p xs h)
  where
    or-right : (b c : Bool) → c ≡ true → (b || c) ≡ true
    or-right true c h = refl
    or-right false c h = h

-- a chain goes on
longer : (reg : Register) (n : ℕ) (g m k : List ℕ) → Chain reg n g m → among k (members_of reg m) ≡ true → In reg g k
longer reg zero g m k c h = (1, (m, c, h))
longer reg (suc n) g m k c h = with (longer reg n c.0 m k c.2 h)
  where
    with : In reg c.0 k → In reg g k
    with t = (suc t.0, (c.0, c.1, t.1))

reach : (reg : Register) (group p : ℕ) (k : List ℕ) → Reached reg group p → among k (members_of reg (key_at reg p)) ≡ true → In reg (key_at reg group) k
reach reg group p k (inl e) h = (0, subst (λ x. among k (members_of reg (key_at reg x)) ≡ true) e h)
reach reg group p k (inr c) h = longer reg c.0 (key_at reg group) (key_at reg p) k c.1 h

-- A member was found.
pub seek-found : (reg : Register) (group : ℕ) (key : List ℕ) (marks : List Bool) (queue : List ℕ) (done p : ℕ) → IsSound reg
    → Seeking reg group key marks queue done → done < length queue → slice_get queue done ≡ Some p
    → among key (keys_at reg (places_under reg p)) ≡ true → In reg (key_at reg group) key
seek-found reg group key marks queue done p sound s more at found =
    let there = queue-has queue done p at in
    let inside : p < length reg.objects = Each-has (λ q. q < length reg.objects) queue p s.below there in
    reach reg group p key (Each-has (Reached reg group) queue p s.reached there)
    (subst (λ ks. among key ks ≡ true) (sym (members-at reg p sound inside)) found)
  where
    queue-has : (queue : List ℕ) (done p : ℕ) → slice_get queue done ≡ Some p → Has p queue
    queue-has [] done p h = absurd (cc h)
    queue-has (x ∷ xs) zero p h = inl (cc h)
    queue-has (x ∷ xs) (suc done) p h = inr (queue-has xs done p h)

-- The place is settled, and its members are queued.
pub seek-more : (reg : Register) (group : ℕ) (key : List ℕ) (marks : List Bool) (queue : List ℕ) (done p : ℕ) (o : Object) → IsSound reg
    → Seeking reg group key marks queue done → done < length queue → slice_get queue done ≡ Some p → slice_get reg.objects p ≡ Some o
    → among key (keys_at reg o.members) ≡ false → Seeking reg group key (marked marks o.members) (queue ++ newly marks o.members) (done + 1)
seek-more reg group key marks queue done p o sound s more at there off =
    let front : List ℕ = s.settled.0 in
    let next = next-place queue s.settled.0 s.settled.1 done s.settled.2 s.settled.3 more in
    let same : p ≡ next.0 = cc (at, next.3) in
    let range : Each (λ m. m < length reg.objects) o.members = Each-of (λ m. m < length reg.objects) o.members (sound.placed p o there).members in
    let inside : Within marks o.members = subst (λ n. Each (λ m. m < n) o.members) (sym s.long) range in
    let is-o : places_under reg p ≡ o.members = ap members_in there in
    let on-queue : Has p queue = subst (Has p) (sym s.settled.2) (Has-right p s.settled.0 s.settled.1 (subst (Has p) (sym next.2) (inl same))) in
    let p-below : p < length reg.objects = Each-has (λ q. q < length reg.objects) queue p s.below on-queue in
    let p-reached : Reached reg group p = Each-has (Reached reg group) queue p s.reached on-queue in
    let members-reached : Each (Reached reg group) o.members = each-member o.members (λ m h. inr (reach reg group p (key_at reg m) p-reached
    (subst (λ ks. among (key_at reg m) ks ≡ true) (sym (members-at reg p sound p-below ∙ ap (keys_at reg) is-o)) (lists-it reg m o.members h)))) in
    record {
      long = marked-long marks o.members ∙ s.long;
      below = Each-append (λ q. q < length reg.objects) queue (newly marks o.members) s.below (newly-each (λ q. q < length reg.objects) marks o.members range);
      reached = Each-append (Reached reg group) queue (newly marks o.members) s.reached (newly-each (Reached reg group) marks o.members members-reached);
      queued = λ q h. from-queue q (marked-from marks o.members q h);
      begun = Has-left group queue (newly marks o.members) s.begun;
      settled = (
        s.settled.0 ++ p ∷ [],
        next.1 ++ newly marks o.members,
        ap (λ q. q ++ newly marks o.members) (s.settled.2 ∙ (ap (λ r. s.settled.0 ++ r) (next.2 ∙ ap (λ x. x ∷ next.1) (sym same)) ∙ sym (append_assoc s.settled.0 (p ∷ []) next.1)))
            ∙ append_assoc (s.settled.0 ++ p ∷ []) next.1 (newly marks o.members),
        length-append s.settled.0 (p ∷ []) ∙ ap (λ n. n + 1) s.settled.3,
        Each-append (Settled reg key (marked marks o.members)) s.settled.0 (p ∷ [])
            (Each-map (Settled reg key marks) (Settled reg key (marked marks o.members)) (λ q t. (t.0, Each-map (λ m. get_or marks m false ≡ true) (λ m. get_or (marked marks o.members) m false ≡ true) (λ m h. marked-keeps marks o.members m inside h) (places_under reg q) t.1)) s.settled.0 s.settled.4)
            ((subst (λ ms. among key (keys_at reg ms) ≡ false) (sym is-o) off, subst (Each (λ m. get_or (marked marks o.members) m false ≡ true)) (sym is-o) (marked-all marks o.members inside)), tt),
      );
    }
  where
    each-member : (ms : List ℕ) → ((m : ℕ) → Has m ms → Reached reg group m) → Each (Reached reg group) ms
    each-member [] f = tt
    each-member (m ∷ ms) f = (f m (inl refl), each-member ms (λ x h. f x (inr h)))

    from-queue : (q : ℕ) → (get_or marks q false ≡ true) ⊎ Has q (newly marks o.members) → Has q (queue ++ newly marks o.members)
    from-queue q (inl h) = Has-left q queue (newly marks o.members) (s.queued q h)
    from-queue q (inr h) = Has-right q queue (newly marks o.members) h

-- Where the whole queue is settled, no chain leads to the key.
closed-off : (reg : Register) (key : List ℕ) (marks : List Bool) (queue : List ℕ) → IsSound reg
    → Each (λ p. p < length reg.objects) queue → ((p : ℕ) → get_or marks p false ≡ true → Has p queue) → Each (Settled reg key marks) queue
    → (n p : ℕ) → Has p queue → Chain reg n (key_at reg p) key → ⊥
closed-off reg key marks queue sound below queued settled zero p h c =
    let inside : p < length reg.objects = Each-has (λ q. q < length reg.objects) queue p below h in
    let off : among key (keys_at reg (places_under reg p)) ≡ false = (Each-has (Settled reg key marks) queue p settled h).0 in
    let on : among key (keys_at reg (places_under reg p)) ≡ true = subst (λ ks. among key ks ≡ true) (members-at reg p sound inside) c in
    cc (on, off)
closed-off reg key marks queue sound below queued settled (suc n) p h c =
    let inside : p < length reg.objects = Each-has (λ q. q < length reg.objects) queue p below h in
    let on : among c.0 (keys_at reg (places_under reg p)) ≡ true = subst (λ ks. among c.0 ks ≡ true) (members-at reg p sound inside) c.1 in
    let one : (q : ℕ) × Has q (places_under reg p) × (c.0 ≡ key_at reg q) = listed reg c.0 (places_under reg p) on in
    let mark : get_or marks one.0 false ≡ true
    = Each-has (λ m. get_or marks m false ≡ true) (places_under reg p) one.0 (Each-has (Settled reg key marks) queue p settled h).1 one.1 in
    closed-off reg key marks queue sound below queued settled n one.0 (queued one.0 mark) (subst (λ g. Chain reg n g key) one.2 c.2)

pub seek-none : (reg : Register) (group : ℕ) (key : List ℕ) (marks : List Bool) (queue : List ℕ) (done : ℕ) → IsSound reg
    → Seeking reg group key marks queue done → length queue ≤ done → In reg (key_at reg group) key → ⊥
seek-none reg group key marks queue done sound s all c =
    let sized : length queue ≡ length s.settled.0 + length s.settled.1 = ap length s.settled.2 ∙ length-append s.settled.0 s.settled.1 in
    let none : length s.settled.1 ≡ 0 = omega (arith, sized, s.settled.3, all) in
    let whole : queue ≡ s.settled.0 = s.settled.2 ∙ (ap (λ r. s.settled.0 ++ r) (empty s.settled.1 none) ∙ append-nil s.settled.0) in
    closed-off reg key marks queue sound s.below s.queued (subst (Each (Settled reg key marks)) (sym whole) s.settled.4) c.0 group s.begun c.1
  where
    empty : (xs : List ℕ) → length xs ≡ 0 → xs ≡ []
    empty [] h = refl
    empty (x ∷ xs) h = absurd (omega (arith, h))

pub got-at : (xs : List ℕ) (i x : ℕ) → i < length xs → x ≡ get_or xs i x → slice_get xs i ≡ Some x
got-at [] i x h e = absurd (omega (arith, h))
got-at (y ∷ ys) zero x h e = ap Some (sym e)
got-at (y ∷ ys) (suc i) x h e = got-at ys i x (omega (arith, h)) e

-- Each turn leaves one place fewer to mark or to take.
pub seek-smaller : (marks after : List Bool) (queue longer' ps : List ℕ) (done : ℕ) → Within marks ps → after ≡ marked marks ps
    → longer' ≡ queue ++ newly marks ps → done < length queue
    → unmarked after + length longer' - (done + 1) < unmarked marks + length queue - done
seek-smaller marks after queue longer' ps done inside m q more =
    let less : unmarked after + length (newly marks ps) ≡ unmarked marks = ap (λ x. unmarked x + length (newly marks ps)) m ∙ fewer marks ps inside in
    let size : length longer' ≡ length queue + length (newly marks ps) = ap length q ∙ length-append queue (newly marks ps) in
    omega (arith, less, size, more)

pub within-of : (marks : List Bool) (n : ℕ) (ps : List ℕ) → length marks ≡ n → All (λ p. p < n) ps → Within marks ps
within-of marks n ps e a = subst (λ m. Each (λ p. p < m) ps) (sym e) (Each-of (λ p. p < n) ps a)
