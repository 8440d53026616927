-- Work on one file leaves the others in the order.
use Rattle.std.proofs.Common.{◌≡◌, ℕ, Bool, true, false, cond, List, [], ◌∷◌, ◌++◌, length, map, drop, refl, ap, ◌∙◌, sym, arith, append_assoc, length-append}
use Rattle.std.specs.Prelude.{bytes_eq, filter, codes, decimal, is_some, IsPermutation, Option, Some, None}
use Rattle.std.specs.List.{AllByRecursion, IsDistinct}
use Rattle.std.proofs.lemmas.Slice.Eq.{bytes_eq-Decides}
use Rattle.std.proofs.lemmas.List.{drop_at, get_or-map, length-map}
use Rattle.std.proofs.lemmas.Map.Keys.{IsDistinct-head, IsDistinct-tail, IsDistinct-cons, IsDistinct-IsPermutation}
use Rattle.std.proofs.lemmas.Map.Made.{IsDistinct-from_AllPairs}
use Rattle.mail_submission.specs.Submission.{Submitted}
use Rattle.pickup_box.specs.FileNames.{begun_stem, new_stem, is_begun, is_new, order_of, begun_name, bad_name}
use Rattle.pickup_box.specs.Folder.{File, names_of, HasNoNameTwice}
use Rattle.pickup_box.specs.Works.{Work, mark_of, stem_of, submission, moved, put, behind, behind_all}
use Rattle.pickup_box.proofs.Naming.{begun_found, ending_found}

pub skip : {X : Type 0} (t : Bool) (x y : X) → t ≡ false → cond t x y ≡ y
skip true x y h = absurd cc
skip false x y h = refl

not_same : (m n : List ℕ) → (m ≡ n → ⊥) → bytes_eq m n ≡ false
not_same m n other = by (bytes_eq m n) refl
  where
    by : (t : Bool) → bytes_eq m n ≡ t → bytes_eq m n ≡ false
    by true e = absurd (other ((bytes_eq-Decides m n).0 e))
    by false e = e

flips : (m n : List ℕ) → bytes_eq m n ≡ bytes_eq n m
flips m n = by (bytes_eq n m) refl
  where
    by : (t : Bool) → bytes_eq n m ≡ t → bytes_eq m n ≡ bytes_eq n m
    by true e = (bytes_eq-Decides m n).1 (sym ((bytes_eq-Decides n m).0 e)) ∙ sym e
    by false e = not_same m n (λ same. (let is : bytes_eq n m ≡ true = (bytes_eq-Decides n m).1 (sym same) in cc)) ∙ sym e

endings_differ : (x y e f : List ℕ) → length e ≡ length f → bytes_eq e f ≡ false → x ++ e ≡ y ++ f → ⊥
endings_differ x y e f size other same =
    let sizes = ap length same in
    let left = length-append x e in
    let right = length-append y f in
    let place : length y ≡ length x = omega arith in
    let is : bytes_eq e f ≡ true = (bytes_eq-Decides e f).1 (sym (drop_at x e (length x) refl) ∙ ap (drop (length x)) same ∙ drop_at y f (length x) place) in
    let no_way : true ≡ false = sym is ∙ other in
    absurd cc

-- a name with this ending
record Ending (ending name : List ℕ) : Type 0 where
  front : List ℕ
  is : name ≡ front ++ ending

differ : (m n e f : List ℕ) → Ending e m → Ending f n → length e ≡ length f → bytes_eq e f ≡ false → m ≡ n → ⊥
differ m n e f one two size other same = endings_differ one.front two.front e f size other (sym one.is ∙ same ∙ two.is)

stem_there : (o : Option (List ℕ)) → is_some o ≡ true → (x : List ℕ) × (o ≡ Some x)
stem_there None h = absurd cc
stem_there (Some x) h = (x, refl)

begun_ending : (m : List ℕ) → is_begun m ≡ true → Ending (codes ".tmp") m
begun_ending m h =
    let there = stem_there (begun_stem m) h in
    let found = begun_found m there.0 there.1 in
    record { front = there.0 ++ 46 ∷ found.digits; is = found.is ∙ sym (append_assoc there.0 (46 ∷ found.digits) (codes ".tmp")) }

new_ending : (m : List ℕ) → is_new m ≡ true → Ending (codes ".eml") m
new_ending m h = let there = stem_there (new_stem m) h in record { front = there.0; is = ending_found (codes ".eml") m there.0 there.1 }

marked_ending : (stem : List ℕ) (k : ℕ) → Ending (codes ".tmp") (begun_name stem k)
marked_ending stem k = record { front = stem ++ 46 ∷ decimal k; is = sym (append_assoc stem (46 ∷ decimal k) (codes ".tmp")) }

bad_ending : (stem : List ℕ) → Ending (codes ".bad") (bad_name stem)
bad_ending stem = record { front = stem; is = refl }

not_begun : (m : List ℕ) → is_new m ≡ true → is_begun m ≡ false
not_begun m h = by (is_begun m) refl
  where
    by : (t : Bool) → is_begun m ≡ t → is_begun m ≡ false
    by true e = absurd (differ m m (codes ".tmp") (codes ".eml") (begun_ending m e) (new_ending m h) refl refl refl)
    by false e = e

-- Work on a file of the second name leaves that of the first.
pub record Spared (m n : List ℕ) : Type 0 where
  pub other : bytes_eq m n ≡ false
  pub mark : (k : ℕ) → bytes_eq m (mark_of n k) ≡ false
  pub bad : bytes_eq m (bad_name (stem_of n)) ≡ false

abbrev pub AllSpared : List ℕ → List (List ℕ) → Type 0
AllSpared n [] = Unit {0}
AllSpared n (m ∷ ms) = Spared m n × AllSpared n ms

-- Work on each of these leaves all later ones.
abbrev pub Apart : List (List ℕ) → Type 0
Apart [] = Unit {0}
Apart (n ∷ ns) = AllSpared n ns × Apart ns

put_spared : (o : Option Submitted) (n mark stem : List ℕ) (files : List ℕ → Option (List ℕ)) (m : List ℕ) → bytes_eq m n ≡ false → bytes_eq m mark ≡ false → bytes_eq m (bad_name stem) ≡ false →
    put o mark stem (moved n mark files) m ≡ files m
put_spared None n mark stem files m other marked bad =
    skip (bytes_eq m (bad_name stem)) (moved n mark files mark) (cond (bytes_eq m mark) None (moved n mark files m)) bad
    ∙ skip (bytes_eq m mark) None (moved n mark files m) marked
    ∙ skip (bytes_eq m mark) (files n) (cond (bytes_eq m n) None (files m)) marked
    ∙ skip (bytes_eq m n) None (files m) other
put_spared (Some s) n mark stem files m other marked bad =
    skip (bytes_eq m mark) None (moved n mark files m) marked
    ∙ skip (bytes_eq m mark) (files n) (cond (bytes_eq m n) None (files m)) marked
    ∙ skip (bytes_eq m n) None (files m) other

behind_spared : (w : Work) (files : List ℕ → Option (List ℕ)) (m : List ℕ) → Spared m w.name → behind w files m ≡ files m
behind_spared w files m s = put_spared (submission w) w.name (mark_of w.name w.number) (stem_of w.name) files m s.other (s.mark w.number) s.bad

spared_there : (n m : List ℕ) (ns ms : List (List ℕ)) → AllSpared n (ns ++ m ∷ ms) → Spared m n
spared_there n m [] ms h = h.0
spared_there n m (x ∷ ns) ms h = spared_there n m ns ms h.1

pub all_spared : (ws : List Work) (files : List ℕ → Option (List ℕ)) (m : List ℕ) (ms : List (List ℕ)) → Apart (map (λ (w : Work). w.name) ws ++ m ∷ ms) → behind_all ws files m ≡ files m
all_spared [] files m ms h = refl
all_spared (w ∷ ws) files m ms h =
    all_spared ws (behind w files) m ms h.1
    ∙ behind_spared w files m (spared_there w.name m (map (λ (w : Work). w.name) ws) ms h.0)

abbrev AllPass : (List ℕ → Bool) → List (List ℕ) → Type 0
AllPass p [] = Unit {0}
AllPass p (n ∷ ns) = (p n ≡ true) × AllPass p ns

passes-filter : (p : List ℕ → Bool) (ns : List (List ℕ)) → AllPass p (filter p ns)
passes-filter p [] = tt
passes-filter p (n ∷ ns) = by (p n) refl (passes-filter p ns)
  where
    by : (t : Bool) → p n ≡ t → AllPass p (filter p ns) → AllPass p (cond t (n ∷ filter p ns) (filter p ns))
    by true e more = (e, more)
    by false e more = more

-- none of these is this name
abbrev Misses : List ℕ → List (List ℕ) → Type 0
Misses n ms = AllByRecursion (λ m. bytes_eq n m ≡ false) ms

misses-filter : (p : List ℕ → Bool) (n : List ℕ) (ms : List (List ℕ)) → Misses n ms → Misses n (filter p ms)
misses-filter p n [] h = tt
misses-filter p n (m ∷ ms) h = by (p m) (misses-filter p n ms h.1)
  where
    by : (t : Bool) → Misses n (filter p ms) → Misses n (cond t (m ∷ filter p ms) (filter p ms))
    by true more = (h.0, more)
    by false more = more

none_distinct : IsDistinct bytes_eq []
unfolding IsDistinct
none_distinct = tt

distinct-filter : (p : List ℕ → Bool) (ns : List (List ℕ)) → IsDistinct bytes_eq ns → IsDistinct bytes_eq (filter p ns)
distinct-filter p [] h = none_distinct
distinct-filter p (n ∷ ns) h = by (p n) (distinct-filter p ns (IsDistinct-tail bytes_eq n ns h))
  where
    by : (t : Bool) → IsDistinct bytes_eq (filter p ns) → IsDistinct bytes_eq (cond t (n ∷ filter p ns) (filter p ns))
    by true more = IsDistinct-cons bytes_eq n (filter p ns) (misses-filter p n ns (IsDistinct-head bytes_eq n ns h)) more
    by false more = more

spared_new : (m n : List ℕ) → is_new n ≡ true → is_new m ≡ true → bytes_eq n m ≡ false → Spared m n
spared_new m n hn hm other = record {
  other = flips m n ∙ other;
  mark = λ k. ap (λ t. bytes_eq m (cond t n (begun_name (stem_of n) k))) (not_begun n hn)
      ∙ not_same m (begun_name (stem_of n) k) (differ m (begun_name (stem_of n) k) (codes ".eml") (codes ".tmp") (new_ending m hm) (marked_ending (stem_of n) k) refl refl);
  bad = not_same m (bad_name (stem_of n)) (differ m (bad_name (stem_of n)) (codes ".eml") (codes ".bad") (new_ending m hm) (bad_ending (stem_of n)) refl refl);
}

spared_begun : (m n : List ℕ) → is_begun n ≡ true → is_begun m ≡ true → bytes_eq n m ≡ false → Spared m n
spared_begun m n hn hm other = record {
  other = flips m n ∙ other;
  mark = λ k. ap (λ t. bytes_eq m (cond t n (begun_name (stem_of n) k))) hn ∙ flips m n ∙ other;
  bad = not_same m (bad_name (stem_of n)) (differ m (bad_name (stem_of n)) (codes ".tmp") (codes ".bad") (begun_ending m hm) (bad_ending (stem_of n)) refl refl);
}

spared_later : (m n : List ℕ) → is_begun n ≡ true → is_new m ≡ true → Spared m n
spared_later m n hn hm =
    let other : bytes_eq m n ≡ false = not_same m n (differ m n (codes ".eml") (codes ".tmp") (new_ending m hm) (begun_ending n hn) refl refl) in record {
      other = other;
      mark = λ k. ap (λ t. bytes_eq m (cond t n (begun_name (stem_of n) k))) hn ∙ other;
      bad = not_same m (bad_name (stem_of n)) (differ m (bad_name (stem_of n)) (codes ".eml") (codes ".bad") (new_ending m hm) (bad_ending (stem_of n)) refl refl);
    }

apart_new : (ns : List (List ℕ)) → AllPass is_new ns → IsDistinct bytes_eq ns → Apart ns
apart_new [] h d = tt
apart_new (n ∷ ns) h d = (from ns h.1 (IsDistinct-head bytes_eq n ns d), apart_new ns h.1 (IsDistinct-tail bytes_eq n ns d))
  where
    from : (ms : List (List ℕ)) → AllPass is_new ms → Misses n ms → AllSpared n ms
    from [] h k = tt
    from (m ∷ ms) g k = (spared_new m n h.0 g.0 k.0, from ms g.1 k.1)

apart_begun : (ns ms : List (List ℕ)) → AllPass is_begun ns → IsDistinct bytes_eq ns → AllPass is_new ms → Apart ms → Apart (ns ++ ms)
apart_begun [] ms h d g a = a
apart_begun (n ∷ ns) ms h d g a = (from ns h.1 (IsDistinct-head bytes_eq n ns d), apart_begun ns ms h.1 (IsDistinct-tail bytes_eq n ns d) g a)
  where
    later : (xs : List (List ℕ)) → AllPass is_new xs → AllSpared n xs
    later [] g = tt
    later (x ∷ xs) g = (spared_later x n h.0 g.0, later xs g.1)

    from : (xs : List (List ℕ)) → AllPass is_begun xs → Misses n xs → AllSpared n (xs ++ ms)
    from [] k l = later ms g
    from (x ∷ xs) k l = (spared_begun x n h.0 k.0 l.0, from xs k.1 l.1)

pub apart_order : (names : List (List ℕ)) → IsDistinct bytes_eq names → Apart (order_of names)
apart_order names d =
    apart_begun (filter is_begun names) (filter is_new names) (passes-filter is_begun names) (distinct-filter is_begun names d) (passes-filter is_new names)
    (apart_new (filter is_new names) (passes-filter is_new names) (distinct-filter is_new names d))

pub distinct_names : (files : List File) (names : List (List ℕ)) → HasNoNameTwice files → IsPermutation (names_of files) names → IsDistinct bytes_eq names
distinct_names files names h p =
    IsDistinct-IsPermutation bytes_eq flips (names_of files) names p
    (IsDistinct-from_AllPairs bytes_eq-Decides (names_of files)
    (λ i j d lt within. (
    let size : length (names_of files) ≡ length files = length-map files (λ (f : File). f.0) in
    λ same. h i j (d, d) lt (omega arith)
    (sym (get_or-map (λ (f : File). f.0) files i (d, d) d (omega arith)) ∙ same ∙ get_or-map (λ (f : File). f.0) files j (d, d) d (omega arith)))))
