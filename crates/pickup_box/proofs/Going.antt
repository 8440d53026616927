-- The work on the files of an order.
use Rattle.std.proofs.Common.{◌≡◌, ℕ, suc, ◌+◌, ◌<◌, ◌≤◌, Bool, true, false, cond, List, [], ◌∷◌, ◌++◌, length, map, take, drop, get_or, drop-cons, refl, ap, ◌∙◌, sym, subst, arith}
use Rattle.std.specs.Prelude.{IsTrue, IsSome, IsPermutation, bytes_eq, filter, Option, Some, Result, Ok, Err}
use Rattle.std.specs.List.{AllByRecursion, count_by}
use Rattle.std.proofs.lemmas.Slice.Eq.{bytes_eq-Decides}
use Rattle.std.proofs.lemmas.List.{take_all, take_more, take-append-drop, length-map, map-append}
use Rattle.std.proofs.lemmas.List.Elements.{All-from_recursion, recursion_from_All}
use Rattle.std.proofs.lemmas.List.Sorted.{All-permutation}
use Rattle.std.proofs.lemmas.List.Sums.{sum_by-append, sum_by-cons, count_by-le-length}
use Rattle.mail_submission.specs.declared.intake.IntakeStep.{IntakeStep}
use Rattle.pickup_box.specs.FileNames.{is_begun, is_new, order_of}
use Rattle.pickup_box.specs.Folder.{File, Folder, bytes_in, names_of, HasNoNameTwice, IsAscending, Has, Tells, Stays}
use Rattle.pickup_box.specs.Works.{Work, Did, HaveBytes, behind_all, fate, is_new_one, is_bad_one, counted, ended}
use Rattle.pickup_box.specs.Taking.{InOrder, Tallies, Ends, EndsWell, Goes}
use Rattle.pickup_box.specs.Parts.{Took}
use Rattle.pickup_box.specs.declared.taking.PickupEnd.{PickupEnd}
use Rattle.pickup_box.specs.declared.taking.PickupFault.{PickupFault}
use Rattle.pickup_box.specs.declared.taking.Halt.{Halt}
use Rattle.pickup_box.specs.declared.taking.Halt.TheVariants as halts
use Rattle.pickup_box.specs.declared.taking.Fate.{Fate}
use Rattle.pickup_box.specs.declared.taking.Fate.TheVariants as fates
use Rattle.pickup_box.proofs.Sparing.{Apart, all_spared, apart_order, distinct_names}
use Rattle.pickup_box.proofs.Doing.{Did-none, Did-push, Becomes-stays}

abbrev named : List Work → List (List ℕ)
named ws = map (λ (w : Work). w.name) ws

all-filter : (P : List ℕ → Type 0) (p : List ℕ → Bool) (ns : List (List ℕ)) → AllByRecursion P ns → AllByRecursion P (filter p ns)
all-filter P p [] h = tt
all-filter P p (n ∷ ns) h = by (p n) (all-filter P p ns h.1)
  where
    by : (t : Bool) → AllByRecursion P (filter p ns) → AllByRecursion P (cond t (n ∷ filter p ns) (filter p ns))
    by true more = (h.0, more)
    by false more = more

all-append : (P : List ℕ → Type 0) (ns ms : List (List ℕ)) → AllByRecursion P ns → AllByRecursion P ms → AllByRecursion P (ns ++ ms)
all-append P [] ms h g = g
all-append P (n ∷ ns) ms h g = (h.0, all-append P ns ms h.1 g)

all-at : (P : List ℕ → Type 0) (ns ms : List (List ℕ)) (m : List ℕ) → AllByRecursion P (ns ++ m ∷ ms) → P m
all-at P [] ms m h = h.0
all-at P (n ∷ ns) ms m h = all-at P ns ms m h.1

all-weaker : (P Q : List ℕ → Type 0) (ns : List (List ℕ)) → ((n : List ℕ) → P n → Q n) → AllByRecursion P ns → AllByRecursion Q ns
all-weaker P Q [] more h = tt
all-weaker P Q (n ∷ ns) more h = (more n h.0, all-weaker P Q ns more h.1)

some_is : (x : List ℕ) → IsSome (Some x)
some_is x = refl

all_there : (files : List File) → AllByRecursion (λ n. IsSome (bytes_in files n)) (names_of files)
all_there [] = tt
all_there (file ∷ files) = (
  subst (λ (o : Option (List ℕ)). IsSome o) (sym (ap (λ t. cond t (Some file.1) (bytes_in files file.0)) ((bytes_eq-Decides file.0 file.0).1 refl))) (some_is file.1),
  all-weaker (λ n. IsSome (bytes_in files n)) (λ n. IsSome (bytes_in (file ∷ files) n)) (names_of files) (λ n. by n (bytes_eq n file.0)) (all_there files),
)
  where
    by : (n : List ℕ) (t : Bool) → IsSome (bytes_in files n) → IsSome (cond t (Some file.1) (bytes_in files n))
    by n true h = some_is file.1
    by n false h = h

-- each file of the order is there
order_there : (d : Folder) (order : List (List ℕ)) → InOrder d order → IsTrue d.told → AllByRecursion (λ n. IsSome (bytes_in d.files n)) order
order_there d order o told =
    let P : List ℕ → Type 0 = λ n. IsSome (bytes_in d.files n) in
    let all : AllByRecursion P o.names = recursion_from_All P o.names (All-permutation P (names_of d.files) o.names (o.all told) (All-from_recursion P (names_of d.files) (all_there d.files))) in
    subst (λ ns. AllByRecursion P ns) (sym o.is) (all-append P (filter is_begun o.names) (filter is_new o.names) (all-filter P is_begun o.names all) (all-filter P is_new o.names all))

-- a file that is left has its bytes still
pub same_left : {I : Type 0} (gives : I → IntakeStep → I → Type 0) (a b : I) (old new : ℕ → Option ℕ) (d e : Folder) (order : List (List ℕ)) (ws : List Work) (m : List ℕ) (ms : List (List ℕ)) →
    InOrder d order → (IsTrue d.told → HasNoNameTwice d.files) → Did gives a b old new d e ws → order ≡ named ws ++ m ∷ ms → IsTrue d.told → bytes_in e.files m ≡ bytes_in d.files m
same_left gives a b old new d e order ws m ms o distinct did is told =
    let apart : Apart order = subst Apart (sym o.is) (apart_order o.names (distinct_names d.files o.names (distinct told) (o.all told))) in
    did.folder.files told m ∙ all_spared ws (bytes_in d.files) m ms (subst Apart is apart)

pub has_left : {I : Type 0} (gives : I → IntakeStep → I → Type 0) (a b : I) (old new : ℕ → Option ℕ) (d e : Folder) (order : List (List ℕ)) (ws : List Work) (m : List ℕ) (ms : List (List ℕ)) →
    InOrder d order → (IsTrue d.told → HasNoNameTwice d.files) → Did gives a b old new d e ws → order ≡ named ws ++ m ∷ ms → Has m e
has_left gives a b old new d e order ws m ms o distinct did is = λ t.
    (let told : IsTrue d.told = subst IsTrue did.folder.told t in
    subst (λ (x : Option (List ℕ)). IsSome x) (sym (same_left gives a b old new d e order ws m ms o distinct did is told))
    (all-at (λ n. IsSome (bytes_in d.files n)) (named ws) ms m (subst (λ ns. AllByRecursion (λ n. IsSome (bytes_in d.files n)) ns) is (order_there d order o told))))

-- These files were done so far.
pub record SoFar {I : Type 0} (gives : I → IntakeStep → I → Type 0) (a b : I) (old new : ℕ → Option ℕ) (d e : Folder) (done : List (List ℕ)) (end : PickupEnd) : Type 0 where
  pub works : List Work
  pub are : done ≡ named works
  pub did : Did gives a b old new d e works
  pub tally : Tallies works end

pub SoFar-start : {I : Type 0} (gives : I → IntakeStep → I → Type 0) (a : I) (clock : ℕ → Option ℕ) (d : Folder) (end : PickupEnd) → end.accepted ≡ 0 → end.bad ≡ 0 → SoFar gives a a clock clock d d [] end
SoFar-start gives a clock d end none good = record { works = []; are = refl; did = Did-none gives a clock d; tally = record { accepted = none; bad = good } }

count-push : (p : Work → Bool) (ws : List Work) (w : Work) (k : ℕ) → cond (p w) 1 0 ≡ k → count_by p (ws ++ w ∷ []) ≡ count_by p ws + k
count-push p ws w k e =
    let both : count_by p (ws ++ w ∷ []) ≡ count_by p ws + count_by p (w ∷ []) = sum_by-append (λ (x : Work). cond (p x) 1 0) ws (w ∷ []) in
    let one : count_by p (w ∷ []) ≡ cond (p w) 1 0 + count_by p [] = sum_by-cons (λ (x : Work). cond (p x) 1 0) w [] in
    let none : count_by p [] ≡ 0 = refl in
    omega arith

pub accepted-le : {I : Type 0} (gives : I → IntakeStep → I → Type 0) (a b : I) (old new : ℕ → Option ℕ) (d e : Folder) (done : List (List ℕ)) (end : PickupEnd) → SoFar gives a b old new d e done end → end.accepted ≤ length done
accepted-le gives a b old new d e done end s =
    let size : length done ≡ length s.works = ap length s.are ∙ length-map s.works (λ (w : Work). w.name) in
    let few = count_by-le-length (λ (w : Work). is_new_one (fate w)) s.works in
    let same = s.tally.accepted in omega arith

pub bad-le : {I : Type 0} (gives : I → IntakeStep → I → Type 0) (a b : I) (old new : ℕ → Option ℕ) (d e : Folder) (done : List (List ℕ)) (end : PickupEnd) → SoFar gives a b old new d e done end → end.bad ≤ length done
bad-le gives a b old new d e done end s =
    let size : length done ≡ length s.works = ap length s.are ∙ length-map s.works (λ (w : Work). w.name) in
    let few = count_by-le-length (λ (w : Work). is_bad_one (fate w)) s.works in
    let same = s.tally.bad in omega arith

Tallies-push : (ws : List Work) (w : Work) (end : PickupEnd) (what : Fate) → what ≡ fate w → Tallies ws end → Tallies (ws ++ w ∷ []) (counted end what)
Tallies-push ws w end fates.Bad is t =
    let news = count-push (λ (x : Work). is_new_one (fate x)) ws w 0 (ap (λ (f : Fate). cond (is_new_one f) 1 0) (sym is)) in
    let bads = count-push (λ (x : Work). is_bad_one (fate x)) ws w 1 (ap (λ (f : Fate). cond (is_bad_one f) 1 0) (sym is)) in
    let before_new : end.accepted ≡ count_by (λ (x : Work). is_new_one (fate x)) ws = t.accepted in
    let before_bad : end.bad ≡ count_by (λ (x : Work). is_bad_one (fate x)) ws = t.bad in
    let accepted : end.accepted ≡ count_by (λ (x : Work). is_new_one (fate x)) (ws ++ w ∷ []) = omega arith in
    let bad : end.bad + 1 ≡ count_by (λ (x : Work). is_bad_one (fate x)) (ws ++ w ∷ []) = omega arith in
    record { accepted = accepted; bad = bad }
Tallies-push ws w end fates.New is t =
    let news = count-push (λ (x : Work). is_new_one (fate x)) ws w 1 (ap (λ (f : Fate). cond (is_new_one f) 1 0) (sym is)) in
    let bads = count-push (λ (x : Work). is_bad_one (fate x)) ws w 0 (ap (λ (f : Fate). cond (is_bad_one f) 1 0) (sym is)) in
    let before_new : end.accepted ≡ count_by (λ (x : Work). is_new_one (fate x)) ws = t.accepted in
    let before_bad : end.bad ≡ count_by (λ (x : Work). is_bad_one (fate x)) ws = t.bad in
    let accepted : end.accepted + 1 ≡ count_by (λ (x : Work). is_new_one (fate x)) (ws ++ w ∷ []) = omega arith in
    let bad : end.bad ≡ count_by (λ (x : Work). is_bad_one (fate x)) (ws ++ w ∷ []) = omega arith in
    record { accepted = accepted; bad = bad }
Tallies-push ws w end fates.Repeat is t =
    let news = count-push (λ (x : Work). is_new_one (fate x)) ws w 0 (ap (λ (f : Fate). cond (is_new_one f) 1 0) (sym is)) in
    let bads = count-push (λ (x : Work). is_bad_one (fate x)) ws w 0 (ap (λ (f : Fate). cond (is_bad_one f) 1 0) (sym is)) in
    let before_new : end.accepted ≡ count_by (λ (x : Work). is_new_one (fate x)) ws = t.accepted in
    let before_bad : end.bad ≡ count_by (λ (x : Work). is_bad_one (fate x)) ws = t.bad in
    let accepted : end.accepted ≡ count_by (λ (x : Work). is_new_one (fate x)) (ws ++ w ∷ []) = omega arith in
    let bad : end.bad ≡ count_by (λ (x : Work). is_bad_one (fate x)) (ws ++ w ∷ []) = omega arith in
    record { accepted = accepted; bad = bad }

pub counted-full : (end : PickupEnd) (what : Fate) → (counted end what).full ≡ end.full
counted-full end fates.Bad = refl
counted-full end fates.New = refl
counted-full end fates.Repeat = refl

-- the order, split at this place
pub split_at : (order : List (List ℕ)) (i : ℕ) (d : List ℕ) → i < length order → order ≡ take i order ++ get_or order i d ∷ drop (suc i) order
split_at order i d lt = sym (take-append-drop i order) ∙ ap (λ rest. take i order ++ rest) (drop-cons order i d lt)

pub SoFar-push : {I : Type 0} (gives : I → IntakeStep → I → Type 0) (a b c : I) (old mid new : ℕ → Option ℕ) (d e h : Folder) (order : List (List ℕ)) (i : ℕ) (end : PickupEnd) (name : List ℕ) (what : Fate) →
    InOrder d order → (IsTrue d.told → HasNoNameTwice d.files) → i < length order → name ≡ get_or order i name →
    SoFar gives a b old mid d e (take i order) end → Took gives b c mid new e h name (Ok what) → SoFar gives a c old new d h (take (i + 1) order) (counted end what)
SoFar-push gives a b c old mid new d e h order i end name what o distinct lt named_so s t =
    let whole : order ≡ named s.works ++ name ∷ drop (suc i) order = split_at order i name lt ∙ ap (λ ns. ns ++ get_or order i name ∷ drop (suc i) order) s.are ∙ ap (λ n. named s.works ++ n ∷ drop (suc i) order) (sym named_so) in record {
      works = s.works ++ t.0 ∷ [];
      are = take_more order i name lt ∙ ap (λ ns. ns ++ get_or order i name ∷ []) s.are ∙ ap (λ n. named s.works ++ n ∷ []) (sym named_so ∙ sym t.1) ∙ sym (map-append (λ (w : Work). w.name) s.works (t.0 ∷ []));
      did = Did-push gives a b c old mid new d e h s.works t.0 s.did t.3
          (λ told. subst (λ n. bytes_in e.files n ≡ bytes_in d.files n) (sym t.1) (same_left gives a b old mid d e order s.works name (drop (suc i) order) o distinct s.did whole told));
      tally = Tallies-push s.works t.0 end what t.2 s.tally;
    }

pub has_next : {I : Type 0} (gives : I → IntakeStep → I → Type 0) (a b : I) (old new : ℕ → Option ℕ) (d e : Folder) (order : List (List ℕ)) (i : ℕ) (end : PickupEnd) (name : List ℕ) →
    InOrder d order → (IsTrue d.told → HasNoNameTwice d.files) → i < length order → name ≡ get_or order i name → SoFar gives a b old new d e (take i order) end → Has name e
has_next gives a b old new d e order i end name o distinct lt named_so s =
    has_left gives a b old new d e order s.works name (drop (suc i) order) o distinct s.did
    (split_at order i name lt ∙ ap (λ ns. ns ++ get_or order i name ∷ drop (suc i) order) s.are ∙ ap (λ n. named s.works ++ n ∷ drop (suc i) order) (sym named_so))

pub SoFar-ends : {I : Type 0} (gives : I → IntakeStep → I → Type 0) (a b c : I) (old mid new : ℕ → Option ℕ) (d e h : Folder) (order : List (List ℕ)) (i : ℕ) (end : PickupEnd) (name : List ℕ) (halt : Halt) →
    i < length order → name ≡ get_or order i name → (s : SoFar gives a b old mid d e (take i order) end) → Took gives b c mid new e h name (Err halt) → (x : Ends gives a c old new d h order halt) × (x.works ≡ s.works)
SoFar-ends gives a b c old mid new d e h order i end name halt lt named_so s t = (
  record {
    works = s.works;
    name = name;
    rest = drop (suc i) order;
    is_order = split_at order i name lt ∙ ap (λ ns. ns ++ get_or order i name ∷ drop (suc i) order) s.are ∙ ap (λ n. named s.works ++ n ∷ drop (suc i) order) (sym named_so);
    between = b;
    then = mid;
    mid = e;
    did = s.did;
    stops = t;
  },
  refl,
)

pub well_full : {I : Type 0} (gives : I → IntakeStep → I → Type 0) (a b c : I) (old mid new : ℕ → Option ℕ) (d e h : Folder) (order : List (List ℕ)) (i : ℕ) (end : PickupEnd) (name : List ℕ) →
    i < length order → name ≡ get_or order i name → (s : SoFar gives a b old mid d e (take i order) end) → Took gives b c mid new e h name (Err halts.Full) →
    (x : Ends gives a c old new d h order halts.Full) × Tallies x.works (record end { full = true })
well_full gives a b c old mid new d e h order i end name lt named_so s t =
    let x = SoFar-ends gives a b c old mid new d e h order i end name halts.Full lt named_so s t in
    (x.0, subst (λ (ws : List Work). Tallies ws (record end { full = true })) (sym x.1) (record { accepted = s.tally.accepted; bad = s.tally.bad }))

pub SoFar-finishes : {I : Type 0} (gives : I → IntakeStep → I → Type 0) (a b : I) (old new : ℕ → Option ℕ) (d e : Folder) (order : List (List ℕ)) (i : ℕ) (end : PickupEnd) →
    i ≡ length order → end.full ≡ false → SoFar gives a b old new d e (take i order) end → Goes gives a b old new d e order (Ok end)
SoFar-finishes gives a b old new d e order i end all full s =
    subst (λ (t : Bool). EndsWell gives a b old new d e order end t) (sym full)
    (record { works = s.works; is_order = sym (ap (λ n. take n order) all ∙ take_all (length order) order (omega arith)) ∙ s.are; did = s.did; tally = s.tally })

-- The files are those that were listed.
Did-from : {I : Type 0} (gives : I → IntakeStep → I → Type 0) (a b : I) (old new : ℕ → Option ℕ) (d e h : Folder) (ws : List Work) → Tells Stays d e → Did gives a b old new e h ws → Did gives a b old new d h ws
Did-from gives a b old new d e h ws stays did = record {
  steps = did.steps;
  clock = did.clock;
  bytes = λ t. subst (λ (files : List File). HaveBytes files ws) (stays.files t) (did.bytes (subst IsTrue (sym stays.told) t));
  folder = Becomes-stays (behind_all ws) d e h stays did.folder;
}

pub Goes-from : {I : Type 0} (gives : I → IntakeStep → I → Type 0) (a b : I) (old new : ℕ → Option ℕ) (d e h : Folder) (order : List (List ℕ)) (result : Result PickupEnd PickupFault) → Tells Stays d e →
    Goes gives a b old new e h order result → Goes gives a b old new d h order result
Goes-from gives a b old new d e h order (Ok end) stays goes = by end.full goes
  where
    by : (t : Bool) → EndsWell gives a b old new e h order end t → EndsWell gives a b old new d h order end t
    by false f = record { works = f.works; is_order = f.is_order; did = Did-from gives a b old new d e h f.works stays f.did; tally = f.tally }
    by true s = (
      record {
        works = s.0.works;
        name = s.0.name;
        rest = s.0.rest;
        is_order = s.0.is_order;
        between = s.0.between;
        then = s.0.then;
        mid = s.0.mid;
        did = Did-from gives a s.0.between old s.0.then d e s.0.mid s.0.works stays s.0.did;
        stops = s.0.stops;
      },
      s.1,
    )
Goes-from gives a b old new d e h order (Err fault) stays s = record {
  works = s.works;
  name = s.name;
  rest = s.rest;
  is_order = s.is_order;
  between = s.between;
  then = s.then;
  mid = s.mid;
  did = Did-from gives a s.between old s.then d e s.mid s.works stays s.did;
  stops = s.stops;
}

pub InOrder-listed : (d e : Folder) (names order : List (List ℕ)) → Tells Stays d e → (IsTrue d.told → IsPermutation (names_of d.files) names) → IsAscending names → order ≡ order_of names → InOrder d order × InOrder e order
InOrder-listed d e names order stays all ascending is = (
  record { names = names; all = all; ascending = ascending; is = is },
  record {
    names = names;
    all = λ t. (let told : IsTrue d.told = subst IsTrue stays.told t in subst (λ (files : List File). IsPermutation (names_of files) names) (sym (stays.files told)) (all told));
    ascending = ascending;
    is = is;
  },
)

pub ends : {I : Type 0} (gives : I → IntakeStep → I → Type 0) (a b c : I) (old mid new : ℕ → Option ℕ) (d e h : Folder) (order : List (List ℕ)) (i : ℕ) (end : PickupEnd) (name : List ℕ) (halt : Halt) (result : Result PickupEnd PickupFault) →
    i < length order → name ≡ get_or order i name → SoFar gives a b old mid d e (take i order) end → Took gives b c mid new e h name (Err halt) → result ≡ ended end halt →
    Goes gives a c old new d h order result
ends gives a b c old mid new d e h order i end name halt result lt named_so s t is = subst (λ (r : Result PickupEnd PickupFault). Goes gives a c old new d h order r) (sym is) (by halt t)
  where
    by : (halt : Halt) → Took gives b c mid new e h name (Err halt) → Goes gives a c old new d h order (ended end halt)
    by halts.Full t = well_full gives a b c old mid new d e h order i end name lt named_so s t
    by (halts.Fault fault) t = (SoFar-ends gives a b c old mid new d e h order i end name (halts.Fault fault) lt named_so s t).0
