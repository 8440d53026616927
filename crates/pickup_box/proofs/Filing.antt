-- Files that are taken away and added.
use Rattle.std.proofs.Common.{◌≡◌, ℕ, suc, ◌+◌, ◌<◌, Bool, true, false, cond, List, [], ◌∷◌, ◌++◌, length, drop, drop-cons, arith, get_or, refl, ap, ◌∙◌, sym, subst}
use Rattle.std.specs.Prelude.{not, bytes_eq, filter, is_some, Option, Some, None}
use Rattle.std.specs.List.{AllByRecursion}
use Rattle.std.proofs.lemmas.Slice.Eq.{bytes_eq-Decides}
use Rattle.std.proofs.lemmas.List.Elements.{filter_passes, All-from_recursion}
use Rattle.std.proofs.lemmas.List.Kept.{AllPairs-cons, AllPairs-filter}
use Rattle.std.proofs.lemmas.List.Quantifiers.{all_pairs_push}
use Rattle.pickup_box.specs.Folder.{File, bytes_in, without, HasNoNameTwice, Removes, Renames}

same_bytes : (a b : List ℕ) → bytes_eq a b ≡ true → a ≡ b
same_bytes a b h = (bytes_eq-Decides a b).0 h

abbrev nothing : Option (List ℕ)
nothing = None

-- files whose names pass a test
bytes_in-filter : (k : List ℕ → Bool) (files : List File) (n : List ℕ) → bytes_in (filter (λ (f : File). k f.0) files) n ≡ cond (k n) (bytes_in files n) None
bytes_in-filter k [] n = none (k n)
  where
    none : (t : Bool) → nothing ≡ cond t nothing nothing
    none true = refl
    none false = refl
bytes_in-filter k (file ∷ files) n = by_same (bytes_eq n file.0) refl (bytes_in-filter k files n)
  where
    kept : (t : Bool) → bytes_in (cond t (file ∷ filter (λ (f : File). k f.0) files) (filter (λ (f : File). k f.0) files)) n ≡ cond t (cond (bytes_eq n file.0) (Some file.1) (bytes_in (filter (λ (f : File). k f.0) files) n)) (bytes_in (filter (λ (f : File). k f.0) files) n)
    kept true = refl
    kept false = refl

    here : (t : Bool) → cond t (Some file.1) (cond t (bytes_in files n) None) ≡ cond t (Some file.1) None
    here true = refl
    here false = refl

    other : (t : Bool) (o : Option (List ℕ)) → cond t o o ≡ o
    other true o = refl
    other false o = refl

    by_same : (t : Bool) → bytes_eq n file.0 ≡ t → bytes_in (filter (λ (f : File). k f.0) files) n ≡ cond (k n) (bytes_in files n) None → bytes_in (filter (λ (f : File). k f.0) (file ∷ files)) n ≡ cond (k n) (cond (bytes_eq n file.0) (Some file.1) (bytes_in files n)) None
    by_same true e more =
        let same : k file.0 ≡ k n = ap k (sym (same_bytes n file.0 e)) in
        kept (k file.0)
        ∙ ap (λ t. cond t (cond (bytes_eq n file.0) (Some file.1) (bytes_in (filter (λ (f : File). k f.0) files) n)) (bytes_in (filter (λ (f : File). k f.0) files) n)) same
        ∙ ap (λ t. cond (k n) (cond t (Some file.1) (bytes_in (filter (λ (f : File). k f.0) files) n)) (bytes_in (filter (λ (f : File). k f.0) files) n)) e
        ∙ ap (λ o. cond (k n) (Some file.1) o) more
        ∙ here (k n)
        ∙ ap (λ t. cond (k n) (cond t (Some file.1) (bytes_in files n)) None) (sym e)
    by_same false e more =
        kept (k file.0)
        ∙ ap (λ t. cond (k file.0) (cond t (Some file.1) (bytes_in (filter (λ (f : File). k f.0) files) n)) (bytes_in (filter (λ (f : File). k f.0) files) n)) e
        ∙ other (k file.0) (bytes_in (filter (λ (f : File). k f.0) files) n)
        ∙ more
        ∙ ap (λ t. cond (k n) (cond t (Some file.1) (bytes_in files n)) None) (sym e)

flip : (t : Bool) (o : Option (List ℕ)) → cond (not t) o None ≡ cond t None o
flip true o = refl
flip false o = refl

pub removes-without : (name : List ℕ) (files : List File) → Removes name files (without name files)
removes-without name files n = bytes_in-filter (λ m. not (bytes_eq m name)) files n ∙ flip (bytes_eq n name) (bytes_in files n)

pub distinct-without : (name : List ℕ) (files : List File) → HasNoNameTwice files → HasNoNameTwice (without name files)
distinct-without name files h = AllPairs-filter (λ (a b : File). a.0 ≡ b.0 → ⊥) (λ (f : File). not (bytes_eq f.0 name)) files h

abbrev or_else : Option (List ℕ) → Option (List ℕ) → Option (List ℕ)
or_else None o = o
or_else (Some x) o = Some x

bytes_in-append : (xs ys : List File) (n : List ℕ) → bytes_in (xs ++ ys) n ≡ or_else (bytes_in xs n) (bytes_in ys n)
bytes_in-append [] ys n = refl
bytes_in-append (file ∷ xs) ys n = ap (λ o. cond (bytes_eq n file.0) (Some file.1) o) (bytes_in-append xs ys n) ∙ first (bytes_eq n file.0)
  where
    first : (t : Bool) → cond t (Some file.1) (or_else (bytes_in xs n) (bytes_in ys n)) ≡ or_else (cond t (Some file.1) (bytes_in xs n)) (bytes_in ys n)
    first true = refl
    first false = refl

-- the files behind a renaming
abbrev renamed : List ℕ → List ℕ → List ℕ → List File → List File
renamed name to bytes files = without to (without name files) ++ (to, bytes) ∷ []

pub made_so : (name to bytes : List ℕ) (files roomy less fewer after : List File) (label : List ℕ) → roomy ≡ files → less ≡ without name roomy → fewer ≡ without to less → label ≡ to → after ≡ fewer ++ (label, bytes) ∷ [] → after ≡ renamed name to bytes files
made_so name to bytes files roomy less fewer after label room first second same last =
    last
    ∙ ap (λ (l : List ℕ). fewer ++ (l, bytes) ∷ []) same
    ∙ ap (λ (fs : List File). fs ++ (to, bytes) ∷ []) (second ∙ ap (without to) (first ∙ ap (without name) room))

pub renames : (name to bytes : List ℕ) (files after : List File) → after ≡ renamed name to bytes files → bytes_in files name ≡ Some bytes → Renames name to files after
renames name to bytes files after is e n =
    ap (λ fs. bytes_in fs n) is
    ∙ bytes_in-append (without to (without name files)) ((to, bytes) ∷ []) n
    ∙ ap (λ o. or_else o (cond (bytes_eq n to) (Some bytes) None)) (removes-without to (without name files) n ∙ ap (cond (bytes_eq n to) None) (removes-without name files n))
    ∙ by_to (bytes_eq n to) (cond (bytes_eq n name) None (bytes_in files n))
  where
    or_none : (o : Option (List ℕ)) → or_else o None ≡ o
    or_none None = refl
    or_none (Some x) = refl

    by_to : (t : Bool) (o : Option (List ℕ)) → or_else (cond t None o) (cond t (Some bytes) None) ≡ cond t (bytes_in files name) o
    by_to true o = sym e
    by_to false o = or_none o

pub distinct_renamed : (name to bytes : List ℕ) (files after : List File) → after ≡ renamed name to bytes files → HasNoNameTwice files → HasNoNameTwice after
distinct_renamed name to bytes files after is h =
    let left = without to (without name files) in
    subst HasNoNameTwice (sym is)
    (all_pairs_push (λ (a b : File). a.0 ≡ b.0 → ⊥) left (to, bytes) (distinct-without to (without name files) (distinct-without name files h))
    (λ k d lt e. other (get_or left k d).0 (filter_passes (λ (f : File). not (bytes_eq f.0 to)) (without name files) k d lt) e))
  where
    other : (m : List ℕ) → not (bytes_eq m to) ≡ true → m ≡ to → ⊥
    other m kept e = (let same : bytes_eq m to ≡ true = (bytes_eq-Decides m to).1 e in let no : not (bytes_eq m to) ≡ false = ap not same in cc)

misses_all : (n : List ℕ) (files : List File) → bytes_in files n ≡ None → AllByRecursion (λ (f : File). n ≡ f.0 → ⊥) files
misses_all n [] h = tt
misses_all n (file ∷ files) h = by (bytes_eq n file.0) refl h (misses_all n files)
  where
    other : bytes_eq n file.0 ≡ false → n ≡ file.0 → ⊥
    other e same = (let is : bytes_eq n file.0 ≡ true = (bytes_eq-Decides n file.0).1 same in let no_way : true ≡ false = sym is ∙ e in absurd cc)

    by : (t : Bool) → bytes_eq n file.0 ≡ t → cond t (Some file.1) (bytes_in files n) ≡ None → (bytes_in files n ≡ None → AllByRecursion (λ (f : File). n ≡ f.0 → ⊥) files) →
        AllByRecursion (λ (f : File). n ≡ f.0 → ⊥) (file ∷ files)
    by true e none more = absurd cc
    by false e none more = (other e, more none)

pub distinct_more : (file : File) (files : List File) → bytes_in files file.0 ≡ None → HasNoNameTwice files → HasNoNameTwice (file ∷ files)
distinct_more file files none h =
    AllPairs-cons (λ (a b : File). a.0 ≡ b.0 → ⊥) file files (All-from_recursion (λ (f : File). file.0 ≡ f.0 → ⊥) files (misses_all file.0 files none)) h

-- one file more, which has a name of its own
pub own_more : (files rest : List File) (i : ℕ) (file : File) (name : List ℕ) → i < length files → file ≡ get_or files i file → rest ≡ drop (i + 1) files → name ≡ file.0 → is_some (bytes_in rest name) ≡ false →
    HasNoNameTwice (drop (i + 1) files) → HasNoNameTwice (drop i files)
own_more files rest i file name lt here behind named none h =
    let split : drop i files ≡ file ∷ drop (i + 1) files = drop-cons files i file lt ∙ ap (λ (f : File). f ∷ drop (suc i) files) (sym here) ∙ ap (λ k. file ∷ drop k files) next in
    let alone : bytes_in (drop (i + 1) files) file.0 ≡ None = is_none (bytes_in (drop (i + 1) files) file.0) (ap (λ fs. is_some (bytes_in fs file.0)) (sym behind) ∙ ap (λ n. is_some (bytes_in rest n)) (sym named) ∙ none) in
    subst HasNoNameTwice (sym split) (distinct_more file (drop (i + 1) files) alone h)
  where
    next : suc i ≡ i + 1
    next = omega arith

    is_none : (o : Option (List ℕ)) → is_some o ≡ false → o ≡ None
    is_none None e = refl
    is_none (Some x) e = absurd cc
