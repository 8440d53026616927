-- Look-ups in a list that another list is mapped to.
use Rattle.std.specs.Prelude.{◌≡◌, ◌+◌, ℕ, Bool, false, if◌then◌else◌, not, cond, nat_lt, List, [], ◌∷◌, ◌++◌, ◌||◌, length, map, position, Some, None, refl}
use Rattle.std.proofs.Common.{sym, ◌∙◌, ap}
use Rattle.std.specs.List.{list_any, prefix_len, position_or_len}
use Rattle.std.proofs.lemmas.List.{length-map, map-append}
use Rattle.std.specs.Str.{bytes_eq}
use Rattle.indexmap.specs.IndexSet.{insert_key}
use Rattle.org_directory.specs.Register.{Register, place_of}
use Rattle.org_directory.specs.declared.object.Object.{Object}

pub list_any-map : {X Y : Type 0} (p : Y → Bool) (f : X → Y) (xs : List X) → list_any p (map f xs) ≡ list_any (λ x. p (f x)) xs
list_any-map p f [] = refl
list_any-map p f (x ∷ xs) = ap (λ b. p (f x) || b) (list_any-map p f xs)

prefix_len-map : {X Y : Type 0} (p : Y → Bool) (f : X → Y) (xs : List X) → prefix_len p (map f xs) ≡ prefix_len (λ x. p (f x)) xs
prefix_len-map p f [] = refl
prefix_len-map p f (x ∷ xs) = ap (λ n. cond (p (f x)) (1 + n) 0) (prefix_len-map p f xs)

pub position-map : {X Y : Type 0} (p : Y → Bool) (f : X → Y) (xs : List X) → position p (map f xs) ≡ position (λ x. p (f x)) xs
position-map p f xs =
    let first : position_or_len p (map f xs) ≡ position_or_len (λ x. p (f x)) xs = prefix_len-map (λ y. not (p y)) f xs in
    let size : length (map f xs) ≡ length xs = length-map xs f in
    ap (λ n. cond (nat_lt (position_or_len p (map f xs)) n) (Some (position_or_len p (map f xs))) None) size
    ∙ ap (λ n. cond (nat_lt n (length xs)) (Some n) None) first

-- An inserted name that wasn't there stands last.
pub map-insert_key : {V : Type 0} (f : V → List ℕ) (keys new : List V) (v : V) (name : List ℕ)
    → f v ≡ name → list_any (bytes_eq name) (map f keys) ≡ false → new ≡ insert_key (λ a b. bytes_eq (f a) (f b)) keys v
    → map f new ≡ map f keys ++ name ∷ []
map-insert_key f keys new v name is absent e =
    let off : list_any (λ b. bytes_eq (f v) (f b)) keys ≡ false
    = sym (list_any-map (bytes_eq (f v)) f keys) ∙ (ap (λ n. list_any (bytes_eq n) (map f keys)) is ∙ absent) in
    ap (map f) (e ∙ ap (λ b. if b then keys else keys ++ v ∷ []) off) ∙ (map-append f keys (v ∷ []) ∙ ap (λ n. map f keys ++ n ∷ []) is)

-- The place among the keys is the object's.
pub place-found : (reg : Register) (objects : List Object) (keys : List (List ℕ)) (k key : List ℕ)
    → objects ≡ reg.objects → keys ≡ map (λ o. o.key) objects → k ≡ key → position (bytes_eq k) keys ≡ place_of reg key
place-found reg objects keys k key o e s =
    ap (λ x. position (bytes_eq x) keys) s
    ∙ (ap (position (bytes_eq key)) e
    ∙ (position-map (bytes_eq key) (λ o. o.key) objects ∙ ap (position (λ o. bytes_eq key o.key)) o))
