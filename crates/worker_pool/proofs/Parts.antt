-- Parts of a list.
use Rattle.std.proofs.Common.{◌≡◌, ℕ, suc, ◌<◌, List, [], ◌∷◌, ◌++◌, length, get_or, map, Vec, Result, Ok, Err, IfOk, ap, ap₂, sym, ◌∙◌, refl, subst, append-nil, arith}
use Rattle.std.proofs.lemmas.List.{map-append, length-map}
use Rattle.std.proofs.lemmas.Grind.{flat_map-append}
use Rattle.std.proofs.Math.ListN.{get_or-map}
use Rattle.std.specs.List.{flat_map}
use Rattle.std.specs.declared.alloc.Global.{Global}
use Rattle.mail_names.specs.declared.bytes.NoMemory.{NoMemory}
use Rattle.worker_pool.specs.Planned.{items_in, AreParts}

-- one part more stands behind them
pub one_more : {X : Type 0} (parts : List (Result (Vec X Global) NoMemory)) (whole : List X) (last : Vec X Global)
    → AreParts parts whole → AreParts (parts ++ Ok last ∷ []) (whole ++ last.items)
one_more {X} parts whole last h = (
  h.0 ++ last ∷ [],
  rw (h.1, map-append) refl,
  rw h.2 (sym (flat_map-append (items_in {X = X}) h.0 (last ∷ []) ∙ ap (λ l. flat_map (items_in {X = X}) h.0 ++ l) (append-nil last.items))),
)

-- where each list is made of its share, they are together made of the shares together
together : {X Y : Type 0} (f : X → Y) (shares : List (Vec X Global)) (lists : List (Vec Y Global)) → length lists ≡ length shares
    → ((i : ℕ) (share : Vec X Global) (list : Vec Y Global) → i < length shares → (get_or lists i list).items ≡ map f (get_or shares i share).items)
    → flat_map items_in lists ≡ map f (flat_map items_in shares)
together f [] [] same each = refl
together f [] (l ∷ ls) same each = absurd (omega arith)
together f (s ∷ ss) [] same each = absurd (omega arith)
together {X} f (s ∷ ss) (l ∷ ls) same each =
    let first : l.items ≡ map f s.items = each 0 s l (omega arith) in
    let others = together f ss ls (omega arith) (λ i share list within. each (suc i) share list (omega arith)) in
    ap₂ ◌++◌ first others ∙ sym (map-append f s.items (flat_map (items_in {X = X}) ss))

-- a part that was made is made of the share at this place
abbrev pub IsMade : {X Y : Type 0} → (X → Y) → Vec X Global → Result (Vec Y Global) NoMemory → Type 0
IsMade f share part = IfOk part (λ list. list.items ≡ map f share.items)

-- then the whole is made of the shares together
pub whole_of : {X Y : Type 0} (f : X → Y) (shares : List (Vec X Global)) (parts : List (Result (Vec Y Global) NoMemory)) (whole : List Y)
    → length parts ≡ length shares
    → ((i : ℕ) (share : Vec X Global) (part : Result (Vec Y Global) NoMemory) → i < length shares → (job : Vec X Global) × (get_or shares i share ≡ job) × IsMade f job (get_or parts i part))
    → AreParts parts whole → whole ≡ map f (flat_map items_in shares)
whole_of {X} {Y} f shares parts whole same each h =
    let ok : Vec Y Global → Result (Vec Y Global) NoMemory = λ list. Ok list in
    let count : length h.0 ≡ length shares = sym (length-map h.0 ok) ∙ (ap length (sym h.1) ∙ same) in
    h.2 ∙ together f shares h.0 count (λ i share list within.
    let job = each i share (Ok list) within in
    let made = subst (λ (ps : List (Result (Vec Y Global) NoMemory)). IsMade f job.0 (get_or ps i (Ok list))) h.1 job.2 in
    let here : (get_or h.0 i list).items ≡ map f (job.0).items = subst (IsMade f job.0) (get_or-map ok h.0 i list) made in
    here ∙ ap (λ (v : Vec X Global). map f v.items) (sym job.1))

pub if_ok : {A E : Type 0} (P Q : A → Type 0) (answer : Result A E) → ((x : A) → P x → Q x) → IfOk answer P → IfOk answer Q
if_ok P Q (Ok x) goes h = goes x h
if_ok P Q (Err e) goes h = h
