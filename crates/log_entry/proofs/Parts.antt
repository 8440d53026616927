-- A reader of several parts.
use Rattle.std.proofs.Common.{◌≡◌, ℕ, ◌+◌, ◌<◌, List, [], ◌∷◌, length, Result, Ok, Err, refl, sym, ◌∙◌, subst, arith}
use Rattle.std.specs.Prelude.{IsErrAnd, IsErrOf}
use Rattle.std.specs.List.{flat_map, AllByRecursion}
use Rattle.mail_names.specs.Key.{IsKey}
use Rattle.log_entry.specs.EntryText.{form_bytes}
use Rattle.mail_submission.specs.Fits.{IsBytes}
use Rattle.log_entry.specs.Reading.{Stands, Reads, Expects, OneForm}
use Rattle.log_entry.specs.declared.places.Miss.{Miss}
use Rattle.log_entry.specs.declared.places.Miss.TheVariants as misses
use Rattle.log_entry.proofs.Standing.{There, front, back, first, same_last, behind}
use Rattle.log_entry.proofs.Forms.{one_bytes, key_short}

-- where the whole stands, a part of it does
abbrev pub HasPart : {A X : Type 0} → (A → Type 0) → (A → List ℕ) → (X → Type 0) → (X → List ℕ) → List ℕ → ℕ → ℕ → Type 0
HasPart {A = A} {X = X} IsPart part Is form bytes at place =
    (x : X) (end : ℕ) → Is x → Stands (form x) bytes at end → (a : A) × IsPart a × There (part a) bytes place

missed : {A X : Type 0} (IsPart : A → Type 0) (part : A → List ℕ) (Is : X → Type 0) (form : X → List ℕ) (bytes : List ℕ) (at place : ℕ) (e : Miss)
    → HasPart IsPart part Is form bytes at place → Reads {X = A} IsPart part bytes place (Err e) → Reads {X = X} Is form bytes at (Err e)
missed IsPart part Is form bytes at place misses.NoForm has none = λ x end is stands. let found = has x end is stands in none found.0 found.2.end found.1 found.2.stands
missed IsPart part Is form bytes at place misses.NoMemory has none = tt

-- a whole isn't read where a part isn't
pub passed_on : {A X : Type 0} (IsPart : A → Type 0) (part : A → List ℕ) (Is : X → Type 0) (form : X → List ℕ) (bytes : List ℕ) (at place : ℕ) (e : Miss) (result : Result (X × ℕ) Miss)
    → IsErrAnd result (λ f. f ≡ e) → HasPart IsPart part Is form bytes at place → Reads {X = A} IsPart part bytes place (Err e) → Reads Is form bytes at result
passed_on IsPart part Is form bytes at place e (Ok x) same has none = absurd same
passed_on {X = X} IsPart part Is form bytes at place e (Err f) same has none =
    subst (λ (g : Miss). Reads {X = X} Is form bytes at (Err g)) (sym same) (missed IsPart part Is form bytes at place e has none)

text_missed : {X : Type 0} (text : List ℕ) (Is : X → Type 0) (form : X → List ℕ) (bytes : List ℕ) (at place : ℕ) (e : Miss)
    → ((x : X) (end : ℕ) → Is x → Stands (form x) bytes at end → There text bytes place) → Expects text bytes place (Err e) → Reads {X = X} Is form bytes at (Err e)
text_missed text Is form bytes at place misses.NoForm has none = λ x end is stands. let found = has x end is stands in none found.end found.stands
text_missed text Is form bytes at place misses.NoMemory has none = tt

pub text_passed_on : {X : Type 0} (text : List ℕ) (Is : X → Type 0) (form : X → List ℕ) (bytes : List ℕ) (at place : ℕ) (e : Miss) (result : Result (X × ℕ) Miss)
    → IsErrAnd result (λ f. f ≡ e) → ((x : X) (end : ℕ) → Is x → Stands (form x) bytes at end → There text bytes place) → Expects text bytes place (Err e) → Reads Is form bytes at result
text_passed_on text Is form bytes at place e (Ok x) same has none = absurd same
text_passed_on {X = X} text Is form bytes at place e (Err f) same has none =
    subst (λ (g : Miss). Reads {X = X} Is form bytes at (Err g)) (sym same) (text_missed text Is form bytes at place e has none)

-- where the parts make no whole, no whole stands
pub refused : {X : Type 0} (Is : X → Type 0) (form : X → List ℕ) (bytes : List ℕ) (at : ℕ) (e : Miss) (result : Result (X × ℕ) Miss) → IsErrAnd result (λ f. f ≡ e)
    → (e ≡ misses.NoForm → (x : X) (end : ℕ) → Is x → Stands (form x) bytes at end → ⊥) → Reads Is form bytes at result
refused Is form bytes at e (Ok x) same none = absurd same
refused Is form bytes at e (Err misses.NoForm) same none = none (sym same)
refused Is form bytes at e (Err misses.NoMemory) same none = tt

abbrev pub IsByte : ℕ → Type 0
IsByte b = b < 256

abbrev pub form_byte : ℕ → List ℕ
form_byte b = b ∷ []

-- where the bytes behind a count are no key, no key stands
pub no_key : (bytes text : List ℕ) (at end : ℕ) (e : Miss) (result : Result (List ℕ × ℕ) Miss) → IsErrAnd result (λ f. f ≡ e)
    → IsBytes text × Stands (form_bytes text) bytes at end → (e ≡ misses.NoForm → IsKey text → ⊥) → Reads IsKey form_bytes bytes at result
no_key bytes text at end e (Ok x) same got none = absurd same
no_key bytes text at end e (Err misses.NoForm) same got none = λ key other is stands.
    let k : key ≡ text = same_last IsBytes form_bytes one_bytes text key bytes at end other got (key_short key is) stands in
    none (sym same) (subst (λ (t : List ℕ). IsKey t) k is)
no_key bytes text at end e (Err misses.NoMemory) same got none = tt

-- the next value of a row, behind those that were read
module _ {A : Type 0} (Is : A → Type 0) (form : A → List ℕ) (one : OneForm Is form) where
  pub next : (got all : List A) (bytes : List ℕ) (start at end : ℕ) → length got < length all → AllByRecursion Is got → AllByRecursion Is all
      → Stands (flat_map form got) bytes start at → Stands (flat_map form all) bytes start end → (a : A) × Is a × There (form a) bytes at
  next [] [] bytes start at end less here there g s = absurd (omega (arith, less))
  next (a ∷ got) [] bytes start at end less here there g s = absurd (omega (arith, less))
  next [] (b ∷ all) bytes start at end less here there g s =
      (b, there.0, subst (λ (n : ℕ). There (form b) bytes n) (let e : start ≡ at = omega (arith, g.behind) in e) (first (form b) (flat_map form all) bytes start end s))
  next (a ∷ got) (b ∷ all) bytes start at end less here there g s =
      let mid = start + length (form a) in
      let one_got : Is a × Stands (form a) bytes start mid = (here.0, front (form a) (flat_map form got) bytes start at g) in
      next got all bytes mid at end (omega (arith, less)) here.1 there.1 (back (form a) (flat_map form got) bytes start at g mid refl)
      (behind Is form one a b (flat_map form all) bytes start mid end one_got there.0 s)

pub the_fault : {T : Type 0} (result : Result T Miss) (e f : Miss) → IsErrAnd result (λ g. g ≡ e) → IsErrOf result f → e ≡ f
the_fault (Ok x) e f same is = absurd same
the_fault {T = T} (Err g) e f same is =
    let both : Err g ≡ Err f = is in
    let one : g ≡ f = cc in
    sym same ∙ one
