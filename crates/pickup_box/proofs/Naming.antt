-- Names, and what they are made of.
use Rattle.std.proofs.Common.{◌≡◌, ℕ, suc, ◌+◌, ◌-◌, ◌<◌, ◌≤◌, Bool, true, false, cond, List, [], ◌∷◌, ◌++◌, length, get_or, take, drop, drop-cons, refl, ap, ◌∙◌, sym, arith, append_assoc, length-append}
use Rattle.std.specs.Prelude.{◌&&◌, ◌==◌, not, nat_lt, bytes_eq, codes, reverse, Option, Some, None, option_and_then}
use Rattle.std.specs.List.{suffix_len, list_all}
use Rattle.std.specs.Char.{is_ascii_digit}
use Rattle.std.proofs.lemmas.Bool.{ltb-true, lt-ltb}
use Rattle.std.proofs.lemmas.Slice.Eq.{bytes_eq-Decides}
use Rattle.std.proofs.lemmas.List.{take-append-drop, length-reverse, get_or-reverse, take_at, drop_at, get_or-append_right}
use Rattle.std.proofs.Math.Seq.{get_or-append_seam}
use Rattle.std.proofs.lemmas.List.Sums.{prefix_len_stops, suffix_len_is, AllPass-from_list_all}
use Rattle.mail_names.specs.Names.{is_short}
use Rattle.pickup_box.specs.FileNames.{before_ending, is_number, number_place, before_number, begun_stem, IsBegunName}

some_is : (a b : List ℕ) → Some a ≡ Some b → a ≡ b
some_is a b e = cc

both : (a b : Bool) → (a && b) ≡ true → (a ≡ true) × (b ≡ true)
both true b h = (refl, h)
both false b h = absurd cc

pub ending_found : (ending name front : List ℕ) → before_ending ending name ≡ Some front → name ≡ front ++ ending
ending_found ending name front e = by_test (bytes_eq (drop (length name - length ending) name) ending) refl e
  where
    by_test : (t : Bool) → bytes_eq (drop (length name - length ending) name) ending ≡ t → cond t (Some (take (length name - length ending) name)) None ≡ Some front → name ≡ front ++ ending
    by_test true h e =
        sym (take-append-drop (length name - length ending) name)
        ∙ ap (λ x. take (length name - length ending) name ++ x) ((bytes_eq-Decides (drop (length name - length ending) name) ending).0 h)
        ∙ ap (λ x. x ++ ending) (some_is (take (length name - length ending) name) front e)
    by_test false h e = absurd cc

pub ending_only : (ending front name : List ℕ) → name ≡ front ++ ending → before_ending ending name ≡ Some front
ending_only ending front name e =
    let sizes = ap length e ∙ length-append front ending in
    let place : length front ≡ length name - length ending = omega arith in
    let back : drop (length name - length ending) name ≡ ending = ap (drop (length name - length ending)) e ∙ drop_at front ending (length name - length ending) place in
    let before : take (length name - length ending) name ≡ front = ap (take (length name - length ending)) e ∙ take_at front ending (length name - length ending) place in
    ap (λ t. cond t (Some (take (length name - length ending) name)) None) ((bytes_eq-Decides (drop (length name - length ending) name) ending).1 back)
    ∙ ap (λ x. Some x) before

dot_there : (front : List ℕ) → 0 < number_place front → get_or front (number_place front - 1) 0 ≡ 46
dot_there front some =
    let n = suffix_len (λ b. not (b == 46)) front in
    let size = length-reverse front in
    let within : n < length front = omega arith in
    let within' : n < length (reverse front) = omega arith in
    let same : length front - 1 - n ≡ number_place front - 1 = omega arith in
    is_dot (get_or front (number_place front - 1) 0)
    (ap (λ k. not (get_or front k 0 == 46)) (sym same)
    ∙ ap (λ b. not (b == 46)) (sym (get_or-reverse front n 0 within))
    ∙ prefix_len_stops (λ b. not (b == 46)) (reverse front) 0 within')
  where
    is_dot : (b : ℕ) → not (b == 46) ≡ false → b ≡ 46
    is_dot b h = grind arith

-- a front that is a stem, a dot and a number
record IsNumbered (front stem : List ℕ) : Type 0 where
  digits : List ℕ
  number : is_number digits ≡ true
  is : front ≡ stem ++ 46 ∷ digits

number_found : (front stem : List ℕ) → before_number front ≡ Some stem → IsNumbered front stem
number_found front stem e = by_test (nat_lt 0 (number_place front) && is_number (drop (number_place front) front)) refl e
  where
    by_test : (t : Bool) → (nat_lt 0 (number_place front) && is_number (drop (number_place front) front)) ≡ t → cond t (Some (take (number_place front - 1) front)) None ≡ Some stem → IsNumbered front stem
    by_test true h e =
        let tests = both (nat_lt 0 (number_place front)) (is_number (drop (number_place front) front)) h in
        let some : 0 < number_place front = ltb-true 0 (number_place front) tests.0 in
        let last : number_place front - 1 < length front = omega arith in
        let next : suc (number_place front - 1) ≡ number_place front = omega arith in
        record {
          digits = drop (number_place front) front;
          number = tests.1;
          is =
              sym (take-append-drop (number_place front - 1) front)
              ∙ ap (λ x. take (number_place front - 1) front ++ x) (drop-cons front (number_place front - 1) 0 last)
              ∙ ap (λ b. take (number_place front - 1) front ++ b ∷ drop (suc (number_place front - 1)) front) (dot_there front some)
              ∙ ap (λ k. take (number_place front - 1) front ++ 46 ∷ drop k front) next
              ∙ ap (λ x. x ++ 46 ∷ drop (number_place front) front) (some_is (take (number_place front - 1) front) stem e);
        }
    by_test false h e = absurd cc

regroup : (stem digits ending : List ℕ) → (stem ++ 46 ∷ digits) ++ ending ≡ stem ++ (46 ∷ (digits ++ ending))
regroup stem digits ending = append_assoc stem (46 ∷ digits) ending

pub begun_found : (name stem : List ℕ) → begun_stem name ≡ Some stem → IsBegunName name stem
begun_found name stem e = by_front (before_ending (codes ".tmp") name) refl e
  where
    by_front : (o : Option (List ℕ)) → before_ending (codes ".tmp") name ≡ o → option_and_then before_number o ≡ Some stem → IsBegunName name stem
    by_front None h e = absurd cc
    by_front (Some front) h e =
        let numbered = number_found front stem e in
        record {
          digits = numbered.digits;
          number = numbered.number;
          is = ending_found (codes ".tmp") name front h ∙ ap (λ x. x ++ codes ".tmp") numbered.is ∙ regroup stem numbered.digits (codes ".tmp");
        }

number_only : (front stem digits : List ℕ) → is_number digits ≡ true → front ≡ stem ++ 46 ∷ digits → before_number front ≡ Some stem
number_only front stem digits h e =
    let sizes : length front ≡ length stem + suc (length digits) = ap length e ∙ length-append stem (46 ∷ digits) in
    let passes = AllPass-from_list_all is_ascii_digit digits (both (is_short digits) (list_all is_ascii_digit digits) h).1 in
    let behind : suffix_len (λ b. not (b == 46)) front ≡ length front - (length stem + 1) =
    suffix_len_is (λ b. not (b == 46)) front (length stem + 1) 0 (omega arith)
    (λ k le lt. ap (λ l. not (get_or l k 0 == 46)) e ∙ ap (λ b. not (b == 46)) (there k le) ∙ no_dot_digit (get_or digits (k - (length stem + 1)) 0) (passes (k - (length stem + 1)) 0 (omega arith)))
    (λ some. ap (λ l. not (get_or l (length stem + 1 - 1) 0 == 46)) e ∙ ap (λ k. not (get_or (stem ++ 46 ∷ digits) k 0 == 46)) at_stem ∙ ap (λ b. not (b == 46)) (get_or-append_seam stem 46 digits 0)) in
    let place : number_place front ≡ length stem + 1 = omega arith in
    let split : front ≡ (stem ++ 46 ∷ []) ++ digits = e ∙ sym (append_assoc stem (46 ∷ []) digits) in
    let dotted : length (stem ++ 46 ∷ []) ≡ length stem + 1 = length-append stem (46 ∷ []) in
    let back : drop (length stem + 1) front ≡ digits = ap (drop (length stem + 1)) split ∙ drop_at (stem ++ 46 ∷ []) digits (length stem + 1) dotted in
    let one : length stem ≡ length stem + 1 - 1 = omega arith in
    let before : take (length stem + 1 - 1) front ≡ stem = ap (take (length stem + 1 - 1)) e ∙ take_at stem (46 ∷ digits) (length stem + 1 - 1) one in
    ap (λ k. cond (nat_lt 0 k && is_number (drop k front)) (Some (take (k - 1) front)) None) place
    ∙ ap (λ l. cond (nat_lt 0 (length stem + 1) && is_number l) (Some (take (length stem + 1 - 1) front)) None) back
    ∙ ap (λ t. cond (nat_lt 0 (length stem + 1) && t) (Some (take (length stem + 1 - 1) front)) None) h
    ∙ ap (λ t. cond (t && true) (Some (take (length stem + 1 - 1) front)) None) (lt-ltb 0 (length stem + 1) (omega arith))
    ∙ ap (λ x. Some x) before
  where
    at_stem : length stem + 1 - 1 ≡ length stem
    at_stem = omega arith

    no_dot_digit : (b : ℕ) → is_ascii_digit b ≡ true → not (b == 46) ≡ true
    no_dot_digit b h = grind arith

    there : (k : ℕ) → length stem + 1 ≤ k → get_or (stem ++ 46 ∷ digits) k 0 ≡ get_or digits (k - (length stem + 1)) 0
    there k le =
        ap (λ l. get_or l k 0) (sym (append_assoc stem (46 ∷ []) digits))
        ∙ get_or-append_right (stem ++ 46 ∷ []) digits (length stem + 1) k 0 (length-append stem (46 ∷ [])) le

pub begun_only : (name stem : List ℕ) → IsBegunName name stem → begun_stem name ≡ Some stem
begun_only name stem begun =
    ap (option_and_then before_number) (ending_only (codes ".tmp") (stem ++ 46 ∷ begun.digits) name (begun.is ∙ sym (regroup stem begun.digits (codes ".tmp"))))
    ∙ number_only (stem ++ 46 ∷ begun.digits) stem begun.digits begun.number refl
