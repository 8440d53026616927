-- A number and what stands behind it are determined by the bytes.
use Rattle.std.proofs.Common.{◌≡◌, ℕ, ◌^◌, ◌<◌, ◌≤◌, ◌-◌, Bool, true, false, List, [], ◌∷◌, ◌++◌, get_or, length, take, drop, refl, ap, ◌∙◌, sym, subst, arith, append_assoc, append-nil}
use Rattle.std.specs.Prelude.{◌&&◌, ◌==◌, decimal}
use Rattle.std.specs.Char.{is_ascii_digit}
use Rattle.std.specs.List.{prefix_len}
use Rattle.std.specs.Str.{all_ascii_digits}
use Rattle.std.proofs.lemmas.List.{take-append-drop, take_rest}
use Rattle.std.proofs.lemmas.Fmt.{digits_decimal, decimal_injective}
use Rattle.mail_names.proofs.Digits.{own, front_digits, behind_digits}
use Rattle.mail_names.specs.Names.{begins_with_digit, mark_text, numbers_text, name_text, approval_text, IsItemName, IsApprovalName, BeginsWithNumber, BeginsWithDashAndNumber, BeginsWithNumbers}
use Rattle.mail_names.specs.declared.name.ApprovalName.{ApprovalName}
use Rattle.mail_names.specs.declared.name.ItemName.{ItemName}
use Rattle.mail_names.specs.declared.name.Mark.{Mark}
use Rattle.mail_names.specs.declared.name.Mark.TheVariants as marks

both : (a b : Bool) → (a && b) ≡ true → (a ≡ true) × (b ≡ true)
both true b h = (refl, h)
both false b h = absurd cc

starts_other : (x : ℕ) (r xs s : List ℕ) → all_ascii_digits (x ∷ xs) ≡ true → begins_with_digit r ≡ false → r ≡ x ∷ (xs ++ s) → ⊥
starts_other x r xs s digits ends e =
    let digit = (both (is_ascii_digit x) (all_ascii_digits xs) digits).0 in
    let first = ap begins_with_digit e in
    absurd cc

pub same_digits : (xs ys r s : List ℕ) → all_ascii_digits xs ≡ true → all_ascii_digits ys ≡ true → begins_with_digit r ≡ false → begins_with_digit s ≡ false → xs ++ r ≡ ys ++ s → (xs ≡ ys) × (r ≡ s)
same_digits [] [] r s p q ends ends' e = (refl, e)
same_digits [] (y ∷ ys) r s p q ends ends' e = absurd (starts_other y r ys s q ends e)
same_digits (x ∷ xs) [] r s p q ends ends' e = absurd (starts_other x s xs r p ends' (sym e))
same_digits (x ∷ xs) (y ∷ ys) r s p q ends ends' e =
    let rest = same_digits xs ys r s (both (is_ascii_digit x) (all_ascii_digits xs) p).1 (both (is_ascii_digit y) (all_ascii_digits ys) q).1 ends ends' (tails e) in
    (let same = rest.0 in let head = heads e in cc, rest.1)
  where
    heads : x ∷ (xs ++ r) ≡ y ∷ (ys ++ s) → x ≡ y
    heads e = cc

    tails : x ∷ (xs ++ r) ≡ y ∷ (ys ++ s) → xs ++ r ≡ ys ++ s
    tails e = cc

pub one_number : (m n : ℕ) (r s : List ℕ) → m < 2 ^ 64 → n < 2 ^ 64 → begins_with_digit r ≡ false → begins_with_digit s ≡ false → decimal m ++ r ≡ decimal n ++ s → (m ≡ n) × (r ≡ s)
one_number m n r s small small' ends ends' e =
    let same = same_digits (decimal m) (decimal n) r s (digits_decimal own m small) (digits_decimal own n small') ends ends' e in
    (decimal_injective m n small small' same.0, same.1)

behind_dash : (r s : List ℕ) → 45 ∷ r ≡ 45 ∷ s → r ≡ s
behind_dash r s e = cc

-- the three numbers one behind the other
pub in_order : (a b c : ℕ) (rest : List ℕ) → numbers_text a b c ++ rest ≡ decimal a ++ (45 ∷ (decimal b ++ (45 ∷ (decimal c ++ rest))))
in_order a b c rest =
    append_assoc (decimal a) (45 ∷ (decimal b ++ (45 ∷ decimal c))) rest
    ∙ ap (λ x. decimal a ++ (45 ∷ x)) (append_assoc (decimal b) (45 ∷ decimal c) rest)

pub record Same (a b c a' b' c' : ℕ) (rest rest' : List ℕ) : Type 0 where
  pub first : a ≡ a'
  pub second : b ≡ b'
  pub third : c ≡ c'
  pub behind : rest ≡ rest'

pub one_triple : (a b c a' b' c' : ℕ) (r s : List ℕ) → a < 2 ^ 64 → b < 2 ^ 64 → c < 2 ^ 64 → a' < 2 ^ 64 → b' < 2 ^ 64 → c' < 2 ^ 64
    → begins_with_digit r ≡ false → begins_with_digit s ≡ false → numbers_text a b c ++ r ≡ numbers_text a' b' c' ++ s → Same a b c a' b' c' r s
one_triple a b c a' b' c' r s sa sb sc sa' sb' sc' ends ends' e =
    let one = one_number a a' (45 ∷ (decimal b ++ (45 ∷ (decimal c ++ r)))) (45 ∷ (decimal b' ++ (45 ∷ (decimal c' ++ s)))) sa sa' refl refl (sym (in_order a b c r) ∙ e ∙ in_order a' b' c' s) in
    let two = one_number b b' (45 ∷ (decimal c ++ r)) (45 ∷ (decimal c' ++ s)) sb sb' refl refl (behind_dash _ _ one.1) in
    let three = one_number c c' r s sc sc' ends ends' (behind_dash _ _ two.1) in
    record { first = one.0; second = two.0; third = three.0; behind = three.1 }

-- the digits at the front are those of a number
pub reads_number : (text : List ℕ) (count number : ℕ) → count ≡ prefix_len is_ascii_digit text → number < 2 ^ 64 → decimal number ≡ take count text
    → BeginsWithNumber text number (take (length text - count) (drop count text))
reads_number text count number is fits e = record {
  fits = fits;
  is = sym (take-append-drop count text) ∙ ap (λ x. x ++ drop count text) (sym e) ∙ ap (λ x. decimal number ++ x) (sym (take_rest text count));
  ends = ap begins_with_digit (take_rest text count) ∙ ap (λ n. begins_with_digit (drop n text)) is ∙ behind_digits text;
}

pub no_number : (text : List ℕ) (count : ℕ) → count ≡ prefix_len is_ascii_digit text → ((n : ℕ) → n < 2 ^ 64 → decimal n ≡ take count text → ⊥)
    → (n : ℕ) (rest : List ℕ) → ¬ (BeginsWithNumber text n rest)
no_number text count is none n rest b =
    none n b.fits (same_digits (decimal n) (take count text) rest (drop count text) (digits_decimal own n b.fits)
    (ap (λ k. all_ascii_digits (take k text)) is ∙ front_digits text) b.ends (ap (λ k. begins_with_digit (drop k text)) is ∙ behind_digits text)
    (sym b.is ∙ sym (take-append-drop count text))).0

pub dash_first : (text : List ℕ) → get_or text 0 0 ≡ 45 → 1 ≤ length text → text ≡ 45 ∷ take (length text - 1) (drop 1 text)
dash_first [] e some = absurd (omega arith)
dash_first (b ∷ text) e some = ap (λ x. x ∷ text) e ∙ ap (λ x. 45 ∷ x) (sym (take_rest (b ∷ text) 1))

pub dashed : (text rest behind : List ℕ) (number : ℕ) → number < 2 ^ 32 → text ≡ 45 ∷ rest → BeginsWithNumber rest number behind → BeginsWithDashAndNumber text number behind
dashed text rest behind number fits e b = record { fits = fits; is = e ∙ ap (λ x. 45 ∷ x) b.is; ends = b.ends }

pub not_dashed : (text rest : List ℕ) → text ≡ 45 ∷ rest → ((n : ℕ) (behind : List ℕ) → ¬ (BeginsWithNumber rest n behind)) → (n : ℕ) (behind : List ℕ) → ¬ (BeginsWithDashAndNumber text n behind)
not_dashed text rest e none n behind d =
    none n behind (record { fits = small n d.fits; is = behind_dash rest (decimal n ++ behind) (sym e ∙ d.is); ends = d.ends })
  where
    small : (n : ℕ) → n < 2 ^ 32 → n < 2 ^ 64
    small n h = omega arith

pub too_large : (text rest behind : List ℕ) (number : ℕ) → text ≡ 45 ∷ rest → BeginsWithNumber rest number behind → ¬ (number < 2 ^ 32) → (n : ℕ) (other : List ℕ) → ¬ (BeginsWithDashAndNumber text n other)
too_large text rest behind number e b large n other d =
    let fits = d.fits in
    let same = (one_number number n behind other b.fits (omega arith) b.ends d.ends (sym b.is ∙ behind_dash rest (decimal n ++ other) (sym e ∙ d.is))).0 in
    large (omega arith)

pub reads_numbers : (text one two three : List ℕ) (s r p : ℕ) → BeginsWithNumber text s one → BeginsWithDashAndNumber one r two → BeginsWithDashAndNumber two p three → BeginsWithNumbers text s r p three
reads_numbers text one two three s r p a b c = record {
  submission_fits = a.fits;
  release_fits = b.fits;
  place_fits = c.fits;
  is = a.is ∙ ap (λ x. decimal s ++ x) (b.is ∙ ap (λ x. 45 ∷ (decimal r ++ x)) c.is) ∙ sym (in_order s r p three);
  ends = c.ends;
}

first_of : (text rest : List ℕ) (s r p : ℕ) → BeginsWithNumbers text s r p rest → BeginsWithNumber text s (45 ∷ (decimal r ++ (45 ∷ (decimal p ++ rest))))
first_of text rest s r p b = record { fits = b.submission_fits; is = b.is ∙ in_order s r p rest; ends = refl }

pub no_first : (text : List ℕ) → ((n : ℕ) (rest : List ℕ) → ¬ (BeginsWithNumber text n rest)) → (s r p : ℕ) (rest : List ℕ) → ¬ (BeginsWithNumbers text s r p rest)
no_first text none s r p rest b = none s (45 ∷ (decimal r ++ (45 ∷ (decimal p ++ rest)))) (first_of text rest s r p b)

pub no_second : (text one : List ℕ) (first : ℕ) → BeginsWithNumber text first one → ((n : ℕ) (rest : List ℕ) → ¬ (BeginsWithDashAndNumber one n rest))
    → (s r p : ℕ) (rest : List ℕ) → ¬ (BeginsWithNumbers text s r p rest)
no_second text one first a none s r p rest b =
    let f = first_of text rest s r p b in
    let behind = (one_number first s one (45 ∷ (decimal r ++ (45 ∷ (decimal p ++ rest)))) a.fits f.fits a.ends refl (sym a.is ∙ f.is)).1 in
    none r (45 ∷ (decimal p ++ rest)) (record { fits = b.release_fits; is = behind; ends = refl })

pub no_third : (text one two : List ℕ) (first second : ℕ) → BeginsWithNumber text first one → BeginsWithDashAndNumber one second two → ((n : ℕ) (rest : List ℕ) → ¬ (BeginsWithDashAndNumber two n rest))
    → (s r p : ℕ) (rest : List ℕ) → ¬ (BeginsWithNumbers text s r p rest)
no_third text one two first second a c none s r p rest b =
    let f = first_of text rest s r p b in
    let behind = (one_number first s one (45 ∷ (decimal r ++ (45 ∷ (decimal p ++ rest)))) a.fits f.fits a.ends refl (sym a.is ∙ f.is)).1 in
    let next = (one_number second r two (45 ∷ (decimal p ++ rest)) (wide second c.fits) (wide r b.release_fits) c.ends refl (behind_dash _ _ (sym c.is ∙ behind))).1 in
    none p rest (record { fits = b.place_fits; is = next; ends = b.ends })
  where
    wide : (n : ℕ) → n < 2 ^ 32 → n < 2 ^ 64
    wide n h = omega arith

pub mark_ends : (mark : Mark) → begins_with_digit (mark_text mark) ≡ false
mark_ends marks.Plain = refl
mark_ends marks.Gate = refl
mark_ends marks.Delay = refl
mark_ends marks.Failure = refl

second_byte : {xs ys : List ℕ} → xs ≡ ys → get_or xs 1 0 ≡ get_or ys 1 0
second_byte e = ap (λ (bytes : List ℕ). get_or bytes 1 0) e

pub one_mark : (m n : Mark) → mark_text m ≡ mark_text n → m ≡ n
one_mark marks.Plain marks.Plain e = refl
one_mark marks.Gate marks.Gate e = refl
one_mark marks.Delay marks.Delay e = refl
one_mark marks.Failure marks.Failure e = refl
one_mark marks.Plain marks.Gate e = absurd cc
one_mark marks.Plain marks.Delay e = absurd cc
one_mark marks.Plain marks.Failure e = absurd cc
one_mark marks.Gate marks.Plain e = absurd cc
one_mark marks.Gate marks.Delay e = absurd (let letter : 103 ≡ 100 = second_byte e in omega arith)
one_mark marks.Gate marks.Failure e = absurd (let letter : 103 ≡ 117 = second_byte e in omega arith)
one_mark marks.Delay marks.Plain e = absurd cc
one_mark marks.Delay marks.Gate e = absurd (let letter : 100 ≡ 103 = second_byte e in omega arith)
one_mark marks.Delay marks.Failure e = absurd (let letter : 100 ≡ 117 = second_byte e in omega arith)
one_mark marks.Failure marks.Plain e = absurd cc
one_mark marks.Failure marks.Gate e = absurd (let letter : 117 ≡ 103 = second_byte e in omega arith)
one_mark marks.Failure marks.Delay e = absurd (let letter : 117 ≡ 100 = second_byte e in omega arith)

small : (n : ℕ) → n < 2 ^ 32 → n < 2 ^ 64
small n h = omega arith

numbers_of : (name : ItemName) → IsItemName name → BeginsWithNumbers (name_text name) name.submission name.release name.place (mark_text name.mark)
numbers_of name p = record { submission_fits = p.submission; release_fits = p.release; place_fits = p.place; is = refl; ends = mark_ends name.mark }

pub no_numbers : (text : List ℕ) → ((s r p : ℕ) (rest : List ℕ) → ¬ (BeginsWithNumbers text s r p rest)) → (name : ItemName) → IsItemName name → name_text name ≡ text → ⊥
no_numbers text none name p e =
    none name.submission name.release name.place (mark_text name.mark)
    (subst (λ (x : List ℕ). BeginsWithNumbers x name.submission name.release name.place (mark_text name.mark)) e (numbers_of name p))

pub no_mark : (text rest : List ℕ) (s r p : ℕ) → BeginsWithNumbers text s r p rest → ((mark : Mark) → mark_text mark ≡ rest → ⊥) → (name : ItemName) → IsItemName name → name_text name ≡ text → ⊥
no_mark text rest s r p b none name q e =
    none name.mark (sym (one_triple s r p name.submission name.release name.place rest (mark_text name.mark) b.submission_fits (small r b.release_fits) (small p b.place_fits)
    q.submission (small name.release q.release) (small name.place q.place) b.ends (mark_ends name.mark) (sym b.is ∙ sym e)).behind)

approval_numbers : (name : ApprovalName) → approval_text name ≡ numbers_text name.submission name.release name.gate ++ []
approval_numbers name = sym (append-nil (approval_text name))

pub no_approval_numbers : (text : List ℕ) → ((s r p : ℕ) (rest : List ℕ) → ¬ (BeginsWithNumbers text s r p rest)) → (name : ApprovalName) → IsApprovalName name → approval_text name ≡ text → ⊥
no_approval_numbers text none name p e =
    none name.submission name.release name.gate []
    (record { submission_fits = p.submission; release_fits = p.release; place_fits = p.gate; is = sym e ∙ approval_numbers name; ends = refl })

pub some_behind : (rest : List ℕ) → false ≡ (length rest == 0) → 0 < length rest
some_behind rest h = grind arith

pub something_behind : (text rest : List ℕ) (s r p : ℕ) → BeginsWithNumbers text s r p rest → 0 < length rest → (name : ApprovalName) → IsApprovalName name → approval_text name ≡ text → ⊥
something_behind text rest s r p b some name q e =
    let behind = (one_triple s r p name.submission name.release name.gate rest [] b.submission_fits (small r b.release_fits) (small p b.place_fits)
    q.submission (small name.release q.release) (small name.gate q.gate) b.ends refl (sym b.is ∙ sym e ∙ approval_numbers name)).behind in
    let size : length rest ≡ 0 = ap length behind in
    omega arith

abbrev item_name : ℕ → ℕ → ℕ → Mark → ItemName
item_name submission release place mark = record { submission = submission; release = release; place = place; mark = mark }

pub one_item_name : (m n : ItemName) → IsItemName m → IsItemName n → name_text m ≡ name_text n → m ≡ n
one_item_name m n p q e =
    let same = one_triple m.submission m.release m.place n.submission n.release n.place (mark_text m.mark) (mark_text n.mark)
    p.submission (small m.release p.release) (small m.place p.place) q.submission (small n.release q.release) (small n.place q.place) (mark_ends m.mark) (mark_ends n.mark) e in
    ap (λ (x : ℕ). item_name x m.release m.place m.mark) same.first
    ∙ ap (λ (x : ℕ). item_name n.submission x m.place m.mark) same.second
    ∙ ap (λ (x : ℕ). item_name n.submission n.release x m.mark) same.third
    ∙ ap (λ (x : Mark). item_name n.submission n.release n.place x) (one_mark m.mark n.mark same.behind)

abbrev approval_name : ℕ → ℕ → ℕ → ApprovalName
approval_name submission release gate = record { submission = submission; release = release; gate = gate }

pub one_approval_name : (m n : ApprovalName) → IsApprovalName m → IsApprovalName n → approval_text m ≡ approval_text n → m ≡ n
one_approval_name m n p q e =
    let same = one_triple m.submission m.release m.gate n.submission n.release n.gate [] []
    p.submission (small m.release p.release) (small m.gate p.gate) q.submission (small n.release q.release) (small n.gate q.gate) refl refl (ap (λ x. x ++ []) e) in
    ap (λ (x : ℕ). approval_name x m.release m.gate) same.first
    ∙ ap (λ (x : ℕ). approval_name n.submission x m.gate) same.second
    ∙ ap (λ (x : ℕ). approval_name n.submission n.release x) same.third
