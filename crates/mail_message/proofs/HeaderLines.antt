-- The test of a header line against what it is.
use Rattle.std.proofs.Common.{◌≡◌, ℕ, Bool, true, false, cond, List, [], ◌∷◌, ◌++◌, refl, ap, ◌∙◌, inl, inr, arith}
use Rattle.std.specs.Prelude.{◌==◌, ◌&&◌}
use Rattle.std.specs.List.{list_all}
use Rattle.mail_message.specs.Lines.{is_blank, is_name_byte, is_field_name, ends_name, is_header, IsHeaderLine}
use Rattle.mail_message.proofs.Cut.{chosen}

both : (a b : Bool) → (a && b) ≡ true → (a ≡ true) × (b ≡ true)
both true b h = (refl, h)
both false b h = absurd cc

and_true : (a b : Bool) → a ≡ true → b ≡ true → (a && b) ≡ true
and_true a b p q = ap (λ x. x && b) p ∙ q

colon : (b : ℕ) → (b == 58) ≡ true → b ≡ 58
colon b h = grind arith

-- spaces and tabs up to a colon
record Blanks (bytes : List ℕ) : Type 0 where
  blanks : List ℕ
  rest : List ℕ
  blank : list_all is_blank blanks ≡ true
  is : bytes ≡ blanks ++ 58 ∷ rest

-- bytes of a name, and then those
record Ends (bytes : List ℕ) : Type 0 where
  name : List ℕ
  blanks : List ℕ
  rest : List ℕ
  named : list_all is_name_byte name ≡ true
  blank : list_all is_blank blanks ≡ true
  is : bytes ≡ name ++ (blanks ++ 58 ∷ rest)

blanks_end : (bytes : List ℕ) → ends_name false bytes ≡ true → Blanks bytes
blanks_end [] h = absurd cc
blanks_end (b ∷ bytes) h = elim (chosen (b == 58) true (cond (is_blank b) (ends_name false bytes) false) true h) [
  | inl p ↦ record { blanks = []; rest = bytes; blank = refl; is = ap (λ x. x ∷ bytes) (colon b p.0) }
  | inr p ↦ elim (chosen (is_blank b) (ends_name false bytes) false true p.1) [
    | inl q ↦ (let more = blanks_end bytes q.1 in record { blanks = b ∷ more.blanks; rest = more.rest; blank = and_true (is_blank b) (list_all is_blank more.blanks) q.0 more.blank; is = ap (λ x. b ∷ x) more.is })
    | inr q ↦ absurd (let no = q.1 in cc)
  ]
]

name_end : (bytes : List ℕ) → ends_name true bytes ≡ true → Ends bytes
name_end [] h = absurd cc
name_end (b ∷ bytes) h = elim (chosen (b == 58) true (cond (is_blank b) (ends_name false bytes) (cond (is_name_byte b) (ends_name true bytes) false)) true h) [
  | inl p ↦ record { name = []; blanks = []; rest = bytes; named = refl; blank = refl; is = ap (λ x. x ∷ bytes) (colon b p.0) }
  | inr p ↦ elim (chosen (is_blank b) (ends_name false bytes) (cond (is_name_byte b) (ends_name true bytes) false) true p.1) [
    | inl q ↦ (let more = blanks_end bytes q.1 in record {
      name = [];
      blanks = b ∷ more.blanks;
      rest = more.rest;
      named = refl;
      blank = and_true (is_blank b) (list_all is_blank more.blanks) q.0 more.blank;
      is = ap (λ x. b ∷ x) more.is;
    })
    | inr q ↦ elim (chosen (is_name_byte b) (ends_name true bytes) false true q.1) [
      | inl r ↦ (let more = name_end bytes r.1 in record {
        name = b ∷ more.name;
        blanks = more.blanks;
        rest = more.rest;
        named = and_true (is_name_byte b) (list_all is_name_byte more.name) r.0 more.named;
        blank = more.blank;
        is = ap (λ x. b ∷ x) more.is;
      })
      | inr r ↦ absurd (let no = r.1 in cc)
    ]
  ]
]

pub told : (line : List ℕ) → is_header line ≡ true → IsHeaderLine line
told [] h = absurd cc
told (b ∷ bytes) h =
    let parts = both (is_name_byte b) (ends_name true bytes) h in
    let more = name_end bytes parts.1 in
    record { name = b ∷ more.name; blanks = more.blanks; rest = more.rest; named = and_true (is_name_byte b) (list_all is_name_byte more.name) parts.0 more.named; blank = more.blank; is = ap (λ x. b ∷ x) more.is }

no_colon : (b : ℕ) → is_name_byte b ≡ true → (b == 58) ≡ false
no_colon b h = grind arith

no_blank : (b : ℕ) → is_name_byte b ≡ true → is_blank b ≡ false
no_blank b h = grind arith

blank_no_colon : (b : ℕ) → is_blank b ≡ true → (b == 58) ≡ false
blank_no_colon b h = grind arith

ends_blanks : (in_name : Bool) (blanks rest : List ℕ) → list_all is_blank blanks ≡ true → ends_name in_name (blanks ++ 58 ∷ rest) ≡ true
ends_blanks in_name [] rest h = refl
ends_blanks in_name (b ∷ blanks) rest h =
    let parts = both (is_blank b) (list_all is_blank blanks) h in
    ap (λ t. cond t true (cond (is_blank b) (ends_name false (blanks ++ 58 ∷ rest)) (cond (in_name && is_name_byte b) (ends_name true (blanks ++ 58 ∷ rest)) false))) (blank_no_colon b parts.0)
    ∙ ap (λ t. cond t (ends_name false (blanks ++ 58 ∷ rest)) (cond (in_name && is_name_byte b) (ends_name true (blanks ++ 58 ∷ rest)) false)) parts.0
    ∙ ends_blanks false blanks rest parts.1

ends_named : (name blanks rest : List ℕ) → list_all is_name_byte name ≡ true → list_all is_blank blanks ≡ true → ends_name true (name ++ (blanks ++ 58 ∷ rest)) ≡ true
ends_named [] blanks rest h k = ends_blanks true blanks rest k
ends_named (b ∷ name) blanks rest h k =
    let parts = both (is_name_byte b) (list_all is_name_byte name) h in
    ap (λ t. cond t true (cond (is_blank b) (ends_name false (name ++ (blanks ++ 58 ∷ rest))) (cond (is_name_byte b) (ends_name true (name ++ (blanks ++ 58 ∷ rest))) false))) (no_colon b parts.0)
    ∙ ap (λ t. cond t (ends_name false (name ++ (blanks ++ 58 ∷ rest))) (cond (is_name_byte b) (ends_name true (name ++ (blanks ++ 58 ∷ rest))) false)) (no_blank b parts.0)
    ∙ ap (λ t. cond t (ends_name true (name ++ (blanks ++ 58 ∷ rest))) false) parts.0
    ∙ ends_named name blanks rest parts.1 k

named_is : (name blanks rest : List ℕ) → is_field_name name ≡ true → list_all is_blank blanks ≡ true → is_header (name ++ (blanks ++ 58 ∷ rest)) ≡ true
named_is [] blanks rest h k = absurd cc
named_is (b ∷ name) blanks rest h k =
    let parts = both (is_name_byte b) (list_all is_name_byte name) h in
    and_true (is_name_byte b) (ends_name true (name ++ (blanks ++ 58 ∷ rest))) parts.0 (ends_named name blanks rest parts.1 k)

pub tested : (line : List ℕ) → IsHeaderLine line → is_header line ≡ true
tested line h = ap is_header h.is ∙ named_is h.name h.blanks h.rest h.named h.blank
