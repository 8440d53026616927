-- Edits of a message leave fields.
use Rattle.std.proofs.Common.{◌≡◌, ℕ, Bool, true, false, cond, not, List, [], ◌∷◌, ◌++◌, length, Some, refl, ap, ◌∙◌, sym, subst, arith, append_assoc, append-nil}
use Rattle.std.specs.Prelude.{◌==◌, ◌&&◌, nat_le, find, codes}
use Rattle.std.specs.List.{list_all}
use Rattle.mail_message.specs.declared.edits.Place.{Place}
use Rattle.mail_message.specs.declared.edits.Place.TheVariants as places
use Rattle.mail_message.specs.Lines.{begins_with, crlf, has_crlf, is_blank, is_name_byte, is_field_name, is_printable, ends_name, is_header}
use Rattle.mail_message.specs.Message.{Mail, IsField, AreFields, IsMail, is_named, value_of}
use Rattle.mail_message.specs.Edits.{field_text, without, with_field, set_field, remove_field, prepended, prepend_subject, add_text}
use Rattle.mail_message.specs.Enclose.{kept, kept_head, outer_fields, wrap}
use Rattle.mail_message.proofs.Cut.{or_both}
use Rattle.mail_message.proofs.Beginning.{new_field}
use Rattle.mail_message.proofs.Values.{value_clean}

both : (a b : Bool) → (a && b) ≡ true → (a ≡ true) × (b ≡ true)
both true b h = (refl, h)
both false b h = absurd cc

and_true : (a b : Bool) → a ≡ true → b ≡ true → (a && b) ≡ true
and_true a b p q = ap (λ x. x && b) p ∙ q

and_first : (a b : Bool) → a ≡ false → (a && b) ≡ false
and_first a b e = ap (λ x. x && b) e

-- no CR
abbrev has_no_cr : List ℕ → Bool
has_no_cr bytes = list_all (λ b. not (b == 13)) bytes

clean_append : (front back : List ℕ) → has_no_cr front ≡ true → has_crlf back ≡ false → has_crlf (front ++ back) ≡ false
clean_append [] back h k = k
clean_append (b ∷ front) back h k =
    let parts = both (not (b == 13)) (has_no_cr front) h in
    or_both (b == 13 && begins_with 10 (front ++ back)) (has_crlf (front ++ back)) (and_first (b == 13) (begins_with 10 (front ++ back)) (no (b == 13) parts.0)) (clean_append front back parts.1 k)
  where
    no : (t : Bool) → not t ≡ true → t ≡ false
    no true e = absurd cc
    no false e = refl

clean_alone : (bytes : List ℕ) → has_no_cr bytes ≡ true → has_crlf bytes ≡ false
clean_alone bytes h = ap has_crlf (sym (append-nil bytes)) ∙ clean_append bytes [] h refl

name_byte_no_cr : (b : ℕ) → is_name_byte b ≡ true → not (b == 13) ≡ true
name_byte_no_cr b h = grind arith

printable_no_cr : (b : ℕ) → (nat_le 32 b && nat_le b 126) ≡ true → not (b == 13) ≡ true
printable_no_cr b h = grind arith

all_by : (p q : ℕ → Bool) → ((b : ℕ) → p b ≡ true → q b ≡ true) → (bytes : List ℕ) → list_all p bytes ≡ true → list_all q bytes ≡ true
all_by p q each [] h = refl
all_by p q each (b ∷ bytes) h = (let parts = both (p b) (list_all p bytes) h in and_true (q b) (list_all q bytes) (each b parts.0) (all_by p q each bytes parts.1))

pub printable_clean : (bytes : List ℕ) → is_printable bytes ≡ true → has_no_cr bytes ≡ true
printable_clean bytes h = all_by (λ b. nat_le 32 b && nat_le b 126) (λ b. not (b == 13)) printable_no_cr bytes h

-- what stands behind a name's first byte up to its colon
name_ends : (name rest : List ℕ) → list_all is_name_byte name ≡ true → ends_name true (name ++ 58 ∷ rest) ≡ true
name_ends [] rest h = refl
name_ends (b ∷ name) rest h =
    let parts = both (is_name_byte b) (list_all is_name_byte name) h in
    ap (λ t. cond t true (cond (is_blank b) (ends_name false (name ++ 58 ∷ rest)) (cond (is_name_byte b) (ends_name true (name ++ 58 ∷ rest)) false))) (no_colon b parts.0)
    ∙ ap (λ t. cond t (ends_name false (name ++ 58 ∷ rest)) (cond (is_name_byte b) (ends_name true (name ++ 58 ∷ rest)) false)) (no_blank b parts.0)
    ∙ ap (λ t. cond t (ends_name true (name ++ 58 ∷ rest)) false) parts.0
    ∙ name_ends name rest parts.1
  where
    no_colon : (b : ℕ) → is_name_byte b ≡ true → (b == 58) ≡ false
    no_colon b h = grind arith

    no_blank : (b : ℕ) → is_name_byte b ≡ true → is_blank b ≡ false
    no_blank b h = grind arith

name_clean : (name : List ℕ) → is_field_name name ≡ true → has_no_cr name ≡ true
name_clean [] h = absurd cc
name_clean (b ∷ name) h = all_by is_name_byte (λ b. not (b == 13)) name_byte_no_cr (b ∷ name) h

named_header : (name rest : List ℕ) → is_field_name name ≡ true → is_header (name ++ 58 ∷ rest) ≡ true
named_header [] rest h = absurd cc
named_header (b ∷ name) rest h =
    let parts = both (is_name_byte b) (list_all is_name_byte name) h in
    and_true (is_name_byte b) (ends_name true (name ++ 58 ∷ rest)) parts.0 (name_ends name rest parts.1)

-- a field `name: value`
pub named_field : (name value : List ℕ) → is_field_name name ≡ true → has_crlf value ≡ false → IsField (field_text name value)
named_field name value p q =
    subst (λ (raw : List ℕ). IsField raw) (append_assoc name (58 ∷ 32 ∷ value) crlf)
    (new_field (name ++ 58 ∷ 32 ∷ value) (clean_append name (58 ∷ 32 ∷ value) (name_clean name p) (clean_append (58 ∷ 32 ∷ []) value refl q)) (named_header name (32 ∷ value) p))

-- fields of a list
append_fields : (xs ys : List (List ℕ)) → AreFields xs → AreFields ys → AreFields (xs ++ ys)
append_fields [] ys h k = k
append_fields (raw ∷ xs) ys h k = (h.0, append_fields xs ys h.1 k)

pub without_fields : (name : List ℕ) (raws : List (List ℕ)) → AreFields raws → AreFields (without name raws)
without_fields name [] h = tt
without_fields name (raw ∷ raws) h = by (not (is_named name raw)) (without_fields name raws h.1)
  where
    by : (t : Bool) → AreFields (without name raws) → AreFields (cond t (raw ∷ without name raws) (without name raws))
    by true k = (h.0, k)
    by false k = k

pub with_fields : (name new : List ℕ) (raws : List (List ℕ)) → IsField new → AreFields raws → AreFields (with_field name new raws)
with_fields name new [] f h = (f, tt)
with_fields name new (raw ∷ raws) f h = by (is_named name raw) (with_fields name new raws f h.1)
  where
    by : (t : Bool) → AreFields (with_field name new raws) → AreFields (cond t (new ∷ without name raws) (raw ∷ with_field name new raws))
    by true k = (f, without_fields name raws h.1)
    by false k = (h.0, k)

pub prepended_fields : (new : List ℕ) (raws : List (List ℕ)) → is_printable new ≡ true → AreFields raws → AreFields (prepended new raws)
prepended_fields new [] p h = (named_field (codes "Subject") new refl (clean_alone new (printable_clean new p)), tt)
prepended_fields new (raw ∷ raws) p h = by (is_named (codes "Subject") raw) (prepended_fields new raws p h.1)
  where
    by : (t : Bool) → AreFields (prepended new raws) → AreFields (cond t (field_text (codes "Subject") (new ++ value_of raw) ∷ raws) (raw ∷ prepended new raws))
    by true k = (named_field (codes "Subject") (new ++ value_of raw) refl (clean_append new (value_of raw) (printable_clean new p) (value_clean raw h.0)), h.1)
    by false k = (h.0, k)

kept_fields : (p : List ℕ → Bool) (raws : List (List ℕ)) → AreFields raws → AreFields (kept (find p raws))
kept_fields p [] h = tt
kept_fields p (raw ∷ raws) h = by (p raw) (kept_fields p raws h.1)
  where
    short : (t : Bool) → AreFields (cond t (raw ∷ []) [])
    short true = (h.0, tt)
    short false = tt

    by : (t : Bool) → AreFields (kept (find p raws)) → AreFields (kept (cond t (Some raw) (find p raws)))
    by true k = short (nat_le (length raw) 4096)
    by false k = k

pub head_fields : (raws : List (List ℕ)) → AreFields raws → AreFields (kept_head raws)
head_fields raws h =
    append_fields (kept (find (is_named (codes "From")) raws)) _ (kept_fields (is_named (codes "From")) raws h)
    (append_fields (kept (find (is_named (codes "To")) raws)) _ (kept_fields (is_named (codes "To")) raws h)
    (append_fields (kept (find (is_named (codes "Subject")) raws)) _ (kept_fields (is_named (codes "Subject")) raws h)
    (append_fields (kept (find (is_named (codes "Date")) raws)) _ (kept_fields (is_named (codes "Date")) raws h)
    (append_fields (kept (find (is_named (codes "Message-Id")) raws)) [] (kept_fields (is_named (codes "Message-Id")) raws h) tt))))

abbrev kind_line : List ℕ → List ℕ
kind_line mark = codes "Content-Type: multipart/mixed; boundary=\"" ++ (mark ++ codes "\"")

kind_clean : (mark : List ℕ) → is_printable mark ≡ true → has_crlf (kind_line mark) ≡ false
kind_clean mark p = clean_append (codes "Content-Type: multipart/mixed; boundary=\"") (mark ++ codes "\"") refl (clean_append mark (codes "\"") (printable_clean mark p) refl)

pub outer_are_fields : (mark : List ℕ) → is_printable mark ≡ true → AreFields (outer_fields mark)
outer_are_fields mark p =
    (new_field (codes "MIME-Version: 1.0") refl refl, (new_field (kind_line mark) (kind_clean mark p) refl, (new_field (codes "Content-Transfer-Encoding: 8bit") refl refl, tt)))

pub wrapped_fields : (mark : List ℕ) (raws : List (List ℕ)) → is_printable mark ≡ true → AreFields raws → AreFields (kept_head raws ++ outer_fields mark)
wrapped_fields mark raws p h = append_fields (kept_head raws) (outer_fields mark) (head_fields raws h) (outer_are_fields mark p)

-- the same of the fields that code leaves
pub fields_set : (name value raw : List ℕ) (old new : List (List ℕ)) → is_field_name name ≡ true → is_printable value ≡ true → raw ≡ field_text name value → new ≡ with_field name raw old → AreFields old → AreFields new
fields_set name value raw old new p q r e h =
    subst (λ (raws : List (List ℕ)). AreFields raws) (sym e)
    (with_fields name raw old (subst (λ (x : List ℕ). IsField x) (sym r) (named_field name value p (clean_alone value (printable_clean value q)))) h)

pub fields_without : (name : List ℕ) (old new : List (List ℕ)) → new ≡ without name old → AreFields old → AreFields new
fields_without name old new e h = subst (λ (raws : List (List ℕ)). AreFields raws) (sym e) (without_fields name old h)

pub fields_prepended : (added : List ℕ) (old new : List (List ℕ)) → is_printable added ≡ true → new ≡ prepended added old → AreFields old → AreFields new
fields_prepended added old new p e h = subst (λ (raws : List (List ℕ)). AreFields raws) (sym e) (prepended_fields added old p h)

pub fields_wrapped : (mark : List ℕ) (old new : List (List ℕ)) → is_printable mark ≡ true → new ≡ kept_head old ++ outer_fields mark → AreFields old → AreFields new
fields_wrapped mark old new p e h = subst (λ (raws : List (List ℕ)). AreFields raws) (sym e) (wrapped_fields mark old p h)

pub set_keeps : (name value : List ℕ) (m : Mail) → is_field_name name ≡ true → is_printable value ≡ true → IsMail m → IsMail (set_field name value m)
set_keeps name value m p q h = with_fields name (field_text name value) m.fields (named_field name value p (clean_alone value (printable_clean value q))) h

pub remove_keeps : (name : List ℕ) (m : Mail) → IsMail m → IsMail (remove_field name m)
remove_keeps name m h = without_fields name m.fields h

pub prepend_keeps : (new : List ℕ) (m : Mail) → is_printable new ≡ true → IsMail m → IsMail (prepend_subject new m)
prepend_keeps new m p h = prepended_fields new m.fields p h

pub add_keeps : (place : Place) (new : List ℕ) (m : Mail) → IsMail m → IsMail (add_text place new m)
add_keeps places.Before new m h = h
add_keeps places.After new m h = h

pub wrap_keeps : (mark new : List ℕ) (m : Mail) → is_printable mark ≡ true → IsMail m → IsMail (wrap mark new m)
wrap_keeps mark new m p h = wrapped_fields mark m.fields p h
