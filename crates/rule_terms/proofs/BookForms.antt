-- What is read has the form that a rule book asks for.
use Rattle.std.proofs.Common.{◌≡◌, ℕ, ◌+◌, ◌&&◌, nat_le, nat_lt, if◌then◌else◌, Bool, true, false, List, [], ◌∷◌, length, codes, Option, Some, None, Result, Ok, Err, refl, ap, ◌∙◌, arith}
use Rattle.std.specs.Prelude.{option_and_then}
use Rattle.std.specs.List.{list_all}
use Rattle.std.proofs.lemmas.Bool.{and_from, le-leb, ltb-false}
use Rattle.toml.specs.Data.{Data, Items, no_items, item, Members, as_array, as_str, as_table, get_member}
use Rattle.org_directory.specs.Register.{Register, place_of}
use Rattle.rule_terms.specs.Forms.{are_few, are_terms, is_field, is_line, is_low_domain, is_name, is_note, is_term, is_within, is_word}
use Rattle.rule_terms.specs.Lists.{and_then, both, count, each, each_from, made, or_bad}
use Rattle.rule_terms.specs.Parts.{as_formed, as_key, formed, formed_at, has_form, has_only, items_at, kept, keys_of, number_at, text_at}
use Rattle.rule_terms.specs.Terms.{as_side, at_by, few, field_words, group_at, groups_of, in_by, is_by, list_in, listed, on_by, shape_of, term_by, term_in, term_of, term_with, terms_at, test_of, values_at, values_in, words_at}
use Rattle.rule_terms.specs.declared.flaw.Flaw.{Flaw}
use Rattle.rule_terms.specs.declared.flaw.Flaw.TheVariants as flaws
use Rattle.rule_terms.specs.declared.form.Form.{Form}
use Rattle.rule_terms.specs.declared.form.Form.TheVariants as forms
use Rattle.rule_terms.specs.declared.read_term.Party.{Party}
use Rattle.rule_terms.specs.declared.read_term.Party.TheVariants as parties
use Rattle.rule_terms.specs.declared.read_term.Test.{Test}
use Rattle.rule_terms.specs.declared.read_term.Test.TheVariants as tests
use Rattle.rule_terms.specs.declared.term.Side.{Side}
use Rattle.rule_terms.specs.declared.term.Term.{Term}
use Rattle.rule_terms.specs.declared.term.Term.TheVariants as terms
use Rattle.rule_terms.proofs.KeptTexts.{ended_note, low_domain}

-- what is read, if it is, has a property
abbrev pub Gets : {X E : Type 0} → (X → Type 0) → Result X E → Type 0
Gets P (Ok x) = P x
Gets P (Err e) = Unit {0}

abbrev pub Finds : {X : Type 0} → (X → Type 0) → Option X → Type 0
Finds P (Some x) = P x
Finds P None = Unit {0}

pub gets-weaker : {X E : Type 0} (P Q : X → Type 0) → ((x : X) → P x → Q x) → (r : Result X E) → Gets P r → Gets Q r
gets-weaker P Q f (Ok x) h = f x h
gets-weaker P Q f (Err e) h = tt

pub gets-two : {X E : Type 0} (P Q : X → Type 0) (r : Result X E) → Gets P r → Gets Q r → Gets (λ x. P x × Q x) r
gets-two P Q (Ok x) a b = (a, b)
gets-two P Q (Err e) a b = tt

pub gets-if : {X E : Type 0} (P : X → Type 0) (b : Bool) (x : X) (e : E) → (b ≡ true → P x) → Gets P (if b then Ok x else Err e)
gets-if P true x e h = h refl
gets-if P false x e h = tt

pub gets-either : {X E : Type 0} (P : X → Type 0) (b : Bool) (r s : Result X E) → (b ≡ true → Gets P r) → (b ≡ false → Gets P s) → Gets P (if b then r else s)
gets-either P true r s f g = f refl
gets-either P false r s f g = g refl

pub gets-made : {X Y E : Type 0} (P : X → Type 0) (Q : Y → Type 0) (f : X → Y) → ((x : X) → P x → Q (f x)) → (r : Result X E) → Gets P r → Gets Q (made f r)
gets-made P Q f g (Ok x) h = g x h
gets-made P Q f g (Err e) h = tt

pub gets-then : {X Y E : Type 0} (P : X → Type 0) (Q : Y → Type 0) (f : X → Result Y E) → ((x : X) → P x → Gets Q (f x)) → (r : Result X E) → Gets P r → Gets Q (and_then r f)
gets-then P Q f g (Ok x) h = g x h
gets-then P Q f g (Err e) h = tt

pub gets-or_bad : {X : Type 0} (P : X → Type 0) (o : Option X) → Finds P o → Gets P (or_bad o)
gets-or_bad P (Some x) h = h
gets-or_bad P None h = tt

pub finds-if : {X : Type 0} (P : X → Type 0) (b : Bool) (x : X) → (b ≡ true → P x) → Finds P (if b then Some x else None)
finds-if P true x h = h refl
finds-if P false x h = tt

pub finds-then : {X Y : Type 0} (P : Y → Type 0) (f : X → Option Y) → ((x : X) → Finds P (f x)) → (o : Option X) → Finds P (option_and_then f o)
finds-then P f g (Some x) = g x
finds-then P f g None = tt

-- lists
both-all : {X E : Type 0} (p : X → Bool) (r : Result X E) (rs : Result (List X) E) → Gets (λ x. p x ≡ true) r → Gets (λ xs. list_all p xs ≡ true) rs → Gets (λ xs. list_all p xs ≡ true) (both r rs)
both-all p (Ok x) (Ok xs) a b = and_from (p x) (list_all p xs) a b
both-all p (Ok x) (Err e) a b = tt
both-all p (Err e) rs a b = tt

pub each-all : {X E : Type 0} (p : X → Bool) (read : Data → Result X E) → ((d : Data) → Gets (λ x. p x ≡ true) (read d)) → (ds : Items) → Gets (λ xs. list_all p xs ≡ true) (each read ds)
each-all p read h no_items = refl
each-all p read h (item d ds) = both-all p (read d) (each read ds) (h d) (each-all p read h ds)

pub each_from-all : {X E : Type 0} (p : X → Bool) (read : ℕ → Data → Result X E) → ((n : ℕ) (d : Data) → Gets (λ x. p x ≡ true) (read n d)) → (n : ℕ) (ds : Items)
    → Gets (λ xs. list_all p xs ≡ true) (each_from read n ds)
each_from-all p read h n no_items = refl
each_from-all p read h n (item d ds) = both-all p (read n d) (each_from read (n + 1) ds) (h n d) (each_from-all p read h (n + 1) ds)

both-length : {X E : Type 0} (n : ℕ) (r : Result X E) (rs : Result (List X) E) → Gets (λ xs. length xs ≡ n) rs → Gets (λ xs. length xs ≡ n + 1) (both r rs)
both-length n (Ok x) (Ok xs) h = omega (arith, h)
both-length n (Ok x) (Err e) h = tt
both-length n (Err e) rs h = tt

pub each-length : {X E : Type 0} (read : Data → Result X E) (ds : Items) → Gets (λ xs. length xs ≡ count ds) (each read ds)
each-length read no_items = refl
each-length read (item d ds) = both-length (count ds) (read d) (each read ds) (each-length read ds)

pub each_from-length : {X E : Type 0} (read : ℕ → Data → Result X E) (n : ℕ) (ds : Items) → Gets (λ xs. length xs ≡ count ds) (each_from read n ds)
each_from-length read n no_items = refl
each_from-length read n (item d ds) = both-length (count ds) (read n d) (each_from read (n + 1) ds) (each_from-length read (n + 1) ds)

-- texts
abbrev pub is_kept : Form → List ℕ → Bool
is_kept forms.Name text = is_name text
is_kept forms.Line text = is_line text
is_kept forms.Field text = is_field text
is_kept forms.Word text = is_word text
is_kept forms.Domain text = is_low_domain text
is_kept forms.Note text = is_note text

kept-form : (form : Form) (text : List ℕ) → has_form form text ≡ true → is_kept form (kept form text) ≡ true
kept-form forms.Name text h = h
kept-form forms.Line text h = h
kept-form forms.Field text h = h
kept-form forms.Word text h = h
kept-form forms.Domain text h = low_domain text h
kept-form forms.Note text h = ended_note text h

pub formed-form : (form : Form) (text : List ℕ) → Finds (λ t. is_kept form t ≡ true) (formed form text)
formed-form form text = finds-if (λ t. is_kept form t ≡ true) (has_form form text) (kept form text) (kept-form form text)

pub as_formed-form : (form : Form) (d : Data) → Finds (λ t. is_kept form t ≡ true) (as_formed form d)
as_formed-form form d = finds-then (λ t. is_kept form t ≡ true) (formed form) (formed-form form) (as_str d)

pub formed_at-form : (form : Form) (key : List ℕ) (ms : Members) → Finds (λ t. is_kept form t ≡ true) (formed_at form key ms)
formed_at-form form key ms = finds-then (λ t. is_kept form t ≡ true) (as_formed form) (as_formed-form form) (get_member key ms)

-- terms
abbrev pub AreFew : {X : Type 0} → List X → Type 0
AreFew xs = are_few xs ≡ true

abbrev pub IsTerm : Term → Type 0
IsTerm t = is_term t ≡ true

few-few : {X : Type 0} (r : Result (List X) Flaw) → Gets AreFew (few r)
few-few (Ok xs) = gets-if AreFew (are_few xs) xs flaws.Bad (λ (h : are_few xs ≡ true). h)
few-few (Err e) = tt

few-also : {X : Type 0} (P : List X → Type 0) (r : Result (List X) Flaw) → Gets P r → Gets P (few r)
few-also P (Ok xs) h = gets-if P (are_few xs) xs flaws.Bad (λ (_ : are_few xs ≡ true). h)
few-also P (Err e) h = tt

values-few : {X : Type 0} (read : Data → Option X) (o : Option Items) → Gets AreFew (values_in read o)
values-few read None = tt
values-few read (Some items) = few-few (each (λ d. or_bad (read d)) items)

values-all : {X : Type 0} (p : X → Bool) (read : Data → Option X) → ((d : Data) → Finds (λ x. p x ≡ true) (read d)) → (o : Option Items)
    → Gets (λ xs. list_all p xs ≡ true) (values_in read o)
values-all p read h None = tt
values-all p read h (Some items) =
    few-also (λ xs. list_all p xs ≡ true) (each (λ d. or_bad (read d)) items)
    (each-all p (λ d. or_bad (read d)) (λ d. gets-or_bad (λ x. p x ≡ true) (read d) (h d)) items)

values-good : {X : Type 0} (p : X → Bool) (read : Data → Option X) → ((d : Data) → Finds (λ x. p x ≡ true) (read d)) → (o : Option Items)
    → Gets (λ xs. (are_few xs && list_all p xs) ≡ true) (values_in read o)
values-good p read h o =
    gets-weaker (λ xs. AreFew xs × (list_all p xs ≡ true)) (λ xs. (are_few xs && list_all p xs) ≡ true)
    (λ xs parts. and_from (are_few xs) (list_all p xs) parts.0 parts.1) (values_in read o)
    (gets-two AreFew (λ xs. list_all p xs ≡ true) (values_in read o) (values-few read o) (values-all p read h o))

groups-length : (reg : Register) (keys : List (List ℕ)) → Gets (λ gs. length gs ≡ length keys) (groups_of reg keys)
groups-length reg [] = refl
groups-length reg (key ∷ keys) = more (group_at reg (place_of reg key)) (groups_of reg keys) (groups-length reg keys)
  where
    more : (r : Result ℕ Flaw) (rs : Result (List ℕ) Flaw) → Gets (λ gs. length gs ≡ length keys) rs → Gets (λ gs. length gs ≡ length (key ∷ keys)) (both r rs)
    more (Ok x) (Ok xs) h = omega (arith, h)
    more (Ok x) (Err e) h = tt
    more (Err e) rs h = tt

groups-few : (reg : Register) (keys : List (List ℕ)) → are_few keys ≡ true → Gets AreFew (groups_of reg keys)
groups-few reg keys few =
    gets-weaker (λ gs. length gs ≡ length keys) AreFew (λ gs same. ap (is_within 1 100) same ∙ few) (groups_of reg keys) (groups-length reg keys)

words-good : (ms : Members) → Gets (λ ws. (are_few ws && list_all is_word ws) ≡ true) (words_at ms)
words-good ms = values-good is_word (as_formed forms.Word) (as_formed-form forms.Word) (items_at (codes "values") ms)

field_words-form : (field : Option (List ℕ)) (words : Result (List (List ℕ)) Flaw) → Finds (λ f. is_field f ≡ true) field
    → Gets (λ ws. (are_few ws && list_all is_word ws) ≡ true) words → Gets IsTerm (field_words field words)
field_words-form (Some field) (Ok words) f w = and_from (is_field field) (are_few words && list_all is_word words) f w
field_words-form (Some field) (Err e) f w = tt
field_words-form None words f w = tt

is_by-form : (party : Party) (keys : List (List ℕ)) → AreFew keys → IsTerm (is_by party keys)
is_by-form parties.Sender keys h = h
is_by-form parties.Recipient keys h = h

in_by-form : (party : Party) (groups : List ℕ) → AreFew groups → IsTerm (in_by party groups)
in_by-form parties.Sender groups h = h
in_by-form parties.Recipient groups h = h

on_by-form : (party : Party) (sides : List Side) → AreFew sides → IsTerm (on_by party sides)
on_by-form parties.Sender sides h = h
on_by-form parties.Recipient sides h = h

at_by-form : (party : Party) (domains : List (List ℕ)) → (are_few domains && list_all is_low_domain domains) ≡ true → IsTerm (at_by party domains)
at_by-form parties.Sender domains h = h
at_by-form parties.Recipient domains h = h

term_by-form : (reg : Register) (ms : Members) (test : Test) → Gets IsTerm (term_by reg ms test)
term_by-form reg ms (tests.Is party) =
    gets-made AreFew IsTerm (is_by party) (is_by-form party) (values_at as_key ms) (values-few as_key (items_at (codes "values") ms))
term_by-form reg ms (tests.InGroup party) =
    gets-made AreFew IsTerm (in_by party) (in_by-form party) (and_then (values_at as_key ms) (groups_of reg))
    (gets-then AreFew AreFew (groups_of reg) (groups-few reg) (values_at as_key ms) (values-few as_key (items_at (codes "values") ms)))
term_by-form reg ms (tests.OnSide party) =
    gets-made AreFew IsTerm (on_by party) (on_by-form party) (values_at as_side ms) (values-few as_side (items_at (codes "values") ms))
term_by-form reg ms (tests.AtDomain party) =
    gets-made (λ ds. (are_few ds && list_all is_low_domain ds) ≡ true) IsTerm (at_by party) (at_by-form party) (values_at (as_formed forms.Domain) ms)
    (values-good is_low_domain (as_formed forms.Domain) (as_formed-form forms.Domain) (items_at (codes "values") ms))
term_by-form reg ms tests.SubjectWords =
    gets-made (λ ws. (are_few ws && list_all is_word ws) ≡ true) IsTerm (λ words. terms.SubjectWords words) (λ words h. h) (words_at ms) (words-good ms)
term_by-form reg ms tests.TextWords =
    gets-made (λ ws. (are_few ws && list_all is_word ws) ≡ true) IsTerm (λ words. terms.TextWords words) (λ words h. h) (words_at ms) (words-good ms)
term_by-form reg ms tests.FieldWords =
    field_words-form (formed_at forms.Field (codes "field") ms) (words_at ms) (formed_at-form forms.Field (codes "field") ms) (words-good ms)
term_by-form reg ms tests.FieldPresent =
    gets-made (λ f. is_field f ≡ true) IsTerm (λ field. terms.FieldPresent field) (λ field h. h) (or_bad (formed_at forms.Field (codes "field") ms))
    (gets-or_bad (λ f. is_field f ≡ true) (formed_at forms.Field (codes "field") ms) (formed_at-form forms.Field (codes "field") ms))
term_by-form reg ms tests.SizeAtLeast = size (number_at (codes "bytes") ms)
  where
    size : (o : Option ℕ) → Gets IsTerm (made (λ bytes. terms.SizeAtLeast bytes) (or_bad o))
    size (Some n) = refl
    size None = tt

term_with-form : (reg : Register) (ms : Members) (o : Option Test) → Gets IsTerm (term_with reg ms o)
term_with-form reg ms None = tt
term_with-form reg ms (Some test) =
    gets-either IsTerm (has_only (keys_of (shape_of test)) ms) (term_by reg ms test) (Err flaws.Bad)
    (λ (_ : has_only (keys_of (shape_of test)) ms ≡ true). term_by-form reg ms test) (λ (_ : has_only (keys_of (shape_of test)) ms ≡ false). tt)

term_in-form : (reg : Register) (o : Option Members) → Gets IsTerm (term_in reg o)
term_in-form reg None = tt
term_in-form reg (Some ms) = term_with-form reg ms (option_and_then test_of (text_at (codes "test") ms))

pub term_of-form : (reg : Register) (d : Data) → Gets IsTerm (term_of reg d)
unfolding term_of
term_of-form reg d = term_in-form reg (as_table d)

abbrev pub AreTerms : List Term → Type 0
AreTerms ts = are_terms ts ≡ true

list_in-form : (reg : Register) (o : Option Items) → Gets AreTerms (list_in reg o)
list_in-form reg None = tt
list_in-form reg (Some items) =
    gets-either AreTerms (nat_lt 16 (count items)) (Err flaws.Bad) (each (term_of reg) items) (λ (_ : nat_lt 16 (count items) ≡ true). tt)
    (λ (few : nat_lt 16 (count items) ≡ false).
    gets-weaker (λ ts. (length ts ≡ count items) × (list_all is_term ts ≡ true)) AreTerms
    (λ ts parts. and_from (nat_le (length ts) 16) (list_all is_term ts) (ap (λ n. nat_le n 16) parts.0 ∙ le-leb (count items) 16 (ltb-false 16 (count items) few)) parts.1)
    (each (term_of reg) items)
    (gets-two (λ ts. length ts ≡ count items) (λ ts. list_all is_term ts ≡ true) (each (term_of reg) items)
    (each-length (term_of reg) items) (each-all is_term (term_of reg) (term_of-form reg) items)))

listed-form : (reg : Register) (o : Option Data) → Gets AreTerms (listed reg o)
listed-form reg None = refl
listed-form reg (Some d) = list_in-form reg (as_array d)

pub terms_at-form : (reg : Register) (key : List ℕ) (ms : Members) → Gets AreTerms (terms_at reg key ms)
unfolding terms_at
terms_at-form reg key ms = listed-form reg (get_member key ms)
