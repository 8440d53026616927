-- What a term of a rules file reads to.
use Rattle.std.specs.Prelude.{ℕ, if◌then◌else◌, List, [], ◌∷◌, codes, nat_lt, slice_get, Option, Some, None, option_and_then, Result, Ok, Err}
use Rattle.std.specs.Str.{bytes_eq}
use Rattle.toml.specs.Data.{Data, Items, Members, get_member, as_array, as_str, as_table}
use Rattle.org_directory.specs.Register.{Register, place_of, is_group}
use Rattle.org_directory.specs.declared.object.Object.{Object}
use Rattle.rule_terms.specs.Forms.{are_few}
use Rattle.rule_terms.specs.Lists.{both, count, each, made, or_bad, and_then}
use Rattle.rule_terms.specs.Parts.{as_formed, as_key, formed_at, has_only, items_at, keys_of, number_at, text_at}
use Rattle.rule_terms.specs.declared.flaw.Flaw.{Flaw}
use Rattle.rule_terms.specs.declared.flaw.Flaw.TheVariants as flaws
use Rattle.rule_terms.specs.declared.form.Form.TheVariants as forms
use Rattle.rule_terms.specs.declared.shape.Shape.{Shape}
use Rattle.rule_terms.specs.declared.shape.Shape.TheVariants as shapes
use Rattle.rule_terms.specs.declared.read_term.Party.{Party}
use Rattle.rule_terms.specs.declared.read_term.Party.TheVariants as parties
use Rattle.rule_terms.specs.declared.read_term.Test.{Test}
use Rattle.rule_terms.specs.declared.read_term.Test.TheVariants as tests
use Rattle.rule_terms.specs.declared.term.Side.{Side}
use Rattle.rule_terms.specs.declared.term.Side.TheVariants as sides
use Rattle.rule_terms.specs.declared.term.Term.{Term}
use Rattle.rule_terms.specs.declared.term.Term.TheVariants as terms

-- a test of the sender or the recipient
abbrev pub party_test : List ℕ → Option Test
party_test word =
    if bytes_eq word (codes "sender-is") then Some (tests.Is parties.Sender)
    else (if bytes_eq word (codes "recipient-is") then Some (tests.Is parties.Recipient)
    else (if bytes_eq word (codes "sender-in-group") then Some (tests.InGroup parties.Sender)
    else (if bytes_eq word (codes "recipient-in-group") then Some (tests.InGroup parties.Recipient)
    else (if bytes_eq word (codes "sender-scope") then Some (tests.OnSide parties.Sender)
    else (if bytes_eq word (codes "recipient-scope") then Some (tests.OnSide parties.Recipient)
    else (if bytes_eq word (codes "sender-domain") then Some (tests.AtDomain parties.Sender)
    else (if bytes_eq word (codes "recipient-domain") then Some (tests.AtDomain parties.Recipient) else None)))))))

-- a test of the message
abbrev pub message_test : List ℕ → Option Test
message_test word =
    if bytes_eq word (codes "subject-words") then Some tests.SubjectWords
    else (if bytes_eq word (codes "subject-or-body-words") then Some tests.TextWords
    else (if bytes_eq word (codes "field-words") then Some tests.FieldWords
    else (if bytes_eq word (codes "field-present") then Some tests.FieldPresent
    else (if bytes_eq word (codes "size-at-least") then Some tests.SizeAtLeast else None))))

-- the first that there is
abbrev pub or_else : {X : Type 0} → Option X → Option X → Option X
or_else (Some x) other = Some x
or_else None other = other

-- the test that a word names
abbrev pub test_of : List ℕ → Option Test
test_of word = or_else (party_test word) (message_test word)

-- the keys of a term of this test
abbrev pub shape_of : Test → Shape
shape_of (tests.Is party) = shapes.Values
shape_of (tests.InGroup party) = shapes.Values
shape_of (tests.OnSide party) = shapes.Values
shape_of (tests.AtDomain party) = shapes.Values
shape_of tests.SubjectWords = shapes.Values
shape_of tests.TextWords = shapes.Values
shape_of tests.FieldWords = shapes.FieldValues
shape_of tests.FieldPresent = shapes.Presence
shape_of tests.SizeAtLeast = shapes.Size

-- the values, if there are 1 to 100
abbrev pub few : {X : Type 0} → Result (List X) Flaw → Result (List X) Flaw
few (Ok xs) = if are_few xs then Ok xs else Err flaws.Bad
few (Err e) = Err e

-- the values of these items, each read so
abbrev pub values_in : {X : Type 0} → (Data → Option X) → Option Items → Result (List X) Flaw
values_in read None = Err flaws.Bad
values_in read (Some items) = few (each (λ d. or_bad (read d)) items)

-- the 1 to 100 values of a term, each read so
abbrev pub values_at : {X : Type 0} → (Data → Option X) → Members → Result (List X) Flaw
values_at read ms = values_in read (items_at (codes "values") ms)

-- the side that a word names
abbrev pub side_in : List ℕ → Option Side
side_in word =
    if bytes_eq word (codes "inside") then Some sides.Inside else (if bytes_eq word (codes "outside") then Some sides.Outside else None)

-- a text that names a side
abbrev pub as_side : Data → Option Side
as_side d = option_and_then side_in (as_str d)

-- the place, if a group stands there
abbrev pub if_group : ℕ → Option Object → Result ℕ Flaw
if_group place None = Err flaws.Unknown
if_group place (Some o) = if is_group o.kind then Ok place else Err flaws.Unknown

-- a place of a group
abbrev pub group_at : Register → Option ℕ → Result ℕ Flaw
group_at reg None = Err flaws.Unknown
group_at reg (Some place) = if_group place (slice_get reg.objects place)

-- the places of the groups of these keys
abbrev pub groups_of : Register → List (List ℕ) → Result (List ℕ) Flaw
groups_of reg [] = Ok []
groups_of reg (key ∷ keys) = both (group_at reg (place_of reg key)) (groups_of reg keys)

-- the term that the sender or the recipient is one of these keys
abbrev pub is_by : Party → List (List ℕ) → Term
is_by parties.Sender keys = terms.SenderIs keys
is_by parties.Recipient keys = terms.RecipientIs keys

-- the term that the sender or the recipient is in one of these groups
abbrev pub in_by : Party → List ℕ → Term
in_by parties.Sender groups = terms.SenderIn groups
in_by parties.Recipient groups = terms.RecipientIn groups

-- the term that the sender or the recipient is on one of these sides
abbrev pub on_by : Party → List Side → Term
on_by parties.Sender sides = terms.SenderScope sides
on_by parties.Recipient sides = terms.RecipientScope sides

-- the term that the sender or the recipient has one of these domains
abbrev pub at_by : Party → List (List ℕ) → Term
at_by parties.Sender domains = terms.SenderDomain domains
at_by parties.Recipient domains = terms.RecipientDomain domains

-- the words of a term
abbrev pub words_at : Members → Result (List (List ℕ)) Flaw
words_at ms = values_at (as_formed forms.Word) ms

-- a field and words to be found in it, of which the field is judged first
abbrev pub field_words : Option (List ℕ) → Result (List (List ℕ)) Flaw → Result Term Flaw
field_words (Some field) (Ok words) = Ok (terms.FieldWords field words)
field_words (Some field) (Err e) = Err e
field_words None words = Err flaws.Bad

-- the term of this test, by its other keys
abbrev pub term_by : Register → Members → Test → Result Term Flaw
term_by reg ms (tests.Is party) = made (is_by party) (values_at as_key ms)
term_by reg ms (tests.InGroup party) = made (in_by party) (and_then (values_at as_key ms) (groups_of reg))
term_by reg ms (tests.OnSide party) = made (on_by party) (values_at as_side ms)
term_by reg ms (tests.AtDomain party) = made (at_by party) (values_at (as_formed forms.Domain) ms)
term_by reg ms tests.SubjectWords = made (λ words. terms.SubjectWords words) (words_at ms)
term_by reg ms tests.TextWords = made (λ words. terms.TextWords words) (words_at ms)
term_by reg ms tests.FieldWords = field_words (formed_at forms.Field (codes "field") ms) (words_at ms)
term_by reg ms tests.FieldPresent = made (λ field. terms.FieldPresent field) (or_bad (formed_at forms.Field (codes "field") ms))
term_by reg ms tests.SizeAtLeast = made (λ bytes. terms.SizeAtLeast bytes) (or_bad (number_at (codes "bytes") ms))

-- the term of the test that was named, if it has its keys alone
abbrev pub term_with : Register → Members → Option Test → Result Term Flaw
term_with reg ms None = Err flaws.Bad
term_with reg ms (Some test) = if has_only (keys_of (shape_of test)) ms then term_by reg ms test else Err flaws.Bad

-- the term that a table says
abbrev pub term_in : Register → Option Members → Result Term Flaw
term_in reg None = Err flaws.Bad
term_in reg (Some ms) = term_with reg ms (option_and_then test_of (text_at (codes "test") ms))

-- The term that a value reads to, or its flaw: Bad where it hasn't the form, and else Unknown where a value of it is no group.
unfoldable pub term_of : Register → Data → Result Term Flaw
term_of reg d = term_in reg (as_table d)

-- the terms of an array of at most 16
abbrev pub list_in : Register → Option Items → Result (List Term) Flaw
list_in reg None = Err flaws.Bad
list_in reg (Some items) = if nat_lt 16 (count items) then Err flaws.Bad else each (term_of reg) items

-- the terms of a list, of which there are none where it is missing
abbrev pub listed : Register → Option Data → Result (List Term) Flaw
listed reg None = Ok []
listed reg (Some d) = list_in reg (as_array d)

-- the terms of a list, which has at most 16 and may be missing
unfoldable pub terms_at : Register → List ℕ → Members → Result (List Term) Flaw
terms_at reg key ms = listed reg (get_member key ms)
