-- Fields by their names (RFC 9110 section 5.1), and the length of a body that they tell (RFC 9112 section 6.2).
use Rattle.std.specs.Prelude.{ℕ, ◌&&◌, Bool, if◌then◌else◌, nat_lt, nat_le, bytes_eq, List, [], ◌∷◌, length, Option, Some, None}
use Rattle.std.specs.List.{list_all}
use Rattle.std.specs.Str.{all_ascii_digits}
use Rattle.std.specs.Str.Parse.{digits_value}
use Rattle.mail_names.specs.Key.{lower}
use Rattle.http_head.specs.declared.fields.BodyLength.{BodyLength}
use Rattle.http_head.specs.declared.fields.BodyLength.TheVariants as lengths

-- the same name: ASCII case doesn't matter
abbrev pub same_name : List ℕ → List ℕ → Bool
same_name text name = bytes_eq (lower text) (lower name)

-- a field's name, and its value without the spaces and tabs at its ends
abbrev pub NamedValue : Type 0
NamedValue = List ℕ × List ℕ

-- the values of the fields with this name, in their order
abbrev pub values_of : List ℕ → List NamedValue → List (List ℕ)
values_of name [] = []
values_of name (field ∷ fields) = if same_name field.0 name then field.1 ∷ values_of name fields else values_of name fields

abbrev pub first_value : List (List ℕ) → Option (List ℕ)
first_value [] = None
first_value (value ∷ values) = Some value

-- 1 to 9 digits
abbrev pub is_length_text : List ℕ → Bool
is_length_text value = nat_lt 0 (length value) && (nat_le (length value) 9 && all_ascii_digits value)

abbrev pub length_where : Bool → List ℕ → BodyLength
length_where good value = if good then lengths.Known (digits_value 10 value) else lengths.Bad

-- What values of Content-Length say: nothing, a number, or no one number of 1 to 9 digits. They are the same where
-- their texts are, so 5 and 05 differ.
abbrev pub body_length : List (List ℕ) → BodyLength
body_length [] = lengths.Absent
body_length (value ∷ values) = length_where (is_length_text value && list_all (bytes_eq value) values) value
