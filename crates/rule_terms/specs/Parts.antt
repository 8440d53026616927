-- What the keys of a table hold, where they hold what is asked for.
use Rattle.std.specs.Prelude.{ℕ, ℤ, pos, negsuc, ◌/◌, ◌==◌, Bool, true, not, ◌&&◌, if◌then◌else◌, List, [], ◌∷◌, ◌++◌, length, codes, Option, Some, None, option_map, option_and_then, Result, Ok, Err}
use Rattle.toml.specs.Data.{Data, Items, Members, no_members, member, get_member, as_array, as_bool, as_integer, as_str}
use Rattle.jiff.specs.Words.{Error, parse_timestamp}
use Rattle.mail_names.specs.Key.{lower}
use Rattle.org_directory.specs.Lines.{key_in}
use Rattle.org_directory.specs.Register.{among}
use Rattle.rule_terms.specs.Forms.{has_no_nul, is_domain, is_field, is_line, is_name, is_within, is_word}
use Rattle.rule_terms.specs.declared.form.Form.{Form}
use Rattle.rule_terms.specs.declared.form.Form.TheVariants as forms
use Rattle.rule_terms.specs.declared.shape.Shape.{Shape}
use Rattle.rule_terms.specs.declared.shape.Shape.TheVariants as shapes

-- the keys of each kind of table
abbrev pub keys_of : Shape → List (List ℕ)
keys_of shapes.Top = codes "rule" ∷ codes "journal" ∷ []
keys_of shapes.Rule =
    codes "name" ∷ codes "enabled" ∷ codes "from" ∷ codes "until" ∷ codes "stop" ∷ codes "when" ∷ codes "unless" ∷ codes "do" ∷ []
keys_of shapes.Journal = codes "name" ∷ codes "scope" ∷ codes "recipient" ∷ codes "mailbox" ∷ []
keys_of shapes.Values = codes "test" ∷ codes "values" ∷ []
keys_of shapes.FieldValues = codes "test" ∷ codes "field" ∷ codes "values" ∷ []
keys_of shapes.Presence = codes "test" ∷ codes "field" ∷ []
keys_of shapes.Size = codes "test" ∷ codes "bytes" ∷ []
keys_of shapes.Text = codes "act" ∷ codes "text" ∷ []
keys_of shapes.FieldText = codes "act" ∷ codes "field" ∷ codes "text" ∷ []
keys_of shapes.Removal = codes "act" ∷ codes "field" ∷ []
keys_of shapes.Target = codes "act" ∷ codes "to" ∷ []
keys_of shapes.Disclaimer = codes "act" ∷ codes "place" ∷ codes "text" ∷ codes "fallback" ∷ []
keys_of shapes.Rejection = codes "act" ∷ codes "code" ∷ codes "text" ∷ []
keys_of shapes.Approval = codes "act" ∷ codes "by" ∷ []

-- a table has no other keys
abbrev pub has_only : List (List ℕ) → Members → Bool
has_only keys no_members = true
has_only keys (member key d ms) = among key keys && has_only keys ms

-- the text of a key
abbrev pub text_at : List ℕ → Members → Option (List ℕ)
text_at key ms = option_and_then as_str (get_member key ms)

-- the items of a key that holds an array
abbrev pub items_at : List ℕ → Members → Option Items
items_at key ms = option_and_then as_array (get_member key ms)

-- what stands there, if anything does
abbrev pub optional : {X : Type 0} → (Data → Option X) → Option Data → Option (Option X)
optional read None = Some None
optional read (Some d) = option_map (λ x. Some x) (read d)

-- a flag, or the usual one where nothing stands
abbrev pub flag_or : Bool → Option Data → Option Bool
flag_or usual None = Some usual
flag_or usual (Some d) = as_bool d

-- the flag of a key, which may be missing
abbrev pub flag_at : List ℕ → Bool → Members → Option Bool
flag_at key usual ms = flag_or usual (get_member key ms)

-- a number that isn't below 0
abbrev pub whole : Option ℤ → Option ℕ
whole None = None
whole (Some (pos n)) = Some n
whole (Some (negsuc n)) = None

-- a whole number from 0
abbrev pub number_at : List ℕ → Members → Option ℕ
number_at key ms = whole (option_and_then as_integer (get_member key ms))

-- whole seconds, of nanoseconds since 1970
abbrev pub seconds : Result ℤ Error → Option ℕ
seconds (Ok (pos n)) = Some (n / 1000000000)
seconds (Ok (negsuc n)) = None
seconds (Err e) = None

-- a text of an instant that isn't before 1970
abbrev pub as_moment : Data → Option ℕ
as_moment d = option_and_then (λ text. seconds (parse_timestamp text)) (as_str d)

-- the moment of a key, which may be missing
abbrev pub moment_at : List ℕ → Members → Option (Option ℕ)
moment_at key ms = optional as_moment (get_member key ms)

-- a text that reads to a key
abbrev pub as_key : Data → Option (List ℕ)
as_key d = option_and_then key_in (as_str d)

-- the key that stands at a key of the table
abbrev pub key_at : List ℕ → Members → Option (List ℕ)
key_at key ms = option_and_then as_key (get_member key ms)

-- whether a text has a form
abbrev pub has_form : Form → List ℕ → Bool
has_form forms.Name text = is_name text
has_form forms.Line text = is_line text
has_form forms.Field text = is_field text
has_form forms.Word text = is_word text
has_form forms.Domain text = is_domain text
has_form forms.Note text = is_within 1 4096 (length text) && has_no_nul text

-- a byte that follows another: a LF gets a CR before it, unless it has one
abbrev pub ended_byte : ℕ → ℕ → List ℕ
ended_byte before b = if b == 10 && not (before == 13) then 13 ∷ 10 ∷ [] else b ∷ []

-- the text that follows a byte, with CRLF at the end of each line
abbrev pub ended_from : ℕ → List ℕ → List ℕ
ended_from before [] = []
ended_from before (b ∷ bs) = ended_byte before b ++ ended_from b bs

-- the text as it is kept: domains in lower case, and each line of a disclaimer with CRLF at its end
abbrev pub kept : Form → List ℕ → List ℕ
kept forms.Name text = text
kept forms.Line text = text
kept forms.Field text = text
kept forms.Word text = text
kept forms.Domain text = lower text
kept forms.Note text = ended_from 0 text

-- a text of a form, as it is kept
abbrev pub formed : Form → List ℕ → Option (List ℕ)
formed form text = if has_form form text then Some (kept form text) else None

-- a text of a form
abbrev pub as_formed : Form → Data → Option (List ℕ)
as_formed form d = option_and_then (formed form) (as_str d)

-- the text of a form at a key, as it is kept
abbrev pub formed_at : Form → List ℕ → Members → Option (List ℕ)
formed_at form key ms = option_and_then (as_formed form) (get_member key ms)
