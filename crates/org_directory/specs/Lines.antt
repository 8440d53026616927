-- What a record of a directory file says, where it has the form.
use Rattle.std.specs.Prelude.{◌≡◌, ℕ, ◌==◌, nat_lt, Bool, true, false, not, ◌&&◌, ◌||◌, if◌then◌else◌, List, [], ◌∷◌, ◌++◌, length, codes, unwrap_or, Option, Some, None, Result, Ok, Err}
use Rattle.std.specs.List.{list_all}
use Rattle.std.specs.Str.{bytes_eq}
use Rattle.csv.specs.Records.{field_at}
use Rattle.mail_names.specs.Key.{key_of, is_empty, is_key_byte, lower}
use Rattle.mail_names.specs.declared.key.NameFault.{NameFault}
use Rattle.org_directory.specs.Register.{among, is_group, is_mailbox}
use Rattle.org_directory.specs.declared.draft.Line.{Line}
use Rattle.org_directory.specs.declared.draft.Lists.{Lists}
use Rattle.org_directory.specs.declared.draft.Words.{Words}
use Rattle.org_directory.specs.declared.draft.Line.TheVariants as lines
use Rattle.org_directory.specs.declared.object.Kind.{Kind}
use Rattle.org_directory.specs.declared.object.Kind.TheVariants as kinds
use Rattle.moderation.specs.declared.tell.Tell.{Tell}
use Rattle.moderation.specs.declared.tell.Tell.TheVariants as tells

-- the field at a place, or no bytes
abbrev pub column : List (List ℕ) → ℕ → List ℕ
column fields k = unwrap_or (field_at fields k) []

-- whether mail is kept; a file without forwards has no such column, and keeps none
abbrev pub keep_word : List (List ℕ) → List ℕ
keep_word fields = unwrap_or (field_at fields 9) (codes "no")

-- the key, where reading gave one
abbrev pub if_ok : Result (List ℕ) NameFault → Option (List ℕ)
if_ok (Ok key) = Some key
if_ok (Err e) = None

-- the key that a text reads to, if it reads to one
abbrev pub key_in : List ℕ → Option (List ℕ)
key_in text = if_ok (key_of text)

-- the parts between single spaces, of which the first begins with these bytes
abbrev pub parts_from : List ℕ → List ℕ → List (List ℕ)
parts_from part [] = part ∷ []
parts_from part (b ∷ bs) = if b == 32 then part ∷ parts_from [] bs else parts_from (part ++ b ∷ []) bs

-- one more key, unless it is there
abbrev pub one_more : List (List ℕ) → Option (List ℕ) → Option (List (List ℕ))
one_more keys None = None
one_more keys (Some key) = if among key keys then None else Some (keys ++ key ∷ [])

-- the keys that the parts read to, behind these, none twice
abbrev pub keys_from : Option (List (List ℕ)) → List (List ℕ) → Option (List (List ℕ))
keys_from None parts = None
keys_from (Some keys) [] = Some keys
keys_from (Some keys) (part ∷ parts) = keys_from (one_more keys (key_in part)) parts

-- A list is keys separated by single spaces, or empty, and names no key twice.
abbrev pub keys_in : List ℕ → Option (List (List ℕ))
keys_in text = if is_empty text then Some [] else keys_from (Some []) (parts_from [] text)

-- the kind that a text spells
abbrev pub kind_in : List ℕ → Option Kind
kind_in text =
    if bytes_eq text (codes "mailbox") then Some kinds.Mailbox
    else (if bytes_eq text (codes "contact") then Some kinds.Contact
    else (if bytes_eq text (codes "group") then Some kinds.Group else None))

-- which senders are told of a refusal, as a text spells it
abbrev pub tell_in : List ℕ → Option Tell
tell_in text =
    if bytes_eq text (codes "always") then Some tells.Always
    else (if bytes_eq text (codes "internal") then Some tells.Internal
    else (if bytes_eq text (codes "never") then Some tells.Never else None))

-- a text that says yes or no
abbrev pub answer_in : List ℕ → Option Bool
answer_in text = if bytes_eq text (codes "yes") then Some true else (if bytes_eq text (codes "no") then Some false else None)

-- a byte of a key, but no @
abbrev pub is_name_byte : ℕ → Bool
is_name_byte b = is_key_byte b && not (b == 64)

-- 1 to 252 such bytes
abbrev pub is_domain_name : List ℕ → Bool
is_domain_name text = not (is_empty text) && (not (nat_lt 252 (length text)) && list_all is_name_byte text)

-- empty lists, `no` and `always`, and no forward
abbrev pub says_nothing : List (List ℕ) → Bool
says_nothing fields =
    is_empty (column fields 2) && (is_empty (column fields 3) && (bytes_eq (column fields 4) (codes "no")
    && (is_empty (column fields 5) && (is_empty (column fields 6) && (bytes_eq (column fields 7) (codes "always")
    && (is_empty (column fields 8) && bytes_eq (keep_word fields) (codes "no")))))))

-- the record of an accepted domain, which says nothing else
abbrev pub domain_in : List (List ℕ) → Option Line
domain_in fields =
    if is_domain_name (column fields 0) && says_nothing fields then Some (lines.Domain (lower (column fields 0))) else None

abbrev pub has_none : List (List ℕ) → Bool
has_none [] = true
has_none (k ∷ ks) = false

-- A mailbox alone forwards, to one key, and what doesn't forward doesn't keep.
abbrev pub may_forward : Kind → ℕ → Bool → Bool
may_forward kind keys keep = if keys == 0 then not keep else ((keys == 1) && is_mailbox kind)

-- A group alone has members, moderators are at most 10, and a mailbox alone forwards.
abbrev pub fits : Kind → List (List ℕ) → List (List ℕ) → List (List ℕ) → Bool → Bool
fits kind members moderators forward keep =
    (is_group kind || has_none members) && (not (nat_lt 10 (length moderators)) && may_forward kind (length forward) keep)

-- the words of an object's record, where each has its form
abbrev pub words_of : Option Kind → Option Bool → Option Tell → Option Bool → Option Words
words_of (Some kind) (Some moderated) (Some tell) (Some keep) = Some (record { kind = kind; moderated = moderated; tell = tell; keep = keep })
words_of a b c d = None

-- and its lists
abbrev pub lists_of :
    Option (List (List ℕ)) → Option (List (List ℕ)) → Option (List (List ℕ)) → Option (List (List ℕ)) → Option (List (List ℕ)) → Option Lists
lists_of (Some members) (Some owners) (Some moderators) (Some bypass) (Some forward) =
    Some (record { members = members; owners = owners; moderators = moderators; bypass = bypass; forward = forward })
lists_of a b c d e = None

-- the object, where all have their form and the lists fit its kind
abbrev pub object_in : ℕ → Option (List ℕ) → Option Words → Option Lists → Option Line
object_in row (Some key) (Some words) (Some lists) =
    if fits words.kind lists.members lists.moderators lists.forward words.keep
    then Some (lines.Object (record {
      row = row;
      key = key;
      kind = words.kind;
      members = lists.members;
      owners = lists.owners;
      moderated = words.moderated;
      moderators = lists.moderators;
      bypass = lists.bypass;
      tell = words.tell;
      forward = lists.forward;
      keep = words.keep;
    }))
    else None
object_in row a b c = None

-- what an object's record says
abbrev pub object_line : ℕ → List (List ℕ) → Option Line
object_line row fields =
    object_in row (key_in (column fields 0))
    (words_of (kind_in (column fields 1)) (answer_in (column fields 4)) (tell_in (column fields 7)) (answer_in (keep_word fields)))
    (lists_of (keys_in (column fields 2)) (keys_in (column fields 3)) (keys_in (column fields 5)) (keys_in (column fields 6)) (keys_in (column fields 8)))

-- what the record says, or None where it hasn't the form or not so many columns
abbrev pub line_of : ℕ → ℕ → List (List ℕ) → Option Line
line_of columns row fields =
    if length fields == columns then (if bytes_eq (column fields 1) (codes "domain") then domain_in fields else object_line row fields) else None

-- the names of the eight columns that every file has
abbrev pub names_eight : List (List ℕ) → Bool
names_eight fields =
    bytes_eq (column fields 0) (codes "key") && (bytes_eq (column fields 1) (codes "kind")
    && (bytes_eq (column fields 2) (codes "members") && (bytes_eq (column fields 3) (codes "owners") && (bytes_eq (column fields 4) (codes "moderated")
    && (bytes_eq (column fields 5) (codes "moderators") && (bytes_eq (column fields 6) (codes "bypass") && bytes_eq (column fields 7) (codes "tell")))))))

-- ten columns, of which the last two are those of forwards
abbrev pub names_ten : List (List ℕ) → Bool
names_ten fields = (length fields == 10) && (bytes_eq (column fields 8) (codes "forward") && bytes_eq (column fields 9) (codes "keep"))

-- The first record is a header: of eight columns, or of ten in a file with forwards.
abbrev pub columns_of : List (List ℕ) → Option ℕ
columns_of fields =
    if not (names_eight fields) then None
    else (if length fields == 8 then Some 8 else (if names_ten fields then Some 10 else None))

-- A key was added, or there was none to add.
abbrev pub Adds : Bool → Option (List (List ℕ)) → List (List ℕ) → Type 0
Adds true more keys = more ≡ Some keys
Adds false more keys = more ≡ None
