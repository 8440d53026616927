-- How a message's fields are told apart.
use Rattle.std.specs.Prelude.{ℕ, ◌+◌, ◌==◌, ◌&&◌, not, Bool, false, if◌then◌else◌, List, [], ◌∷◌, Option, Some, None}
use Rattle.std.specs.List.{flat_map}
use Rattle.mail_message.specs.Lines.{is_continuation}
use Rattle.mail_message.specs.Message.{Mail, field_of}
use Rattle.pickup_box.specs.Addresses.{addresses}

-- the message of this field alone, with no body
abbrev pub alone : List ℕ → Mail
alone raw = record { fields = raw ∷ []; body = [] }

-- an LF that no space or tab follows
abbrev pub ends_line : List ℕ → Bool
ends_line [] = false
ends_line (b ∷ bs) = b == 10 && not (is_continuation bs)

-- a CRLF that no space or tab follows
abbrev pub ends_field : List ℕ → Bool
ends_field [] = false
ends_field (b ∷ bs) = b == 13 && ends_line bs

-- how many bytes the first field has, its last CRLF among them
abbrev pub field_len : List ℕ → ℕ
field_len [] = 0
field_len (b ∷ bs) = if ends_field (b ∷ bs) then 2 else field_len bs + 1

abbrev pub addresses_in : Option (List ℕ) → List (List ℕ)
addresses_in None = []
addresses_in (Some value) = addresses value

-- the addresses in the first field of this name
abbrev pub first_addresses : List ℕ → Mail → List (List ℕ)
first_addresses name m = addresses_in (field_of name m)

-- the addresses in fields that stand alone
abbrev pub all_addresses : List ℕ → List Mail → List (List ℕ)
all_addresses name fields = flat_map (first_addresses name) fields
