-- The submission that a file of the pickup folder stands for.
use Rattle.std.specs.Prelude.{◌≡◌, ℕ, List, [], ◌∷◌, ◌++◌, map, filter, codes, Option, Some, None, Result, Ok, Err}
use Rattle.std.specs.List.{flat_map}
use Rattle.std.specs.Option.{option_map}
use Rattle.std.specs.Result.{result_ok}
use Rattle.mail_names.specs.Key.{key_of}
use Rattle.mail_message.specs.Message.{Mail, is_named, value_of, text}
use Rattle.mail_message.specs.Edits.{remove_field}
use Rattle.mail_message.specs.ReadOf.{read_of}
use Rattle.mail_submission.specs.Submission.{Submitted, submission_of}
use Rattle.mail_submission.specs.declared.submission.Origin.TheVariants as origins
use Rattle.pickup_box.specs.declared.pickup.PickupBad.{PickupBad}
use Rattle.pickup_box.specs.declared.pickup.PickupBad.TheVariants as bad
use Rattle.pickup_box.specs.LineEnds.{with_crlf}
use Rattle.pickup_box.specs.Addresses.{addresses}

-- the values of all fields of this name, in order
abbrev pub values_of : List ℕ → Mail → List (List ℕ)
values_of name m = map value_of (filter (is_named name) m.fields)

-- the addresses in them
abbrev pub addresses_of : List ℕ → Mail → List (List ℕ)
addresses_of name m = flat_map addresses (values_of name m)

abbrev pub before_keys : Option (List ℕ) → Option (List (List ℕ)) → Option (List (List ℕ))
before_keys (Some key) keys = option_map (λ ks. key ∷ ks) keys
before_keys None keys = None

-- the keys that these texts read to, where each is one
abbrev pub keys_of : List (List ℕ) → Option (List (List ℕ))
keys_of [] = Some []
keys_of (t ∷ ts) = before_keys (result_ok (key_of t)) (keys_of ts)

-- The sender is the first address of Sender, or else of From.
abbrev pub senders_of : Mail → Option (List (List ℕ))
senders_of m = keys_of (addresses_of (codes "Sender") m ++ addresses_of (codes "From") m)

-- The recipients are the addresses of To, then Cc, then Bcc.
abbrev pub recipients_of : Mail → Option (List (List ℕ))
recipients_of m = keys_of (addresses_of (codes "To") m ++ (addresses_of (codes "Cc") m ++ addresses_of (codes "Bcc") m))

-- the submission from the first of these senders
abbrev pub sent : List ℕ → List (List ℕ) → List (List ℕ) → List ℕ → Option Submitted
sent mark [] recipients bytes = None
sent mark (sender ∷ others) recipients bytes = result_ok (submission_of (origins.Pickup mark) (Some sender) recipients bytes)

abbrev pub addressed : List ℕ → Option (List (List ℕ)) → Option (List (List ℕ)) → List ℕ → Option Submitted
addressed mark None recipients bytes = None
addressed mark (Some senders) None bytes = None
addressed mark (Some senders) (Some recipients) bytes = sent mark senders recipients bytes

-- Bcc fields are removed.
abbrev pub submitted : List ℕ → Mail → Option Submitted
submitted mark m = addressed mark (senders_of m) (recipients_of m) (text (remove_field (codes "Bcc") m))

abbrev pub submitted_read : List ℕ → Option Mail → Option Submitted
submitted_read mark None = None
submitted_read mark (Some m) = submitted mark m

-- The submission of a file under its mark. There is none where its text is no message, an address of a Sender, From,
-- To, Cc or Bcc field is no key, there is no sender, or its parts are no submission: for want of recipients, or for
-- too many of them.
abbrev pub pickup_of : List ℕ → List ℕ → Option Submitted
pickup_of mark file = submitted_read mark (result_ok (read_of (with_crlf file)))

-- What a call answers is what stands there, and Bad is answered where nothing does, unless memory ran out.
abbrev pub Gives : {T : Type 0} → Result T PickupBad → Option T → Type 0
Gives (Ok x) made = made ≡ Some x
Gives (Err bad.Bad) made = made ≡ None
Gives (Err bad.NoMemory) made = Unit {0}
