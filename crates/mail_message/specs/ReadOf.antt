-- What bytes read to, told on their lines.
use Rattle.std.specs.Prelude.{ℕ, ◌+◌, nat_lt, if◌then◌else◌, List, [], ◌∷◌, ◌++◌, length, Result, Ok, Err}
use Rattle.mail_names.specs.Lines.{lines_of}
use Rattle.mail_message.specs.Lines.{ended_all, goes_on}
use Rattle.mail_message.specs.Message.{Mail}
use Rattle.mail_message.specs.Reading.{with_line}
use Rattle.mail_message.specs.Faults.{most_octets}
use Rattle.mail_message.specs.declared.fault.MessageFault.{MessageFault}
use Rattle.mail_message.specs.declared.fault.MessageFault.TheVariants as faults

-- The first empty line ends the header. Before it each line is of the header, or it is the fault.
abbrev pub read_from : ℕ → List (List ℕ) → List (List ℕ) → List ℕ → Result Mail MessageFault
read_from count raws [] left = Err faults.NoBlankLine
read_from count raws ([] ∷ lines) left = Ok (record { fields = raws; body = ended_all lines ++ left })
read_from count raws ((b ∷ line) ∷ lines) left =
    if goes_on (nat_lt 0 count) (b ∷ line) then read_from (count + 1) (with_line raws (b ∷ line)) lines left
    else Err (faults.BadField count)

-- the message that bytes are, or why they are none
unfoldable pub read_of : List ℕ → Result Mail MessageFault
read_of bytes =
    if nat_lt most_octets (length bytes) then Err faults.TooLarge
    else read_from 0 [] (lines_of bytes).lines (lines_of bytes).left
