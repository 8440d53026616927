-- The load of the command `make`.
use Rattle.std.specs.Prelude.{ℕ, ◌%◌, ◌==◌, if◌then◌else◌, List, [], ◌∷◌, ◌++◌, codes, decimal, Some}
use Rattle.std.specs.List.{flat_map}
use Rattle.mail_message.specs.Lines.{ended_all}
use Rattle.mail_submission.specs.Submission.{Submitted}
use Rattle.mail_submission.specs.declared.submission.Origin.TheVariants as origins

abbrev pub ann : List ℕ
ann = codes "ann@example.com"

abbrev pub bob : List ℕ
bob = codes "bob@example.com"

abbrev pub mia : List ℕ
mia = codes "mia@example.com"

abbrev pub zed : List ℕ
zed = codes "zed@example.net"

abbrev pub eve : List ℕ
eve = codes "eve@example.net"

abbrev pub staff : List ℕ
staff = codes "staff@example.com"

abbrev pub board : List ℕ
board = codes "board@example.com"

-- each line of a directory ends with CRLF
abbrev pub directory_text : List ℕ
directory_text = ended_all (
    codes "key,kind,members,owners,moderated,moderators,bypass,tell"
    ∷ codes "example.com,domain,,,no,,,always"
    ∷ codes "ann@example.com,mailbox,,,no,,,always"
    ∷ codes "bob@example.com,mailbox,,,no,,,always"
    ∷ codes "cyn@example.com,mailbox,,,no,,,always"
    ∷ codes "mia@example.com,mailbox,,,no,,,always"
    ∷ codes "jo@example.com,mailbox,,,no,,,always"
    ∷ codes "zed@example.net,contact,,,no,,,always"
    ∷ codes "staff@example.com,group,ann@example.com bob@example.com cyn@example.com,,no,,,always"
    ∷ codes "board@example.com,group,bob@example.com cyn@example.com,,yes,mia@example.com,,always"
    ∷ [])

-- each line of the rules ends with LF
abbrev pub rules_text : List ℕ
rules_text = flat_map (λ line. line ++ 10 ∷ []) (
    codes "[[rule]]"
    ∷ codes "name = \"tag\""
    ∷ codes "when = [{test = \"recipient-scope\", values = [\"inside\"]}]"
    ∷ codes "do = [{act = \"prepend-subject\", text = \"[in] \"}]"
    ∷ codes "[[journal]]"
    ∷ codes "name = \"ext\""
    ∷ codes "scope = \"external\""
    ∷ codes "mailbox = \"jo@example.com\""
    ∷ [])

abbrev pub reverse_at : ℕ → List ℕ
reverse_at i = if i % 2 == 0 then ann else eve

abbrev pub recipients_at : ℕ → List (List ℕ)
recipients_at i =
    if i % 4 == 0 then staff ∷ []
    else (if i % 4 == 1 then bob ∷ zed ∷ []
    else (if i % 4 == 2 then board ∷ []
    else bob ∷ staff ∷ []))

abbrev pub id_line : ℕ → List ℕ
id_line i = codes "Message-Id: <g" ++ (decimal i ++ codes "@example.com>")

abbrev pub message_at : ℕ → List ℕ
message_at i = ended_all (
    id_line i
    ∷ (codes "Subject: Load " ++ decimal i)
    ∷ []
    ∷ (codes "Line " ++ decimal i)
    ∷ [])

-- submission i of the load, counted from 0
abbrev pub submission_at : ℕ → Submitted
submission_at i = record {
  origin = origins.Smtp;
  reverse = Some (reverse_at i);
  recipients = recipients_at i;
  bytes = message_at i;
}
