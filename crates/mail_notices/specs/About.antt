-- What notices say of a submission.
use Rattle.std.specs.Prelude.{ℕ, ◌==◌, ◌||◌, nat_lt, if◌then◌else◌, List, [], map, codes, Option, Some, None}
use Rattle.mail_message.specs.Message.{Mail, field_of}
use Rattle.mail_notices.specs.declared.kinds.About.{About}

-- `?` for a control byte
abbrev pub clean_byte : ℕ → ℕ
clean_byte b = if nat_lt b 32 || b == 127 then 63 else b

abbrev pub clean : List ℕ → List ℕ
clean text = map clean_byte text

abbrev pub clean_value : Option (List ℕ) → List ℕ
clean_value None = []
clean_value (Some value) = clean value

-- what notices say of a submission
abbrev pub about_of : ℕ → Mail → List ℕ → About
about_of number message original = record {
  number = number;
  message_id = clean_value (field_of (codes "Message-Id") message);
  subject = clean_value (field_of (codes "Subject") message);
  original = original;
}
