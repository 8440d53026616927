-- The parameters of MAIL.
use Rattle.std.specs.Prelude.{ℕ, ◌+◌, ◌-◌, ◌*◌, ◌==◌, ◌&&◌, ◌||◌, nat_lt, nat_le, Bool, if◌then◌else◌, List, [], ◌∷◌, length, take, drop, codes, fold, Option, Some, None}
use Rattle.std.specs.List.{list_all}
use Rattle.std.specs.Char.{is_ascii_digit}
use Rattle.mail_message.specs.Faults.{most_octets}
use Rattle.smtp_front.specs.declared.reply.Line.{Line}
use Rattle.smtp_front.specs.declared.reply.Line.TheVariants as lines
use Rattle.smtp_front.specs.Commands.{is_same, is_apart}

abbrev pub onto_first : ℕ → List (List ℕ) → List (List ℕ)
onto_first b [] = (b ∷ []) ∷ []
onto_first b (word ∷ words) = (b ∷ word) ∷ words

-- the words of a text, which one or more spaces separate
abbrev pub words_of : List ℕ → List (List ℕ)
words_of [] = []
words_of (b ∷ bs) =
    if b == 32 then words_of bs
    else (if is_apart bs then (b ∷ []) ∷ words_of bs else onto_first b (words_of bs))

-- the number that digits write in decimal
abbrev pub number_of : List ℕ → ℕ
number_of digits = fold (λ n b. n * 10 + (b - 48)) 0 digits

-- 1 to 20 digits
abbrev pub is_size : List ℕ → Bool
is_size value = nat_lt 0 (length value) && (nat_le (length value) 20 && list_all is_ascii_digit value)

-- SIZE (RFC 1870): a number past the most octets of a content is refused.
abbrev pub size_refusal : List ℕ → Option Line
size_refusal value =
    if is_size value then (if nat_lt most_octets (number_of value) then Some lines.TooLarge else None) else Some lines.BadArgument

-- BODY (RFC 6152)
abbrev pub body_refusal : List ℕ → Option Line
body_refusal value = if is_same value (codes "7BIT") || is_same value (codes "8BITMIME") then None else Some lines.BadArgument

-- The line that refuses a parameter, if one does; its name is read without case.
abbrev pub parameter_refusal : List ℕ → Option Line
parameter_refusal word =
    if is_same (take 5 word) (codes "SIZE=") then size_refusal (drop 5 word)
    else (if is_same (take 5 word) (codes "BODY=") then body_refusal (drop 5 word)
    else Some lines.UnknownParameter)

abbrev pub or_refusal : Option Line → Option Line → Option Line
or_refusal (Some line) rest = Some line
or_refusal None rest = rest

-- the first refusal from the left
abbrev pub first_refusal : List (List ℕ) → Option Line
first_refusal [] = None
first_refusal (word ∷ words) = or_refusal (parameter_refusal word) (first_refusal words)

-- where no parameter is known
abbrev pub any_refusal : List (List ℕ) → Option Line
any_refusal [] = None
any_refusal (word ∷ words) = Some lines.UnknownParameter

-- After EHLO the parameters are judged from the left; after HELO none is known.
abbrev pub refusal_of : Bool → List ℕ → Option Line
refusal_of extended text = if extended then first_refusal (words_of text) else any_refusal (words_of text)
