-- Command lines (RFC 5321 section 4.1.1).
use Rattle.std.specs.Prelude.{ℕ, ◌==◌, ◌&&◌, ◌||◌, Bool, true, if◌then◌else◌, List, [], ◌∷◌, length, take, drop, slice_index, codes, bytes_eq, Option, Some, None, Result, Ok, Err}
use Rattle.std.specs.List.{list_any, before_first, after_first}
use Rattle.mail_names.specs.Key.{key_of, lower}
use Rattle.mail_names.specs.declared.key.NameFault.{NameFault}
use Rattle.smtp_front.specs.declared.verb.Verb.{Verb}
use Rattle.smtp_front.specs.declared.verb.Verb.TheVariants as verbs

-- a space or a tab
abbrev pub is_blank : ℕ → Bool
is_blank b = b == 32 || b == 9

abbrev pub trim_before : ℕ → List ℕ → List ℕ
trim_before b [] = if is_blank b then [] else b ∷ []
trim_before b (c ∷ cs) = b ∷ c ∷ cs

-- without the spaces and tabs at its end
abbrev pub trim : List ℕ → List ℕ
trim [] = []
trim (b ∷ bs) = trim_before b (trim bs)

abbrev pub is_byte : ℕ → ℕ → Bool
is_byte b c = c == b

-- the same without ASCII case
abbrev pub is_same : List ℕ → List ℕ → Bool
is_same text name = bytes_eq (lower text) (lower name)

-- the verb that a word is, without case
abbrev pub verb_of : List ℕ → Verb
verb_of word =
    if is_same word (codes "HELO") then verbs.Helo
    else (if is_same word (codes "EHLO") then verbs.Ehlo
    else (if is_same word (codes "MAIL") then verbs.Mail
    else (if is_same word (codes "RCPT") then verbs.Rcpt
    else (if is_same word (codes "DATA") then verbs.Data
    else (if is_same word (codes "RSET") then verbs.Rset
    else (if is_same word (codes "NOOP") then verbs.Noop
    else (if is_same word (codes "VRFY") then verbs.Vrfy
    else (if is_same word (codes "QUIT") then verbs.Quit
    else (if is_same word (codes "EXPN") || (is_same word (codes "HELP") || (is_same word (codes "AUTH") || (is_same word (codes "STARTTLS") || is_same word (codes "TURN")))) then verbs.NotOffered
    else verbs.Unknown)))))))))

-- The verb is what stands before a line's first space, and the argument what stands behind that space.
abbrev pub word_of : List ℕ → List ℕ
word_of line = before_first (is_byte 32) line

abbrev pub argument_of : List ℕ → List ℕ
argument_of line = after_first (is_byte 32) line

-- without the spaces in front
abbrev pub unspaced : List ℕ → List ℕ
unspaced [] = []
unspaced (b ∷ bs) = if b == 32 then unspaced bs else b ∷ bs

-- a path without its brackets, and what stands behind it
pub record Form : Type 0 where
  pub path : List ℕ
  pub rest : List ℕ

-- nothing, or a space and what follows it
abbrev pub is_apart : List ℕ → Bool
is_apart [] = true
is_apart (b ∷ bs) = b == 32

-- "<", the path to the first ">", then nothing or a space and what follows it
abbrev pub bracketed : List ℕ → Option Form
bracketed [] = None
bracketed (b ∷ bs) =
    if b == 60 && (list_any (is_byte 62) bs && is_apart (after_first (is_byte 62) bs))
    then Some (record { path = before_first (is_byte 62) bs; rest = after_first (is_byte 62) bs })
    else None

-- The argument of MAIL and RCPT is a word without case, as "FROM:", then any spaces, then a path in brackets.
abbrev pub form_of : List ℕ → List ℕ → Option Form
form_of word argument =
    if is_same (take (length word) argument) word then bracketed (unspaced (drop (length word) argument)) else None

-- A path that begins with "@" and holds a colon loses all up to the first colon: source routes are ignored
-- (RFC 5321 appendix C).
abbrev pub unrouted : List ℕ → List ℕ
unrouted path = if slice_index path 0 == 64 && list_any (is_byte 58) path then after_first (is_byte 58) path else path

abbrev pub key_option : Result (List ℕ) NameFault → Option (List ℕ)
key_option (Ok key) = Some key
key_option (Err e) = None

-- "postmaster" without case is this hub's own; any other path must be a key.
abbrev pub mailbox_of : List ℕ → Option (List ℕ)
mailbox_of path =
    if is_same path (codes "postmaster") then Some (codes "postmaster@hub.invalid") else key_option (key_of path)
