-- Which words are which command.
use Rattle.std.specs.Prelude.{◌≡◌, ◌⊎◌, ◌≤◌, ℕ, List, [], ◌∷◌, ◌++◌, codes}
use Rattle.std.specs.Str.Parse.{IsNumeral, digits_value, without_leading_plus}
use Rattle.command_words.specs.declared.command.Command.{Command}
use Rattle.command_words.specs.declared.command.Command.TheVariants as commands

abbrev pub Text : Type 0
Text = List ℕ

-- A whole number within these bounds: decimal digits, with a plus in front or without one.
pub record IsNumber (least most : ℕ) (text : Text) (n : ℕ) : Type 0 where
  pub digits : IsNumeral 10 (without_leading_plus text)
  pub value : n ≡ digits_value 10 (without_leading_plus text)
  pub low : least ≤ n
  pub high : n ≤ most

-- Nothing follows, or the mark that ends the options.
abbrev pub IsEnd : List Text → Type 0
IsEnd words = (words ≡ []) ⊎ (words ≡ codes "--" ∷ [])

-- the number of workers, in a word of its own or behind `=`
abbrev pub IsOption : List Text → Text → Type 0
IsOption words text = (words ≡ codes "--workers" ∷ text ∷ []) ⊎ (words ≡ (codes "--workers=" ++ text) ∷ [])

-- The number of workers is given once, or else is 1.
abbrev pub GivesWorkers : List Text → ℕ → Type 0
GivesWorkers words n = ((words ≡ []) × (n ≡ 1)) ⊎ ((text : Text) × IsOption words text × IsNumber 1 16 text n)

pub record IsTurn (words : List Text) (workers : ℕ) : Type 0 where
  pub options : List Text
  pub end : List Text
  pub number : GivesWorkers options workers
  pub ends : IsEnd end
  pub whole : words ≡ options ++ end

-- The number stands behind the options, before them, or behind the mark that ends them.
abbrev pub IsInOrder : List Text → List Text → Text → Type 0
IsInOrder words options text =
    (words ≡ options ++ codes "--" ∷ text ∷ [])
    ⊎ ((end : List Text) × IsEnd end × ((words ≡ options ++ text ∷ end) ⊎ (words ≡ text ∷ (options ++ end))))

pub record IsMake (words : List Text) (submissions workers : ℕ) : Type 0 where
  pub options : List Text
  pub text : Text
  pub option : GivesWorkers options workers
  pub number : IsNumber 1 10000 text submissions
  pub order : IsInOrder words options text

-- the first word of a command
abbrev pub name_of : Command → Text
name_of commands.Session = codes "session"
name_of (commands.Turn workers) = codes "turn"
name_of commands.Admin = codes "admin"
name_of commands.Check = codes "check"
name_of (commands.Make submissions workers) = codes "make"

-- what may stand behind it
abbrev pub Follows : Command → List Text → Type 0
Follows commands.Session rest = IsEnd rest
Follows (commands.Turn workers) rest = IsTurn rest workers
Follows commands.Admin rest = IsEnd rest
Follows commands.Check rest = IsEnd rest
Follows (commands.Make submissions workers) rest = IsMake rest submissions workers

-- The words mean the command.
abbrev pub Means : List Text → Command → Type 0
Means [] command = ⊥
Means (word ∷ rest) command = (word ≡ name_of command) × Follows command rest
