-- The words of a command are taken, with their numbers.
use Rattle.std.proofs.Common.{◌≡◌, ◌∙◌, ◌<◌, ◌^◌, ℕ, Bool, true, false, refl, ap, inl, inr, List, [], ◌∷◌, ◌++◌, Option, Some, None, codes}
use Rattle.clap.specs.Walk.{Text, one_of}
use Rattle.clap.specs.Simple.{App, matches_of}
use Rattle.clap.specs.Faults.{fault_of}
use Rattle.clap.specs.ValueTests.{accepts}
use Rattle.clap.specs.declared.builder.value_parser.ValueParser.TheVariants as parsers
use Rattle.clap.proofs.OnLiterals.{clap_on_literals}
use Rattle.command_words.specs.Parsers.{bare_app, make_app, turn_app}
use Rattle.command_words.specs.Words.{IsEnd, IsNumber}
use Rattle.command_words.proofs.Numbers.{IsNoFlag, accepts_number, number_no_flag}
use Rattle.command_words.proofs.Steps.{dashes}

bare_alone : (name first : Text) → fault_of (bare_app name) (first ∷ []) ≡ []
unfolding clap_on_literals
bare_alone name first = refl

bare_end : (name first : Text) → fault_of (bare_app name) (first ∷ dashes ∷ []) ≡ []
unfolding clap_on_literals
bare_end name first = refl

-- a command that takes nothing takes an end
pub bare_taken : (name first : Text) (words : List Text) → IsEnd words → fault_of (bare_app name) (first ∷ words) ≡ []
bare_taken name first words (inl same) = ap (λ ws. fault_of (bare_app name) (first ∷ ws)) same ∙ bare_alone name first
bare_taken name first words (inr same) = ap (λ ws. fault_of (bare_app name) (first ∷ ws)) same ∙ bare_end name first

-- a text that `clap` takes for a number
pub record Fits (most : ℕ) (text : Text) : Type 0 where
  pub flag : IsNoFlag text
  pub accepted : accepts false (parsers.Unsigned 1 most) text ≡ true

pub fits : (most : ℕ) (text : Text) (n : ℕ) → most < 2 ^ 64 → IsNumber 1 most text n → Fits most text
fits most text n bound number = record { flag = number_no_flag text number.digits; accepted = accepts_number 1 most text n bound number }

-- the command takes the words, and has these texts of them
pub record Takes (a : App) (words : List Text) (option number : Option Text) : Type 0 where
  pub passes : fault_of a words ≡ []
  pub workers : one_of (codes "workers") (matches_of a words) ≡ option
  pub submissions : one_of (codes "submissions") (matches_of a words) ≡ number

abbrev pub option_words : Bool → Text → List Text
option_words true text = codes "--workers" ∷ text ∷ []
option_words false text = (codes "--workers=" ++ text) ∷ []

abbrev pub end_words : Bool → List Text
end_words true = dashes ∷ []
end_words false = []

pub turn_none : (first : Text) (ends : Bool) → Takes turn_app (first ∷ end_words ends) None None
unfolding clap_on_literals
turn_none first true = record { passes = refl; workers = refl; submissions = refl }
turn_none first false = record { passes = refl; workers = refl; submissions = refl }

pub turn_option : (first text : Text) (apart ends : Bool) → Fits 16 text → Takes turn_app (first ∷ (option_words apart text ++ end_words ends)) (Some text) None
unfolding clap_on_literals
turn_option first text true true t = record { passes = rw (t.flag.no_dashes, t.flag.no_long, t.flag.no_short, t.accepted) refl; workers = rw (t.flag.no_dashes, t.flag.no_long, t.flag.no_short) refl; submissions = rw (t.flag.no_dashes, t.flag.no_long, t.flag.no_short) refl }
turn_option first text true false t = record { passes = rw (t.flag.no_dashes, t.flag.no_long, t.flag.no_short, t.accepted) refl; workers = rw (t.flag.no_dashes, t.flag.no_long, t.flag.no_short) refl; submissions = rw (t.flag.no_dashes, t.flag.no_long, t.flag.no_short) refl }
turn_option first text false true t = record { passes = rw t.accepted refl; workers = refl; submissions = refl }
turn_option first text false false t = record { passes = rw t.accepted refl; workers = refl; submissions = refl }

pub make_none : (first number : Text) (ends : Bool) → Fits 10000 number → Takes make_app (first ∷ number ∷ end_words ends) None (Some number)
unfolding clap_on_literals
make_none first number true n = record { passes = rw (n.flag.no_dashes, n.flag.no_long, n.flag.no_short, n.accepted) refl; workers = rw (n.flag.no_dashes, n.flag.no_long, n.flag.no_short) refl; submissions = rw (n.flag.no_dashes, n.flag.no_long, n.flag.no_short) refl }
make_none first number false n = record { passes = rw (n.flag.no_dashes, n.flag.no_long, n.flag.no_short, n.accepted) refl; workers = rw (n.flag.no_dashes, n.flag.no_long, n.flag.no_short) refl; submissions = rw (n.flag.no_dashes, n.flag.no_long, n.flag.no_short) refl }

pub make_marked : (first number : Text) → Fits 10000 number → Takes make_app (first ∷ dashes ∷ number ∷ []) None (Some number)
unfolding clap_on_literals
make_marked first number n = record { passes = rw n.accepted refl; workers = refl; submissions = refl }

pub make_behind : (first text number : Text) (apart ends : Bool) → Fits 16 text → Fits 10000 number
    → Takes make_app (first ∷ (option_words apart text ++ number ∷ end_words ends)) (Some text) (Some number)
unfolding clap_on_literals
make_behind first text number true true t n = record { passes = rw (t.flag.no_dashes, t.flag.no_long, t.flag.no_short, n.flag.no_dashes, n.flag.no_long, n.flag.no_short) (rw t.accepted (rw n.accepted refl)); workers = rw (t.flag.no_dashes, t.flag.no_long, t.flag.no_short, n.flag.no_dashes, n.flag.no_long, n.flag.no_short) refl; submissions = rw (t.flag.no_dashes, t.flag.no_long, t.flag.no_short, n.flag.no_dashes, n.flag.no_long, n.flag.no_short) refl }
make_behind first text number true false t n = record { passes = rw (t.flag.no_dashes, t.flag.no_long, t.flag.no_short, n.flag.no_dashes, n.flag.no_long, n.flag.no_short) (rw t.accepted (rw n.accepted refl)); workers = rw (t.flag.no_dashes, t.flag.no_long, t.flag.no_short, n.flag.no_dashes, n.flag.no_long, n.flag.no_short) refl; submissions = rw (t.flag.no_dashes, t.flag.no_long, t.flag.no_short, n.flag.no_dashes, n.flag.no_long, n.flag.no_short) refl }
make_behind first text number false true t n = record { passes = rw (n.flag.no_dashes, n.flag.no_long, n.flag.no_short) (rw t.accepted (rw n.accepted refl)); workers = rw (n.flag.no_dashes, n.flag.no_long, n.flag.no_short) refl; submissions = rw (n.flag.no_dashes, n.flag.no_long, n.flag.no_short) refl }
make_behind first text number false false t n = record { passes = rw (n.flag.no_dashes, n.flag.no_long, n.flag.no_short) (rw t.accepted (rw n.accepted refl)); workers = rw (n.flag.no_dashes, n.flag.no_long, n.flag.no_short) refl; submissions = rw (n.flag.no_dashes, n.flag.no_long, n.flag.no_short) refl }

pub make_before : (first text number : Text) (apart ends : Bool) → Fits 16 text → Fits 10000 number
    → Takes make_app (first ∷ number ∷ (option_words apart text ++ end_words ends)) (Some text) (Some number)
unfolding clap_on_literals
make_before first text number true true t n = record { passes = rw (n.flag.no_dashes, n.flag.no_long, n.flag.no_short, t.flag.no_dashes, t.flag.no_long, t.flag.no_short) (rw n.accepted (rw t.accepted refl)); workers = rw (n.flag.no_dashes, n.flag.no_long, n.flag.no_short, t.flag.no_dashes, t.flag.no_long, t.flag.no_short) refl; submissions = rw (n.flag.no_dashes, n.flag.no_long, n.flag.no_short, t.flag.no_dashes, t.flag.no_long, t.flag.no_short) refl }
make_before first text number true false t n = record { passes = rw (n.flag.no_dashes, n.flag.no_long, n.flag.no_short, t.flag.no_dashes, t.flag.no_long, t.flag.no_short) (rw n.accepted (rw t.accepted refl)); workers = rw (n.flag.no_dashes, n.flag.no_long, n.flag.no_short, t.flag.no_dashes, t.flag.no_long, t.flag.no_short) refl; submissions = rw (n.flag.no_dashes, n.flag.no_long, n.flag.no_short, t.flag.no_dashes, t.flag.no_long, t.flag.no_short) refl }
make_before first text number false true t n = record { passes = rw (n.flag.no_dashes, n.flag.no_long, n.flag.no_short) (rw n.accepted (rw t.accepted refl)); workers = rw (n.flag.no_dashes, n.flag.no_long, n.flag.no_short) refl; submissions = rw (n.flag.no_dashes, n.flag.no_long, n.flag.no_short) refl }
make_before first text number false false t n = record { passes = rw (n.flag.no_dashes, n.flag.no_long, n.flag.no_short) (rw n.accepted (rw t.accepted refl)); workers = rw (n.flag.no_dashes, n.flag.no_long, n.flag.no_short) refl; submissions = rw (n.flag.no_dashes, n.flag.no_long, n.flag.no_short) refl }

pub make_option_marked : (first text number : Text) (apart : Bool) → Fits 16 text → Fits 10000 number
    → Takes make_app (first ∷ (option_words apart text ++ dashes ∷ number ∷ [])) (Some text) (Some number)
unfolding clap_on_literals
make_option_marked first text number true t n = record { passes = rw (t.flag.no_dashes, t.flag.no_long, t.flag.no_short) (rw t.accepted (rw n.accepted refl)); workers = rw (t.flag.no_dashes, t.flag.no_long, t.flag.no_short) refl; submissions = rw (t.flag.no_dashes, t.flag.no_long, t.flag.no_short) refl }
make_option_marked first text number false t n = record { passes = rw (t.accepted, n.accepted) refl; workers = refl; submissions = refl }
