-- The words behind `turn`.
use Rattle.std.proofs.Common.{◌≡◌, ◌∙◌, ℕ, false, refl, sym, ap, subst, inl, inr, List, [], ◌∷◌, Some, None, codes}
use Rattle.clap.specs.Walk.{Text, nothing_held, used}
use Rattle.clap.specs.Walk.{idle}
use Rattle.clap.specs.Simple.{built}
use Rattle.clap.specs.Faults.{fault_of}
use Rattle.clap.proofs.FaultLemmas.{leaf_fault}
use Rattle.command_words.specs.Parsers.{turn_app}
use Rattle.command_words.specs.Words.{IsEnd, IsNumber, IsTurn}
use Rattle.command_words.proofs.Cuts.{long_word_of}
use Rattle.command_words.proofs.Numbers.{number_in}
use Rattle.command_words.proofs.Steps.{Passes, at, dashes, level_passes, some_fault}
use Rattle.command_words.proofs.Classes.{Class, class_of, is_end, is_value, is_refused, is_workers}
use Rattle.command_words.proofs.Shapes.{turn, turn_flags}
use Rattle.command_words.proofs.Options.{Given, IsLast, TakesWorkers, alone_goes, end_goes, given_words, joined_goes, only_end, option_id, option_rule, plain_goes, refused_never, trailing_end, use_number}

turn_takes : TakesWorkers turn
turn_takes = record {
  flags = turn_flags;
  long = refl;
  by_id = refl;
  once = refl;
  position = λ position rows values h. absurd (some_fault _ _ h);
}

turn_last : IsLast turn 1
turn_last rows pending h = some_fault _ _ h

abbrev pub Turns : List Text → Type 0
Turns words = (workers : ℕ) × IsTurn words workers

-- the words, by what was given

pub nothing : Turns []
nothing = (1, record { options = []; end = []; number = inl (refl, refl); ends = inl refl; whole = refl })

pub end_alone : (w : Text) (ws : List Text) → w ≡ dashes → ws ≡ [] → Turns (w ∷ ws)
end_alone w ws same rest =
    (1, record { options = []; end = w ∷ ws; number = inl (refl, refl); ends = inr (ap (λ t. t ∷ ws) same ∙ ap (λ l. dashes ∷ l) rest); whole = refl })

pub apart : (words : List Text) → Given words → Turns (codes "--workers" ∷ words)
apart [] given = absurd given
apart (w ∷ ws) given =
    (number_in w, record { options = codes "--workers" ∷ w ∷ []; end = ws; number = inr (w, inl refl, given.1); ends = given.0; whole = refl })

pub joined_end : (text w : Text) (ws : List Text) → w ≡ long_word_of option_id (Some text) → IsNumber 1 16 text (number_in text) → IsEnd ws → Turns (w ∷ ws)
joined_end text w ws same number ends =
    (number_in text, record { options = w ∷ []; end = ws; number = inr (text, inr (ap (λ t. t ∷ []) same), number); ends = ends; whole = refl })

turn_more : (w : Text) (ws : List Text) → Class turn w → Passes turn (at [] None idle 1 false) (w ∷ ws) → Turns (w ∷ ws)
turn_more w ws (is_end same) p =
    end_alone w ws same (trailing_end turn 1 turn_last ws [] None idle (end_goes turn w ws [] None idle 1 same p)).0
turn_more w ws (is_value plain) p = absurd (turn_last [] None (plain_goes turn w ws [] None 1 plain p).0)
turn_more w ws (is_refused r) p = absurd (refused_never turn w ws [] None idle 1 r p)
turn_more w ws (is_workers None same) p =
    let here = subst (λ t. Passes turn (at [] None idle 1 false) (t ∷ ws)) same p in
    let given = given_words turn turn_takes 1 turn_last [] ws (λ text. refl) (alone_goes turn turn_takes ws [] None idle 1 here).1 in
    subst (λ t. Turns (t ∷ ws)) (sym same) (apart ws given)
turn_more w ws (is_workers (Some text) same) p =
    let here = subst (λ t. Passes turn (at [] None idle 1 false) (t ∷ ws)) same p in
    let after = joined_goes turn turn_takes text ws [] None idle 1 here in
    joined_end text w ws same (use_number [] text after.1) (only_end turn turn_takes 1 turn_last (used option_rule (text ∷ []) []) None ws refl after.2).0

turn_words : (words : List Text) → Passes turn (at [] None idle 1 false) words → Turns words
turn_words [] p = nothing
turn_words (w ∷ ws) p = turn_more w ws (class_of turn w turn_flags) p

-- the words that `clap` takes for `turn` are words of it
pub turn_reads : (first : Text) (words : List Text) → fault_of turn_app (first ∷ words) ≡ [] → Turns words
turn_reads first words h = turn_words words (level_passes turn words (sym (leaf_fault (built turn_app) nothing_held words refl) ∙ h))
