-- The words behind a command that takes nothing.
use Rattle.std.proofs.Common.{◌≡◌, ◌∙◌, true, false, refl, sym, ap, subst, inl, inr, List, [], ◌∷◌, Option, Some, None, codes}
use Rattle.clap.specs.Walk.{Text, nothing_held, walk_from}
use Rattle.clap.specs.Walk.{idle}
use Rattle.clap.specs.Simple.{built}
use Rattle.clap.specs.Faults.{fault_of}
use Rattle.clap.proofs.FaultLemmas.{leaf_fault}
use Rattle.command_words.specs.Parsers.{bare_app}
use Rattle.command_words.specs.Words.{IsEnd}
use Rattle.command_words.proofs.Cuts.{long_word_of}
use Rattle.command_words.proofs.Steps.{Passes, at, dashes, dashes_walked, level_passes, one_more, plain_fault, refused_fault, some_fault}
use Rattle.command_words.proofs.Classes.{Class, class_of, is_end, is_value, is_refused, is_workers}
use Rattle.command_words.proofs.Shapes.{bare, bare_flags}

-- nothing may stand behind the mark
bare_trailing : (name : Text) (words : List Text) → Passes (bare name) (at [] None idle 1 true) words → words ≡ []
bare_trailing name [] p = refl
bare_trailing name (w ∷ ws) p = absurd (some_fault _ _ (one_more (bare name) (at [] None idle 1 true) w ws p).0)

bare_no_workers : (name : Text) (text : Option Text) (ws : List Text) → Passes (bare name) (at [] None idle 1 false) (long_word_of (codes "workers") text ∷ ws) → ⊥
bare_no_workers name None ws p = some_fault _ _ (one_more (bare name) (at [] None idle 1 false) _ ws p).0
bare_no_workers name (Some text) ws p = some_fault _ _ (one_more (bare name) (at [] None idle 1 false) _ ws p).0

bare_more : (name w : Text) (ws : List Text) → Class (bare name) w → Passes (bare name) (at [] None idle 1 false) (w ∷ ws) → IsEnd (w ∷ ws)
bare_more name w ws (is_end same) p =
    let here = subst (λ t. Passes (bare name) (at [] None idle 1 false) (t ∷ ws)) same p in
    let after = (one_more (bare name) (at [] None idle 1 false) dashes ws here).1 in
    let rest = bare_trailing name ws (subst (λ k. Passes (bare name) k ws) (dashes_walked (bare name) [] None idle 1) after) in
    inr (ap (λ t. t ∷ ws) same ∙ ap (λ l. dashes ∷ l) rest)
bare_more name w ws (is_value plain) p =
    absurd (some_fault _ _ (plain_fault (bare name) w plain [] None 1 (one_more (bare name) (at [] None idle 1 false) w ws p).0))
bare_more name w ws (is_refused r) p =
    absurd (refused_fault (bare name) w r [] None idle 1 (one_more (bare name) (at [] None idle 1 false) w ws p).0)
bare_more name w ws (is_workers text same) p =
    absurd (bare_no_workers name text ws (subst (λ t. Passes (bare name) (at [] None idle 1 false) (t ∷ ws)) same p))

bare_words : (name : Text) (words : List Text) → Passes (bare name) (walk_from nothing_held) words → IsEnd words
bare_words name [] p = inl refl
bare_words name (w ∷ ws) p = bare_more name w ws (class_of (bare name) w (bare_flags name)) p

-- such a command takes no words but the end
pub bare_reads : (name first : Text) (words : List Text) → fault_of (bare_app name) (first ∷ words) ≡ [] → IsEnd words
bare_reads name first words h = bare_words name words (level_passes (bare name) words (sym (leaf_fault (built (bare_app name)) nothing_held words refl) ∙ h))
