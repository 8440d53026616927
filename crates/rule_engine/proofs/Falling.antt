-- What becomes of a message that isn't plain.
use Rattle.std.proofs.Common.{◌≡◌, ℕ, Bool, false, if◌then◌else◌, List, Option, None, sym, ◌∙◌, ap}
use Rattle.mail_names.specs.declared.gate.Gate.{Gate}
use Rattle.mail_message.specs.Message.{Mail}
use Rattle.mail_message.specs.Edits.{add_text, is_plain}
use Rattle.mail_message.specs.Enclose.{wrapped}
use Rattle.rule_terms.specs.declared.action.Fallback.{Fallback}
use Rattle.rule_terms.specs.declared.action.Fallback.TheVariants as fallbacks
use Rattle.rule_engine.specs.declared.recipient.Progress.{Progress}
use Rattle.rule_engine.specs.Edits.{left_by}
use Rattle.rule_engine.specs.Fate.{Effect, Edited, side, fall_back, disclaim, stage, with_message, after_effect}

-- It is wrapped where the fallback says so.
pub wrapped-after : (rule : ℕ) (before : Bool) (added : List ℕ) (fallback : Fallback) (old new : Progress) → is_plain old.message ≡ false → fallback ≡ fallbacks.Wrap →
    new ≡ with_message (wrapped added old.message) old → (sender : Option (List ℕ)) (opened : List Gate) →
    stage new None ≡ after_effect sender opened rule (disclaim before added fallback old.message) old
wrapped-after rule before added fallback old new isnt falls is sender opened =
    let fallen : disclaim before added fallback old.message ≡ Edited (wrapped added old.message) =
    ap (λ (plain : Bool). if plain then Edited (add_text (side before) added old.message) else fall_back fallback added old.message) isnt
    ∙ ap (λ (other : Fallback). fall_back other added old.message) falls in
    ap (λ (p : Progress). stage p None) is ∙ sym (ap (λ (effect : Effect). after_effect sender opened rule effect old) fallen)

pub left-wrapped : (before : Bool) (added : List ℕ) (fallback : Fallback) (m : Mail) → is_plain m ≡ false → fallback ≡ fallbacks.Wrap →
    left_by (disclaim before added fallback m) m ≡ wrapped added m
left-wrapped before added fallback m isnt falls =
    ap (λ (plain : Bool). left_by (if plain then Edited (add_text (side before) added m) else fall_back fallback added m) m) isnt
    ∙ ap (λ (other : Fallback). left_by (fall_back other added m) m) falls
