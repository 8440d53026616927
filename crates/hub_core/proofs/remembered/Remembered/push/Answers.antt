use Rattle.std.proofs.Common.{ℕ, List, Option, ◌∙◌, ap, sym, subst}
use Rattle.hub_core.specs.Mail.{LiveMail}
use Rattle.hub_core.specs.Repeats.{IsIndex, digest_of, is_digest, found_or, place_at}
use Rattle.hub_core.proofs.Repeating.{index-pushed}
use Rattle.hub_core.proofs.remembered.Remembered.push.Goals as goal

pub invariant_of-self-in_default : goal.invariant_of-self-in_default
invariant_of-self-in_default g c =
    subst (λ (lives : List LiveMail). IsIndex c.note.new.index lives) (sym c.in_ok-push.ensures.items)
    (index-pushed c.self.inside.index c.note.new.index c.self.inside.lives.items c.args.live c.self.invariant
    (λ digest.
    c.in_default.ensures.ok digest
    ∙ ap (λ (own : Option (List ℕ)). found_or (place_at c.self.inside.index digest) (is_digest digest own) c.len-place.result) (c.digest_of-digest.ensures ∙ ap digest_of c.submission.ensures)
    ∙ ap (λ (place : ℕ). found_or (place_at c.self.inside.index digest) (is_digest digest (digest_of c.args.live.submission)) place) (c.len-place.ensures ∙ c.self.inside.lives.ok.0)))
