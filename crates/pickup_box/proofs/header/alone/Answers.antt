use Rattle.std.proofs.Common.{inl, inr, ◌∙◌, ap, ◌++◌}
use Rattle.mail_message.specs.Lines.{crlf}
use Rattle.std.specs.Prelude.{Ok}
use Rattle.pickup_box.specs.Header.{alone}
use Rattle.pickup_box.proofs.Cutting.{reads_alone}
use Rattle.pickup_box.proofs.header.alone.Goals as goal

pub returns-in-Ok : goal.returns-in-Ok
returns-in-Ok c =
    elim (c.in-Ok.ensures.only (Ok (alone c.args.raw.now)) (reads_alone c.args.raw.now _ c.requires.field c.requires.short (c.as_slice.ensures ∙ c.in_ok-add.ensures.ok ∙ ap (λ x. x ++ crlf) c.in_ok-text.ensures))) [
      | inl same ↦ cc
      | inr other ↦ absurd cc
    ]
