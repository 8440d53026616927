use Rattle.std.proofs.Common.{◌++◌, Option, ap, ◌∙◌, sym, append-nil, refl, subst, ◌≡◌}
use Rattle.std.specs.Prelude.{OnOk}
use Rattle.std.proofs.lemmas.Option.{slice_get_past, slice_get_read}
use Rattle.categorizer.specs.declared.parts.Send.{Send}
use Rattle.categorizer.specs.Releasing.{line_at}
use Rattle.categorizer.proofs.reports.add_line.Goals as goal

pub returns-in-None : goal.returns-in-None
returns-in-None c =
    sym (append-nil c.args.lines.now)
    ∙ ap (λ (send : Option Send). c.args.lines.now ++ line_at send) (sym (slice_get_past c.args.sends.now c.args.place c.in-None.ensures.lookup.3))

pub returns-in-Some : goal.returns-in-Some
returns-in-Some c =
    let there = c.in-Some.ensures.lookup in
    subst (λ (send : Option Send). OnOk c.add_send.result (c.add_send.new.lines ≡ c.args.lines.now ++ line_at send))
    (sym (slice_get_read c.args.sends.now _ c.args.place c.in-Some.send.now refl there.3.0 there.1)) c.add_send.ensures
