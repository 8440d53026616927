use Rattle.std.proofs.Common.{◌≡◌, ◌+◌, ◌∷◌, drop, ap, ◌∙◌, sym, eq-eqb}
use Rattle.std.proofs.lemmas.List.{drop_more}
use Rattle.smtp_front.proofs.Holding.{command-line, dot-line, content-line}
use Rattle.smtp_front.proofs.dialog.Dialog.end_line.Goals as goal

pub returns-then-not-self-clause-ok : goal.returns-then-not-self-clause-ok
returns-then-not-self-clause-ok c = λ held holds.
    let d = c.args.self.now in
    let at : drop d.at d.held ≡ 10 ∷ drop (d.at + 1) d.held = drop_more d.held d.at 0 c.requires.next ∙ ap (λ b. b ∷ drop (d.at + 1) d.held) c.requires.lf in
    command-line d held c.new.result c.in_ok-event.event holds c.requires.next at
    (λ t is. is.last ∙ eq-eqb d.part.last 13 c.requires.cr) c.if-not-self.true c.new.ensures
    (λ t is e. c.in_ok-event.ensures t is e)

pub returns-then-is_dot-clause-ok : goal.returns-then-is_dot-clause-ok
returns-then-is_dot-clause-ok c = λ held holds.
    let d = c.args.self.now in
    let at : drop d.at d.held ≡ 10 ∷ drop (d.at + 1) d.held = drop_more d.held d.at 0 c.requires.next ∙ ap (λ b. b ∷ drop (d.at + 1) d.held) c.requires.lf in
    dot-line d held c.new-then-is_dot-2.result c.ended-event.result c.replace-content.new.dest holds c.requires.next at
    (λ t is. is.last ∙ eq-eqb d.part.last 13 c.requires.cr) c.if-not-self.false c.new-then-is_dot-2.ensures
    (λ t is e. sym (c.is_dot.ensures t is e) ∙ c.if-is_dot.true)
    (λ lines is. c.ended-event.ensures lines (rw c.replace-content.ensures.value is))
    (c.replace-content.ensures.after ∙ c.new-then-is_dot.ensures)

pub returns-clause-ok : goal.returns-clause-ok
returns-clause-ok c = λ held holds.
    let d = c.args.self.now in
    let at : drop d.at d.held ≡ 10 ∷ drop (d.at + 1) d.held = drop_more d.held d.at 0 c.requires.next ∙ ap (λ b. b ∷ drop (d.at + 1) d.held) c.requires.lf in
    content-line d held c.new-2.result c.add_line.new.content c.in_ok-self.field-0 holds c.requires.next at
    (λ t is. is.last ∙ eq-eqb d.part.last 13 c.requires.cr) c.if-not-self.false c.new-2.ensures
    (λ t is e. sym (c.is_dot.ensures t is e) ∙ c.if-is_dot.false)
    (λ t lines is e was. c.in_ok-self.ensures.ok t lines is e was)
