use Rattle.std.proofs.Common.{ap, ◌∙◌, sym}
use Rattle.std.specs.Prelude.{is_some}
use Rattle.std.specs.List.{list_any}
use Rattle.hub_core.specs.Standing.{Standing}
use Rattle.hub_core.specs.Waiting.{is_named}
use Rattle.hub_core.proofs.Found.{is_some-find, is_some-copied}
use Rattle.hub_core.proofs.state.State.item.Goals as goal

pub returns-clause-waits : goal.returns-clause-waits
returns-clause-waits g c = λ some.
    let p = is_named c.args.name.now in
    ap (λ (s : Standing). list_any p s.waiting) (sym c.self.view_is) ∙ sym (is_some-find p c.self.inside.waiting.items)
    ∙ ap is_some (sym c.find.ensures) ∙ is_some-copied c.find.result ∙ some
