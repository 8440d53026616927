use Rattle.std.proofs.Common.{sym, ◌∙◌, ap}
use Rattle.org_directory.specs.Register.{Register}
use Rattle.org_directory.proofs.Mapped.{place-found}
use Rattle.org_directory.proofs.directory.Directory.find.Goals as goal

pub returns-in-Some : goal.returns-in-Some
returns-in-Some c =
    sym c.in-Some.is ∙ (c.place.ensures.place
    ∙ place-found c.args.self.now c.self.inside.objects c.self.inside.keys c.bytes.result.now c.args.key.now
    (ap (λ (reg : Register). reg.objects) c.self.view_is) c.self.invariant.0 c.bytes.ensures.value)

pub returns-in-None : goal.returns-in-None
returns-in-None c =
    sym c.in-None.is ∙ (c.place.ensures.place
    ∙ place-found c.args.self.now c.self.inside.objects c.self.inside.keys c.bytes.result.now c.args.key.now
    (ap (λ (reg : Register). reg.objects) c.self.view_is) c.self.invariant.0 c.bytes.ensures.value)
