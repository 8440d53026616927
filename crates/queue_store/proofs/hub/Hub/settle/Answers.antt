use Rattle.std.proofs.Common.{◌∙◌, sym, ap}
use Rattle.queue_store.specs.Ready.{Kept}
use Rattle.queue_store.proofs.Settling.{is_ready}
use Rattle.queue_store.proofs.hub.Hub.settle.Goals as goal

pub returns-clause-settles : goal.returns-clause-settles
returns-clause-settles g c setup h t stands =
    c.settle_open.ensures.settles setup h t (is_ready setup _ c.args.self.now h t stands (sym (ap (λ (k : Kept). k.broken) c.self.view_is) ∙ c.if-self.false))

pub returns-clause-failed : goal.returns-clause-failed
returns-clause-failed g c setup h t same stands =
    c.settle_open.ensures.failed setup h t (is_ready setup _ c.args.self.now h t stands (sym (ap (λ (k : Kept). k.broken) c.self.view_is) ∙ c.if-self.false))

pub returns-clause-any_moment : goal.returns-clause-any_moment
returns-clause-any_moment g c setup h t stands =
    c.settle_open.ensures.any_moment setup h t (is_ready setup _ c.args.self.now h t stands (sym (ap (λ (k : Kept). k.broken) c.self.view_is) ∙ c.if-self.false))
