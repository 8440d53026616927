use Rattle.hub_core.specs.Setup.{setup_of}
use Rattle.queue_store.proofs.Adding.{may_moments}
use Rattle.queue_store.proofs.hub.Hub.next_number.Goals as goal

pub returns-clause-any_moment : goal.returns-clause-any_moment
returns-clause-any_moment g c limits h t stands = may_moments (setup_of g.T.Planner.means limits) _ _ c.args.self.now.broken h t (c.mend.ensures.any_moment limits h t stands)

pub returns-in_err-mend-clause-any_moment : goal.returns-in_err-mend-clause-any_moment
returns-in_err-mend-clause-any_moment g c limits h t stands = may_moments (setup_of g.T.Planner.means limits) _ _ c.args.self.now.broken h t (c.mend.ensures.any_moment limits h t stands)
