use Rattle.std.proofs.Common.{◌≡◌, Bool, [], sym, ap, subst, ◌∙◌}
use Rattle.plant_dev.specs.Disk.{LeavesOnly}
use Rattle.plant_dev.proofs.Offered.{stays_honest}
use Rattle.hub_core.specs.declared.limits.Limits.{Limits}
use Rattle.hub_core.specs.Setup.{setup_of}
use Rattle.queue_store.specs.Stands.{MayStand, Settled}
use Rattle.queue_store.specs.Ready.{Kept, IsReady, IsOpened, Before}
use Rattle.queue_store.specs.Turning.{NotOpened}
use Rattle.queue_store.proofs.Adding.{handed}
use Rattle.queue_store.proofs.Settling.{is_broken, opened_one}
use Rattle.queue_store.proofs.hub.Hub.mend.Goals as goal

pub returns-clause-any_moment : goal.returns-clause-any_moment
returns-clause-any_moment g c limits h t stands =
    let s0 = g.P.Plant.state c.args.plant.now in
    let s1 = g.P.Plant.state c.open_as.new.plant in
    let is = is_broken (setup_of g.T.Planner.means limits) s0 c.args.self.now h t stands (sym (ap (λ (k : Kept). k.broken) c.self.view_is) ∙ c.if-not-self.false) in
    let same : c.limits.result ≡ limits = c.limits.ensures ∙ ap (λ (k : Kept). k.state.limits) c.self.view_is ∙ is.limits in
    let settled = subst (λ (l : Limits). Settled (setup_of g.T.Planner.means l) s0 h t) (sym same) is.settled in
    subst (λ (b : Bool). LeavesOnly s0 s1 (Before (setup_of g.T.Planner.means limits) b h t)) (sym is.broken)
    (subst (λ (l : Limits). LeavesOnly s0 s1 (MayStand (setup_of g.T.Planner.means l) h t)) same (c.open_as.ensures.any_moment h t is.honest settled))

pub returns-clause-mended : goal.returns-clause-mended
returns-clause-mended g c limits h t stands =
    let s0 = g.P.Plant.state c.args.plant.now in
    let s1 = g.P.Plant.state c.open_as.new.plant in
    let is = is_broken (setup_of g.T.Planner.means limits) s0 c.args.self.now h t stands (sym (ap (λ (k : Kept). k.broken) c.self.view_is) ∙ c.if-not-self.false) in
    let same : c.limits.result ≡ limits = c.limits.ensures ∙ ap (λ (k : Kept). k.state.limits) c.self.view_is ∙ is.limits in
    let settled = subst (λ (l : Limits). Settled (setup_of g.T.Planner.means l) s0 h t) (sym same) is.settled in
    let found = c.in_ok-hub.ensures.ready h t is.honest settled in
    let here = subst (λ (l : Limits). IsReady (setup_of g.T.Planner.means l) s1 c.in_ok-hub.hub found.0 []) same found.3 in
    record {
      kept = found.0;
      pending = [];
      opened = subst (λ (b : Bool). IsOpened b h t found.0 []) (sym is.broken) (opened_one h t found.0 found.1);
      ready = subst (λ (k : Kept). IsReady (setup_of g.T.Planner.means limits) s1 k found.0 []) (sym c.drop.view_is) here;
    }

pub returns-in_err-hub-clause-failed : goal.returns-in_err-hub-clause-failed
returns-in_err-hub-clause-failed g c limits h t stands =
    let setup = setup_of g.T.Planner.means limits in
    let s0 = g.P.Plant.state c.args.plant.now in
    let s1 = g.P.Plant.state c.open_as.new.plant in
    let is = is_broken setup s0 c.args.self.now h t stands (sym (ap (λ (k : Kept). k.broken) c.self.view_is) ∙ c.if-not-self.false) in
    let same : c.limits.result ≡ limits = c.limits.ensures ∙ ap (λ (k : Kept). k.state.limits) c.self.view_is ∙ is.limits in
    let settled = subst (λ (l : Limits). Settled (setup_of g.T.Planner.means l) s0 h t) (sym same) is.settled in
    let fails = c.in_err-hub.ensures.settled h t is.honest settled in
    handed (NotOpened setup c.args.self.now.broken s0 s1 c.args.self.now h t) c.in_err-hub.field-0.0 c.from_residual.result c.from_residual.ensures.1 (record {
      was = is.broken;
      why = fails.0;
      still = record {
        honest = stays_honest s0 s1 c.open_as.ensures.stays is.honest;
        broken = is.broken;
        limits = is.limits;
        settled = subst (λ (l : Limits). Settled (setup_of g.T.Planner.means l) s1 h t) same fails.1;
      };
      moments = subst (λ (l : Limits). LeavesOnly s0 s1 (MayStand (setup_of g.T.Planner.means l) h t)) same (c.open_as.ensures.any_moment h t is.honest settled);
    })
