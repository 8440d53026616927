use Rattle.std.proofs.Common.{◌≡◌, ◌+◌, ◌<◌, ◌∷◌, [], suc, drop, drop-cons, get_or, length, arith, subst, sym, ◌∙◌, List}
use Rattle.group_expand.specs.declared.way.Way.{Way}
use Rattle.group_expand.specs.Gates.{shuts}
use Rattle.group_expand.specs.Places.{Holds}
use Rattle.group_expand.specs.Routes.{all_ways}
use Rattle.group_expand.specs.Ways.{first_of_each}
use Rattle.group_expand.proofs.walk.walk_roots.Goals as goal

pub loop-root-preserved : goal.loop-root-preserved
loop-root-preserved g c =
    let next : suc c.loop-root.root-index ≡ c.loop-root.root-index + 1 = omega arith in
    let below : c.loop-root.root-index < length c.args.roots.now = omega arith in
    let one : drop c.loop-root.root-index c.args.roots.now ≡ get_or c.args.roots.now c.loop-root.root-index c.root-item.result ∷ drop (suc c.loop-root.root-index) c.args.roots.now
    = drop-cons c.args.roots.now c.loop-root.root-index c.root-item.result below in
    let first : drop c.loop-root.root-index c.args.roots.now ≡ c.root-item.result ∷ drop (c.loop-root.root-index + 1) c.args.roots.now
    = cc (one, c.root-item.is, next) in
    let whole : List Way = first_of_each (all_ways c.args.directory.now (shuts c.args.directory.now c.args.gates.now) c.args.roots.now) in
    let same : shuts c.args.directory.now c.loop-root.gates ≡ shuts c.args.directory.now c.args.gates.now = c.loop-root.invariant.4.same in (
      c.in_ok-root_step.ensures.ready,
      c.in_ok-root_step.ensures.done,
      subst (λ f. Holds c.args.directory.now f whole (drop (c.loop-root.root-index + 1) c.args.roots.now) c.root_step.new.marks [] c.root_step.new.found) same
          (c.in_ok-root_step.ensures.holds whole (drop (c.loop-root.root-index + 1) c.args.roots.now)
          (subst (λ f. Holds c.args.directory.now f whole (c.root-item.result ∷ drop (c.loop-root.root-index + 1) c.args.roots.now) c.loop-root.marks [] c.loop-root.found) (sym same)
          (subst (λ rs. Holds c.args.directory.now (shuts c.args.directory.now c.args.gates.now) whole rs c.loop-root.marks [] c.loop-root.found) first c.loop-root.invariant.2))),
      omega (arith, c.in_ok-root_step.ensures.cost, c.loop-root.invariant.3),
      record { ready = c.in_ok-root_step.ensures.gates.ready; same = c.in_ok-root_step.ensures.gates.same ∙ same },
    )
