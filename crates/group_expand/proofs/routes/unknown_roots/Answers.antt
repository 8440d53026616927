use Rattle.std.proofs.Common.{◌≡◌, ◌+◌, ◌<◌, ◌++◌, ◌∷◌, suc, drop, drop-cons, get_or, length, arith, sym, ap, ◌∙◌}
use Rattle.org_directory.specs.Register.{among}
use Rattle.group_expand.specs.Ways.{fresh}
use Rattle.group_expand.specs.Routes.{keys_of, unknown_ways}
use Rattle.group_expand.proofs.Table.{unknown-step}
use Rattle.group_expand.proofs.routes.unknown_roots.Goals as goal

pub loop-root-preserved : goal.loop-root-preserved
loop-root-preserved c =
    let next : suc c.loop-root.root-index ≡ c.loop-root.root-index + 1 = omega arith in
    let below : c.loop-root.root-index < length c.args.roots.now = omega arith in
    let one : drop c.loop-root.root-index c.args.roots.now ≡ get_or c.args.roots.now c.loop-root.root-index c.root-item.result ∷ drop (suc c.loop-root.root-index) c.args.roots.now
    = drop-cons c.args.roots.now c.loop-root.root-index c.root-item.result below in
    let first : drop c.loop-root.root-index c.args.roots.now ≡ c.root-item.result ∷ drop (c.loop-root.root-index + 1) c.args.roots.now
    = cc (one, c.root-item.is, next) in
    ap (λ ks. ks ++ keys_of (fresh (λ k. among k ks) (unknown_ways c.args.directory.now (drop (c.loop-root.root-index + 1) c.args.roots.now)))) c.in_ok-add_unknown.ensures
    ∙ (sym (unknown-step c.args.directory.now c.loop-root.keys (drop (c.loop-root.root-index + 1) c.args.roots.now) c.root-item.result)
    ∙ (ap (λ rs. c.loop-root.keys ++ keys_of (fresh (λ k. among k c.loop-root.keys) (unknown_ways c.args.directory.now rs))) (sym first) ∙ c.loop-root.invariant))
