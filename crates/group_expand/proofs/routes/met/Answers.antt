use Rattle.std.proofs.Common.{◌≡◌, ◌∙◌, ap, subst, ℕ, List, Bool}
use Rattle.std.specs.Prelude.{not, filter, map, IfOk, option_copied}
use Rattle.group_expand.specs.Ways.{first_of_each}
use Rattle.group_expand.specs.Routes.{all_ways, leaves, closed_met}
use Rattle.group_expand.specs.Expansion.{is_closed, leaf_of, closed_of}
use Rattle.group_expand.specs.Gates.{shuts}
use Rattle.group_expand.proofs.Table.{leaves-from, closed-from}
use Rattle.group_expand.proofs.routes.met.Goals as goal

pub returns-clause-leaves : goal.returns-clause-leaves
returns-clause-leaves g c =
    let asked : List ℕ → Bool = is_closed c.args.directory.now (option_copied c.args.sender) c.args.opened.now in
    let same : shuts c.args.directory.now c.first_ways.new.gates ≡ asked = c.in_ok-ways.ensures.gates.same ∙ c.in_ok-gates.ensures.shut in
    let items : c.into_vec.result.items ≡ first_of_each (all_ways c.args.directory.now asked c.args.roots.now)
    = c.into_vec.ensures ∙ (c.in_ok-ways.ensures.ways ∙ ap (λ f. first_of_each (all_ways c.args.directory.now f c.args.roots.now)) c.in_ok-gates.ensures.shut) in
    let whole : filter (λ w. not (shuts c.args.directory.now c.first_ways.new.gates w.key)) c.into_vec.result.items ≡ leaves c.args.directory.now asked c.args.roots.now
    = ap (λ f. filter (λ w. not (f w.key)) c.into_vec.result.items) same
    ∙ (ap (λ ws. filter (λ w. not (asked w.key)) ws) items ∙ leaves-from c.args.directory.now asked c.args.roots.now) in
    subst (λ x. IfOk c.parted.result (λ parts. parts.0 ≡ map (leaf_of c.args.directory.now) x)) whole c.parted.ensures.leaves

pub returns-clause-closed : goal.returns-clause-closed
returns-clause-closed g c =
    let asked : List ℕ → Bool = is_closed c.args.directory.now (option_copied c.args.sender) c.args.opened.now in
    let same : shuts c.args.directory.now c.first_ways.new.gates ≡ asked = c.in_ok-ways.ensures.gates.same ∙ c.in_ok-gates.ensures.shut in
    let items : c.into_vec.result.items ≡ first_of_each (all_ways c.args.directory.now asked c.args.roots.now)
    = c.into_vec.ensures ∙ (c.in_ok-ways.ensures.ways ∙ ap (λ f. first_of_each (all_ways c.args.directory.now f c.args.roots.now)) c.in_ok-gates.ensures.shut) in
    let whole : filter (λ w. shuts c.args.directory.now c.first_ways.new.gates w.key) c.into_vec.result.items ≡ closed_met c.args.directory.now asked c.args.roots.now
    = ap (λ f. filter (λ w. f w.key) c.into_vec.result.items) same
    ∙ (ap (λ ws. filter (λ w. asked w.key) ws) items ∙ closed-from c.args.directory.now asked c.args.roots.now) in
    subst (λ x. IfOk c.parted.result (λ parts. parts.1 ≡ map (closed_of c.args.directory.now) x)) whole c.parted.ensures.closed
