use Rattle.std.proofs.Common.{◌∙◌, ap, length}
use Rattle.group_expand.specs.Ways.{first_of_each}
use Rattle.group_expand.specs.Routes.{all_ways}
use Rattle.group_expand.proofs.Table.{open-leaves}
use Rattle.group_expand.proofs.routes.leaf_count.Goals as goal

pub returns-clause-count : goal.returns-clause-count
returns-clause-count g c =
    c.len.ensures ∙ ap length (c.in_ok-ways.ensures.ways
    ∙ (ap (λ f. first_of_each (all_ways c.args.directory.now f c.args.roots.now)) c.in_ok-gates.ensures.shut ∙ open-leaves c.args.directory.now c.args.roots.now))
