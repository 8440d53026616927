use Rattle.std.proofs.Common.{rules, ◌≡◌, ◌∙◌, ap, length}
use Rattle.group_expand.specs.Ways.{first_of_each}
use Rattle.group_expand.specs.Routes.{all_ways, shut_by}
use Rattle.group_expand.specs.Places.{no_marks}
use Rattle.group_expand.proofs.Table.{all-leaves}
use Rattle.group_expand.proofs.plain.leaf_count.Goals as goal

pub returns : goal.returns
returns c =
    let tab : c.as_slice.result.now ≡ no_marks c.args.directory.now.objects = search rules in
    c.len-2.ensures ∙ ap length (c.in_ok-ways.ensures
    ∙ (ap (λ t. first_of_each (all_ways c.args.directory.now (shut_by c.args.directory.now t) c.args.roots.now)) tab ∙ all-leaves c.args.directory.now c.args.roots.now))
