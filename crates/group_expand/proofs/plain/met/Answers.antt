use Rattle.std.proofs.Common.{◌≡◌, ◌∙◌, ap, subst}
use Rattle.std.specs.Prelude.{not, filter, map, IfOk, option_copied}
use Rattle.group_expand.specs.Ways.{first_of_each}
use Rattle.group_expand.specs.Routes.{all_ways, shut_by, leaves, closed_met}
use Rattle.group_expand.specs.Expansion.{is_closed, leaf_of, closed_of}
use Rattle.group_expand.proofs.Table.{closed-table, leaves-from, closed-from}
use Rattle.group_expand.proofs.plain.met.Goals as goal

pub returns-clause-leaves : goal.returns-clause-leaves
returns-clause-leaves c =
    let table-is : shut_by c.args.directory.now c.in_ok-table.table.items ≡ is_closed c.args.directory.now (option_copied c.args.sender) c.args.opened.now
    = closed-table c.args.directory.now (option_copied c.args.sender) c.args.opened.now c.in_ok-table.table.items c.in_ok-table.ensures in
    let shut1 : shut_by c.args.directory.now c.as_slice.result.now ≡ is_closed c.args.directory.now (option_copied c.args.sender) c.args.opened.now
    = ap (shut_by c.args.directory.now) c.as_slice.ensures.value ∙ table-is in
    let shut2 : shut_by c.args.directory.now c.as_slice-2.result.now ≡ is_closed c.args.directory.now (option_copied c.args.sender) c.args.opened.now
    = ap (shut_by c.args.directory.now) c.as_slice-2.ensures.value ∙ table-is in
    let items : c.into_vec.result.items ≡ first_of_each (all_ways c.args.directory.now (is_closed c.args.directory.now (option_copied c.args.sender) c.args.opened.now) c.args.roots.now)
    = c.into_vec.ensures ∙ (c.in_ok-ways.ensures ∙ ap (λ f. first_of_each (all_ways c.args.directory.now f c.args.roots.now)) shut1) in
    let whole : filter (λ w. not (shut_by c.args.directory.now c.as_slice-2.result.now w.key)) c.into_vec.result.items ≡ leaves c.args.directory.now (is_closed c.args.directory.now (option_copied c.args.sender) c.args.opened.now) c.args.roots.now
    = ap (λ f. filter (λ w. not (f w.key)) c.into_vec.result.items) shut2
    ∙ (ap (λ ws. filter (λ w. not (is_closed c.args.directory.now (option_copied c.args.sender) c.args.opened.now w.key)) ws) items ∙ leaves-from c.args.directory.now (is_closed c.args.directory.now (option_copied c.args.sender) c.args.opened.now) c.args.roots.now) in
    subst (λ x. IfOk c.parted.result (λ parts. parts.0 ≡ map (leaf_of c.args.directory.now) x)) whole c.parted.ensures.leaves

pub returns-clause-closed : goal.returns-clause-closed
returns-clause-closed c =
    let table-is : shut_by c.args.directory.now c.in_ok-table.table.items ≡ is_closed c.args.directory.now (option_copied c.args.sender) c.args.opened.now
    = closed-table c.args.directory.now (option_copied c.args.sender) c.args.opened.now c.in_ok-table.table.items c.in_ok-table.ensures in
    let shut1 : shut_by c.args.directory.now c.as_slice.result.now ≡ is_closed c.args.directory.now (option_copied c.args.sender) c.args.opened.now
    = ap (shut_by c.args.directory.now) c.as_slice.ensures.value ∙ table-is in
    let shut2 : shut_by c.args.directory.now c.as_slice-2.result.now ≡ is_closed c.args.directory.now (option_copied c.args.sender) c.args.opened.now
    = ap (shut_by c.args.directory.now) c.as_slice-2.ensures.value ∙ table-is in
    let items : c.into_vec.result.items ≡ first_of_each (all_ways c.args.directory.now (is_closed c.args.directory.now (option_copied c.args.sender) c.args.opened.now) c.args.roots.now)
    = c.into_vec.ensures ∙ (c.in_ok-ways.ensures ∙ ap (λ f. first_of_each (all_ways c.args.directory.now f c.args.roots.now)) shut1) in
    let whole : filter (λ w. shut_by c.args.directory.now c.as_slice-2.result.now w.key) c.into_vec.result.items ≡ closed_met c.args.directory.now (is_closed c.args.directory.now (option_copied c.args.sender) c.args.opened.now) c.args.roots.now
    = ap (λ f. filter (λ w. f w.key) c.into_vec.result.items) shut2
    ∙ (ap (λ ws. filter (λ w. is_closed c.args.directory.now (option_copied c.args.sender) c.args.opened.now w.key) ws) items ∙ closed-from c.args.directory.now (is_closed c.args.directory.now (option_copied c.args.sender) c.args.opened.now) c.args.roots.now) in
    subst (λ x. IfOk c.parted.result (λ parts. parts.1 ≡ map (closed_of c.args.directory.now) x)) whole c.parted.ensures.closed
