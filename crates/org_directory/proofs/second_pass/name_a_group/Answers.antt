use Rattle.std.proofs.Common.{◌≡◌, ◌+◌, ◌||◌, false, true, drop, sym, ◌∙◌, ap}
use Rattle.std.specs.List.{list_any}
use Rattle.org_directory.specs.Reading.{names_group}
use Rattle.org_directory.proofs.Dropping.{any-step}
use Rattle.org_directory.proofs.second_pass.name_a_group.Goals as goal

pub returns-then-names_group : goal.returns-then-names_group
returns-then-names_group c =
    let on : names_group c.args.drafts.now.drafts c.name.result.now ≡ true = sym c.names_group.ensures ∙ c.if-names_group.true in
    sym (sym c.loop-i.invariant ∙ (any-step (names_group c.args.drafts.now.drafts) c.args.list.now c.loop-i.i c.name.result.now c.name.ensures
    ∙ ap (λ b. b || list_any (names_group c.args.drafts.now.drafts) (drop (c.loop-i.i + 1) c.args.list.now)) on))

pub loop-i-preserved : goal.loop-i-preserved
loop-i-preserved c =
    let off : names_group c.args.drafts.now.drafts c.name.result.now ≡ false = sym c.names_group.ensures ∙ c.if-names_group.false in
    sym (any-step (names_group c.args.drafts.now.drafts) c.args.list.now c.loop-i.i c.name.result.now c.name.ensures
    ∙ ap (λ b. b || list_any (names_group c.args.drafts.now.drafts) (drop (c.loop-i.i + 1) c.args.list.now)) off)
    ∙ c.loop-i.invariant
