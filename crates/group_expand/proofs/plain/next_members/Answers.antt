use Rattle.std.proofs.Common.{◌<◌, All, length, sym, subst}
use Rattle.org_directory.proofs.Offered.{onward-below}
use Rattle.std.proofs.lemmas.Result.{IfOk-weaker}
use Rattle.group_expand.proofs.plain.next_members.Goals as goal

pub returns-in-Some-clause-range : goal.returns-in-Some-clause-range
returns-in-Some-clause-range c =
    IfOk-weaker c.onward.result _ _
    (λ ps is. subst (λ xs. All (λ p. p < length c.args.directory.now.objects) xs) (sym is)
    (onward-below (length c.args.directory.now.objects) c.object.result.now (c.is_sound.ensures.placed c.in-Some.place c.object.result.now c.object.ensures)))
    c.onward.ensures
