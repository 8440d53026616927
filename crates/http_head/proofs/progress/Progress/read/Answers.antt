use Rattle.std.proofs.Common.{refl}
use Rattle.http_head.proofs.Pieces.{looks, seen-more, goes-on}
use Rattle.http_head.proofs.progress.Progress.read.Goals as goal

pub returns-then-not-is_due-clause-none : goal.returns-then-not-is_due-clause-none
returns-then-not-is_due-clause-none c =
    (looks c.args.self.now c.args.text.now c.has_begun-self.result c.requires c.has_begun-self.ensures).none (c.is_due.ensures.quiet c.if-not-is_due.true)

pub returns-then-not-is_due-clause-short : goal.returns-then-not-is_due-clause-short
returns-then-not-is_due-clause-short c = c.is_due.ensures.short c.if-not-is_due.true

pub returns-then-not-is_due-clause-goes_on : goal.returns-then-not-is_due-clause-goes_on
returns-then-not-is_due-clause-goes_on c =
    let l = looks c.args.self.now c.args.text.now c.has_begun-self.result c.requires c.has_begun-self.ensures in
    λ more. seen-more _ c.args.text.now more (record { all = refl; blank = l.blank }) (l.none (c.is_due.ensures.quiet c.if-not-is_due.true))

pub returns-clause-goes_on : goal.returns-clause-goes_on
returns-clause-goes_on c =
    let l = looks c.args.self.now c.args.text.now c.has_begun-self.result c.requires c.has_begun-self.ensures in
    goes-on c.read_head.result _ c.args.text.now (record { all = refl; blank = l.blank }) c.read_head.ensures
