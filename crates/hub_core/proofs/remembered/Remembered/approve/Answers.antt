use Rattle.std.proofs.Common.{◌≡◌, true, ◌∙◌, ap, sym, subst}
use Rattle.std.specs.Prelude.{List, OnOk, slice_get, slice_set}
use Rattle.std.proofs.Math.Seq.{map-set_same}
use Rattle.moderation.specs.declared.approval.Verdict.TheVariants as verdicts
use Rattle.hub_core.specs.Approvals.{changed}
use Rattle.hub_core.specs.Mail.{LiveMail, decision_in, is_taken, decided_mail}
use Rattle.hub_core.proofs.Deciding.{decided-either, decided-ok, taken-within}
use Rattle.hub_core.proofs.Room.{submission_of}
use Rattle.hub_core.proofs.Repeating.{index-same}
use Rattle.hub_core.proofs.remembered.Remembered.approve.Goals as goal

pub invariant_of-self : goal.invariant_of-self
invariant_of-self g c =
    let lives = c.self.inside.lives.items in
    let old = c.index_mut.result.now in
    let new = c.approve.new.self in
    let same = decided-either c.approve.result c.args.name.now c.args.by.now verdicts.Approve c.args.moment old new c.approve.ensures.ok c.approve.ensures.err ∙ ap submission_of c.index_mut.ensures.value in
    index-same c.self.inside.index lives (slice_set lives c.args.place new) (sym (map-set_same submission_of lives c.args.place new old same)) c.self.invariant

pub returns-clause-ok : goal.returns-clause-ok
returns-clause-ok g c =
    let lives = c.self.inside.lives.items in
    let old = c.index_mut.result.now in
    let new = c.approve.new.self in
    let f = decided_mail c.args.name.now c.args.by.now verdicts.Approve c.args.moment in
    let taken : is_taken (decision_in (slice_get lives c.args.place) c.args.name.now c.args.by.now verdicts.Approve c.args.moment) ≡ true =
    subst (λ (l : List LiveMail). is_taken (decision_in (slice_get l c.args.place) c.args.name.now c.args.by.now verdicts.Approve c.args.moment) ≡ true) (sym c.self.view_is) c.requires.taken in
    subst (λ (l : List LiveMail). OnOk c.approve.result (slice_set lives c.args.place new ≡ changed f c.args.place l)) c.self.view_is
    (decided-ok c.approve.result f c.args.place lives old new (taken-within lives c.args.place c.args.name.now c.args.by.now verdicts.Approve c.args.moment taken) c.index_mut.ensures.value c.approve.ensures.ok)
