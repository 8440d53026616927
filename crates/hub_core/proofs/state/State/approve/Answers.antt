use Rattle.std.proofs.Common.{rules, ◌≡◌, ◌-◌, ap, ◌∙◌, sym}
use Rattle.moderation.specs.declared.approval.Verdict.TheVariants as verdicts
use Rattle.hub_core.specs.Approvals.{changed}
use Rattle.hub_core.specs.Mail.{decided_mail}
use Rattle.hub_core.specs.Standing.{live_bytes}
use Rattle.hub_core.proofs.Room.{bytes-decided}
use Rattle.hub_core.proofs.Judging.{moment-last}
use Rattle.hub_core.proofs.state.State.approve.Goals as goal

pub invariant_of-self-2 : goal.invariant_of-self-2
invariant_of-self-2 g c =
    let name = c.args.name.now in
    let live = c.self.inside.live in
    let decided : c.approve.new.self ≡ changed (decided_mail name c.args.by.now verdicts.Approve c.args.moment) (name.submission - 1) live = search rules in (
      moment-last c.args.self.now c.args.moment c.requires.moment,
      c.self.invariant.1 ∙ sym (bytes-decided name c.args.by.now verdicts.Approve c.args.moment (name.submission - 1) live) ∙ ap live_bytes (sym decided),
    )
