use Rattle.std.proofs.Common.{rules, ◌≡◌, ◌+◌, ◌++◌, ◌∷◌, [], length, ap, arith}
use Rattle.mail_submission.specs.Submission.{Submitted}
use Rattle.hub_core.specs.Standing.{live_bytes}
use Rattle.hub_core.proofs.Room.{bytes-push}
use Rattle.hub_core.proofs.state.State.accept.Goals as goal

pub invariant_of-self-2 : goal.invariant_of-self-2
invariant_of-self-2 g c =
    let live = c.in_ok-live.live in
    let pushed : c.push.new.self ≡ c.self.inside.live ++ live ∷ [] = search rules in
    let same : live.submission ≡ c.args.submission = search rules in (
      search rules,
      omega (arith, c.self.invariant.1, ap live_bytes pushed, bytes-push c.self.inside.live live, ap length c.bytes.ensures.value, ap (λ (s : Submitted). length s.bytes) same),
    )
