use Rattle.std.proofs.Common.{◌≡◌, ◌++◌, drop, filter}
use Rattle.std.specs.Prelude.{not}
use Rattle.categorizer.specs.declared.parts.Send.{Send}
use Rattle.categorizer.specs.Plan.{is_target}
use Rattle.categorizer.proofs.news.new_sends.Given as goal

abbrev pub invariant-loop-send : goal.invariant-loop-send
invariant-loop-send l =
    l.new ++ filter (λ (send : Send). not (is_target l.before send.target)) (drop l.send-index l.now) ≡ filter (λ (send : Send). not (is_target l.before send.target)) l.now
