use Rattle.std.proofs.Common.{◌≡◌, Bool, true, false, refl, IsTrue, ◌↔◌}
use Rattle.std.proofs.lemmas.Result.{IfOk-weaker}
use Rattle.org_directory.specs.Register.{key_at}
use Rattle.org_directory.specs.Membership.{In, is_in}
use Rattle.org_directory.proofs.Chains.{in-is-computed}
use Rattle.org_directory.proofs.directory.Directory.in_group.Goals as goal

same : (b c : Bool) (P : Type 0) → IsTrue b ↔ P → (c ≡ true) ↔ P → b ≡ c
same true true P f g = refl
same false false P f g = refl
same true false P f g = absurd (cc (g.1 (f.0 refl)))
same false true P f g = absurd (cc (f.1 (g.0 refl)))

pub returns-clause-test : goal.returns-clause-test
returns-clause-test c =
    IfOk-weaker c.is_led_to.result _ _
    (λ b is. same b (is_in c.args.self.now (key_at c.args.self.now c.args.group) c.args.key.now)
    (In c.args.self.now (key_at c.args.self.now c.args.group) c.args.key.now) is
    (in-is-computed c.args.self.now (key_at c.args.self.now c.args.group) c.args.key.now))
    c.is_led_to.ensures
