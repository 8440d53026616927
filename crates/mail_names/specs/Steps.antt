-- Routes by steps.
use Rattle.std.specs.Prelude.{Bool, true, false, List}
use Rattle.std.specs.List.{list_any}
use Rattle.mail_names.specs.declared.route.How.{How}
use Rattle.mail_names.specs.declared.route.How.TheVariants as hows
use Rattle.mail_names.specs.declared.route.Step.{Step}

abbrev pub is_forward : How → Bool
is_forward hows.Expanded = false
is_forward hows.Forwarded = true

-- a mailbox forwarded at one of these steps
abbrev pub has_forward : List Step → Bool
has_forward steps = list_any (λ (s : Step). is_forward s.how) steps
