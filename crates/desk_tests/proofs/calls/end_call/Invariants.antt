use Rattle.desk_tests.specs.Calls.{IsCall}
use Rattle.desk_tests.proofs.calls.end_call.Given as goal

abbrev pub ghosts-end_named : goal.ghosts-end_named
ghosts-end_named a = record { names = IsCall a.token.now.id a.ask a.reply }
