-- Which deed a call is.
use Rattle.std.specs.Prelude.{◌≡◌, ℕ}
use Rattle.desk_tests.specs.declared.deed.Ask.{Ask}
use Rattle.desk_tests.specs.declared.deed.Reply.{Reply}
use Rattle.desk_tests.specs.declared.deed.Deed.{Deed}

abbrev pub IsCall : ℕ → Ask → Reply → ℕ → Deed → Type 0
IsCall seat ask reply by deed = (by ≡ seat) × (deed.ask ≡ ask) × (deed.reply ≡ reply)
