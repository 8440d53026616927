use Rattle.std.proofs.Common.{ap, ◌++◌, [], List, ℕ}
use Rattle.log_entry.proofs.Forms.{one_entry}
use Rattle.log_entry.proofs.laws.one_entry.Goals as goal

pub returns : goal.returns
returns c = λ a b here there same. (one_entry a b [] [] here there (ap (λ (l : List ℕ). l ++ []) same)).0
