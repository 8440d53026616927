use Rattle.std.proofs.Common.{[], refl, arith}
use Rattle.http_head.proofs.Pieces.{blank-none}
use Rattle.http_head.proofs.progress.Progress.new.Goals as goal

pub returns : goal.returns
returns c = λ text. record { within = omega arith; none = blank-none [] refl; blank = λ h. refl }
