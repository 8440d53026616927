use Rattle.std.proofs.Common.{arith}
use Rattle.log_entry.specs.EntryText.{entry_text}
use Rattle.log_entry.specs.Entries.{IsEntry}
use Rattle.log_entry.proofs.Standing.{nothing_left}
use Rattle.log_entry.proofs.Forms.{one_entry}
use Rattle.log_entry.proofs.entry.Entry.read.Goals as goal

pub returns-then-end-payload : goal.returns-then-end-payload
returns-then-end-payload c = λ value is all.
    absurd (omega (arith, c.if-end-payload.true, nothing_left IsEntry entry_text one_entry c.in-Ok.entry value c.args.payload.now c.in-Ok.end c.in-Ok.ensures is all))
