use Rattle.std.proofs.Common.{◌≡◌, ◌≤◌, ◌/◌, List, ℕ, length, take, sym, subst, arith, length-take, Result, Ok, Err, OnOk}
use Rattle.mail_names.specs.declared.bytes.NoMemory.{NoMemory}
use Rattle.plant_dev.specs.Disk.{Torn}
use Rattle.plant_dev.specs.Memory.{put_at}
use Rattle.plant_dev.specs.MemoryLaws.{put_at_torn}
use Rattle.plant_dev.proofs.MemoryModel.{torn_more}
use Rattle.plant_dev.proofs.replay.cut_short.Goals as goal

half : (r : Result (Unit {0}) NoMemory) (at m : ℕ) (bytes old after : List ℕ) → m ≤ length bytes → OnOk r (after ≡ put_at at (take m bytes) old) → OnOk r (Torn at (length bytes) old after)
half (Err _) at m bytes old after le is = tt
half (Ok _) at m bytes old after le is =
    subst (Torn at (length bytes) old) (sym is) (torn_more at (length (take m bytes)) (length bytes) old (put_at at (take m bytes) old) (omega (arith, length-take m bytes)) (put_at_torn at (take m bytes) old))

pub returns-in-1 : goal.returns-in-1
returns-in-1 c = half c.write_into.result c.args.at (length c.args.bytes.now / 2) c.args.bytes.now c.args.file.now.items c.write_into.new.file.items (omega arith) c.write_into.ensures.ok
