use Rattle.std.proofs.Common.{◌∙◌, ap, sym, Some}
use Rattle.std.specs.Option.{option_copied}
use Rattle.pickup_box.specs.Folder.{bytes_in}
use Rattle.pickup_box.proofs.Filing.{made_so, renames, distinct_renamed}
use Rattle.pickup_box.proofs.memory.rename_in.Goals as goal

pub returns-clause-ok : goal.returns-clause-ok
returns-clause-ok c =
    renames c.args.from.now c.args.to.now c.in_ok-bytes.bytes c.args.files.now.items c.push.new.self.items
    (made_so c.args.from.now c.args.to.now c.in_ok-bytes.bytes c.args.files.now.items _ _ _ c.push.new.self.items c.in_ok-name.name c.reserve.ensures.items c.take_away.ensures.files c.take_away-2.ensures.files c.in_ok-name.ensures c.in_ok-push.ensures.items)
    (ap (λ fs. bytes_in fs c.args.from.now) (sym c.as_slice.ensures.value) ∙ sym c.bytes_in.ensures ∙ ap option_copied c.unwrap.ensures ∙ ap Some (sym c.in_ok-bytes.ensures))

pub returns-clause-distinct : goal.returns-clause-distinct
returns-clause-distinct c =
    distinct_renamed c.args.from.now c.args.to.now c.in_ok-bytes.bytes c.args.files.now.items c.push.new.self.items
    (made_so c.args.from.now c.args.to.now c.in_ok-bytes.bytes c.args.files.now.items _ _ _ c.push.new.self.items c.in_ok-name.name c.reserve.ensures.items c.take_away.ensures.files c.take_away-2.ensures.files c.in_ok-name.ensures c.in_ok-push.ensures.items)
