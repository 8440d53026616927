use Rattle.std.proofs.Common.{◌≡◌, refl, ap, ◌∙◌, sym}
use Rattle.log_entry.specs.declared.entry.Entry.TheVariants as entries
use Rattle.hub_core.specs.declared.command.Reply.TheVariants as replies
use Rattle.hub_core.specs.Setup.{Texts, setup_of}
use Rattle.hub_core.specs.Standing.{Standing, is_lawful}
use Rattle.hub_core.specs.Replies.{reply_organise}
use Rattle.queue_store.specs.Ready.{Kept}
use Rattle.queue_store.proofs.Adding.{adds-none, adds-along}
use Rattle.queue_store.proofs.Planning.{newest_adds, other_lawful, other_adds}
use Rattle.queue_store.proofs.hub.Hub.change.Goals as goal

pub returns-then-epoch-clause-adds : goal.returns-then-epoch-clause-adds
returns-then-epoch-clause-adds g c limits h t ready =
    let setup = setup_of g.T.Planner.means limits in
    let s = c.args.self.now.state in
    let org : Texts = record { directory = c.args.directory; rules = c.args.rules } in
    let read : Texts = record { directory = c.as_slice.result.now; rules = c.as_slice-2.result.now } in
    let replied : reply_organise setup s org ≡ replies.Organised c.in-Ok-epoch_of.epoch =
    sym (c.in-Ok.ensures ∙ ap (λ (k : Kept). reply_organise setup k.state read) c.self.view_is
    ∙ (λ i. reply_organise setup s (record { directory = c.as_slice.ensures i; rules = c.as_slice-2.ensures i })))
    ∙ c.in-Ok-epoch_of.ensures in
    let now = c.if-epoch.true ∙ c.epoch.ensures ∙ ap (λ (k : Kept). k.state.epoch) c.self.view_is in
    adds-none setup _ _ h t _ (newest_adds setup s org c.in-Ok-epoch_of.epoch replied now) ready

pub returns-in-Ok-append-clause-adds : goal.returns-in-Ok-append-clause-adds
returns-in-Ok-append-clause-adds g c limits h t ready =
    let setup = setup_of g.T.Planner.means limits in
    let s = c.args.self.now.state in
    let org : Texts = record { directory = c.args.directory; rules = c.args.rules } in
    let read : Texts = record { directory = c.as_slice.result.now; rules = c.as_slice-2.result.now } in
    let replied : reply_organise setup s org ≡ replies.Organised c.in-Ok-epoch_of.epoch =
    sym (c.in-Ok.ensures ∙ ap (λ (k : Kept). reply_organise setup k.state read) c.self.view_is
    ∙ (λ i. reply_organise setup s (record { directory = c.as_slice.ensures i; rules = c.as_slice-2.ensures i })))
    ∙ c.in-Ok-epoch_of.ensures in
    let epoch = c.epoch.ensures ∙ ap (λ (k : Kept). k.state.epoch) c.self.view_is in
    let lawful = other_lawful setup s org c.in-Ok-epoch_of.epoch replied (λ now. c.if-epoch.false (now ∙ sym epoch)) in
    let stays = ap (λ (st : Standing). is_lawful setup st (entries.Organised org.directory org.rules)) (sym ready.state) ∙ lawful in
    adds-along setup _ _ _ h t _ _ (other_adds setup s org lawful) (c.in-Ok-append.ensures.adds setup h t ready (record { step = (stays, tt); told = λ i left. tt }) refl)
