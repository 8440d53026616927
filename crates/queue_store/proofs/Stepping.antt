-- Entries that can stand behind what a hub stands for.
use Rattle.std.proofs.Common.{◌≡◌, ℕ, ◌+◌, ◌-◌, ◌≤◌, Bool, true, List, ◌++◌, Option, Some, ap, ◌∙◌, sym, subst, arith}
use Rattle.std.specs.Prelude.{◌&&◌}
use Rattle.std.proofs.lemmas.Bool.Decides.{nat_tests}
use Rattle.mail_names.specs.declared.name.ApprovalName.{ApprovalName}
use Rattle.moderation.specs.declared.approval.Verdict.{Verdict}
use Rattle.mail_plan.specs.Planning.{Input, is_release}
use Rattle.log_entry.specs.declared.entry.Entry.{Entry}
use Rattle.log_entry.specs.declared.entry.Entry.TheVariants as entries
use Rattle.mail_plan.specs.declared.release.Release.{Release}
use Rattle.plant_dev.specs.Disk.{State}
use Rattle.hub_core.specs.Setup.{Texts, Setup}
use Rattle.hub_core.specs.Mail.{LiveMail, waits, is_uncategorised, is_taken, input_of}
use Rattle.hub_core.specs.Standing.{Standing, standing, is_lawful, is_moment, mail_of, decision_of}
use Rattle.hub_core.specs.Items.{release_for}
use Rattle.hub_core.proofs.Offered.{mail-there, waiting_accepted}
use Rattle.queue_store.specs.Ready.{Kept, IsReady, Follows}
use Rattle.queue_store.specs.Planning.{IsWaiting}

both : (a b : Bool) → a ≡ true → b ≡ true → (a && b) ≡ true
both a b p q = ap (λ x. x && b) p ∙ q

waiting_lawful : (setup : Setup) (s : Standing) (number release : ℕ) (mail : LiveMail) (plan : Release) → mail_of s number ≡ Some mail → waits mail release ≡ true → is_release number release plan ≡ true →
    is_lawful setup s (entries.Categorised number release plan) ≡ true
waiting_lawful setup s number release mail plan at wait form = both _ _ (ap (λ (m : Option LiveMail). is_uncategorised m release) at ∙ wait) form

-- a release that waits can stand behind the history, and is the one that is prescribed
pub waiting_follows : (setup : Setup) (s : State) (hub : Kept) (h t : List Entry) (input : Input) (org : Texts) (plan : Release) → IsReady setup s hub h t → IsWaiting hub.state input org →
    plan ≡ setup.release_of org input → is_release input.number input.release plan ≡ true → Follows setup s (h ++ t) (entries.Categorised input.number input.release plan)
waiting_follows setup s hub h t input org plan ready waiting same form =
    let w = subst (λ (st : Standing). IsWaiting st input org) ready.state waiting in
    let mail = w.mail in
    let (some, there) = mail-there (standing setup (h ++ t)) input.number mail w.at in
    let next : input.number - 1 + 1 ≡ input.number = omega (arith, some) in
    let (a, kept, low, is) = waiting_accepted setup (h ++ t) (ready.then s.image ready.image).history (input.number - 1) input.release mail org there w.task.org w.task.waits in
    let made : plan ≡ release_for setup input.number a input.release =
    same ∙ ap (λ (i : Input). setup.release_of org i) w.task.input ∙ ap (λ n. setup.release_of org (input_of n mail input.release)) (sym next) ∙ is
    ∙ ap (λ n. release_for setup n a input.release) next in
    record { step = (waiting_lawful setup (standing setup (h ++ t)) input.number input.release mail plan w.at w.task.waits form, (a, some, kept, low, made)); told = λ c left. tt }

is_later : (s : Standing) (moment : ℕ) → s.moment ≤ moment → moment ≤ 253402300799 → is_moment s moment ≡ true
is_later s moment later last = grind (arith, nat_tests)

-- a turn's moment
pub moment_follows : (setup : Setup) (s : State) (hub : Kept) (h t : List Entry) (moment : ℕ) → IsReady setup s hub h t → hub.state.moment ≤ moment → moment ≤ 253402300799 → Follows setup s (h ++ t) (entries.Moment moment)
moment_follows setup s hub h t moment ready later last =
    record { step = (is_later (standing setup (h ++ t)) moment (subst (λ (st : Standing). st.moment ≤ moment) ready.state later) last, tt); told = λ c left. tt }

-- a decision that is taken
pub decided_follows : (setup : Setup) (s : State) (hub : Kept) (h t : List Entry) (name : ApprovalName) (by : List ℕ) (verdict : Verdict) (moment : ℕ) → IsReady setup s hub h t →
    hub.state.moment ≤ moment → moment ≤ 253402300799 → is_taken (decision_of hub.state name by verdict moment) ≡ true → Follows setup s (h ++ t) (entries.Decided name by verdict moment)
decided_follows setup s hub h t name by verdict moment ready later last taken =
    let lawful = both _ _ (is_later hub.state moment later last) taken in
    record { step = (ap (λ (st : Standing). is_lawful setup st (entries.Decided name by verdict moment)) (sym ready.state) ∙ lawful, tt); told = λ c left. tt }
