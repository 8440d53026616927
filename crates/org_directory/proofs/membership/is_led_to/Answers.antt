use Rattle.std.proofs.Common.{◌≡◌, ◌<◌, ◌≤◌, ◌+◌, ◌++◌, arith, true, false, sym, ◌∙◌, ap, subst, length, All, refl}
use Rattle.std.specs.Prelude.{slice_get, Some}
use Rattle.org_directory.specs.Register.{among, keys_at, members_in}
use Rattle.org_directory.specs.Marks.{marked, newly}
use Rattle.org_directory.proofs.Seeking.{Seeking, got-at, seek-found, seek-more, seek-none, seek-smaller, within-of}
use Rattle.org_directory.proofs.membership.is_led_to.Goals as goal

pub lists-requires : goal.lists-requires
lists-requires c =
    subst (λ ms. All (λ p. p < length c.args.directory.now.objects) ms) (sym c.as_slice-members.ensures)
    (c.requires.sound.placed c.index.result.now c.object.result.now c.object.ensures).members

pub returns-then-lists : goal.returns-then-lists
returns-then-lists c =
    let more : c.loop-done.done < length c.loop-done.queue.items = omega (arith, c.loop-done-test.true, c.len.ensures) in
    let at : slice_get c.loop-done.queue.items c.loop-done.done ≡ Some c.index.result.now
    = got-at c.loop-done.queue.items c.loop-done.done c.index.result.now more c.index.ensures in
    let found : among c.args.key.now (keys_at c.args.directory.now (members_in (slice_get c.args.directory.now.objects c.index.result.now))) ≡ true
    = ap (λ o. among c.args.key.now (keys_at c.args.directory.now (members_in o))) c.object.ensures
    ∙ (ap (λ ms. among c.args.key.now (keys_at c.args.directory.now ms)) (sym c.as_slice-members.ensures) ∙ (sym c.lists.ensures ∙ c.if-lists.true)) in (
      λ _. seek-found c.args.directory.now c.args.group c.args.key.now c.loop-done.marks c.loop-done.queue.items c.loop-done.done c.index.result.now
          c.requires.sound c.loop-done.invariant more at found,
      λ _. refl,
    )

pub queue_places-requires : goal.queue_places-requires
queue_places-requires c =
    subst (λ ms. All (λ p. p < length c.loop-done.marks) ms) (sym c.as_slice-members.ensures)
    (subst (λ n. All (λ p. p < n) c.object.result.now.members) (sym c.loop-done.invariant.long)
    (c.requires.sound.placed c.index.result.now c.object.result.now c.object.ensures).members)

pub loop-done-smaller : goal.loop-done-smaller
loop-done-smaller c =
    let more : c.loop-done.done < length c.loop-done.queue.items = omega (arith, c.loop-done-test.true, c.len.ensures) in
    seek-smaller c.loop-done.marks c.queue_places.new.marks c.loop-done.queue.items c.queue_places.new.queue.items c.object.result.now.members c.loop-done.done
    (within-of c.loop-done.marks (length c.args.directory.now.objects) c.object.result.now.members c.loop-done.invariant.long
    (c.requires.sound.placed c.index.result.now c.object.result.now c.object.ensures).members)
    (c.in_ok-queue_places.ensures.marks ∙ ap (marked c.loop-done.marks) c.as_slice-members.ensures)
    (c.in_ok-queue_places.ensures.queue ∙ ap (λ ms. c.loop-done.queue.items ++ newly c.loop-done.marks ms) c.as_slice-members.ensures)
    more

pub loop-done-preserved : goal.loop-done-preserved
loop-done-preserved c =
    let more : c.loop-done.done < length c.loop-done.queue.items = omega (arith, c.loop-done-test.true, c.len.ensures) in
    let at : slice_get c.loop-done.queue.items c.loop-done.done ≡ Some c.index.result.now
    = got-at c.loop-done.queue.items c.loop-done.done c.index.result.now more c.index.ensures in
    let off : among c.args.key.now (keys_at c.args.directory.now c.object.result.now.members) ≡ false
    = ap (λ ms. among c.args.key.now (keys_at c.args.directory.now ms)) (sym c.as_slice-members.ensures) ∙ (sym c.lists.ensures ∙ c.if-lists.false) in
    subst (λ m. Seeking c.args.directory.now c.args.group c.args.key.now m c.queue_places.new.queue.items (c.loop-done.done + 1))
    (sym (c.in_ok-queue_places.ensures.marks ∙ ap (marked c.loop-done.marks) c.as_slice-members.ensures))
    (subst (λ q. Seeking c.args.directory.now c.args.group c.args.key.now (marked c.loop-done.marks c.object.result.now.members) q (c.loop-done.done + 1))
    (sym (c.in_ok-queue_places.ensures.queue ∙ ap (λ ms. c.loop-done.queue.items ++ newly c.loop-done.marks ms) c.as_slice-members.ensures))
    (seek-more c.args.directory.now c.args.group c.args.key.now c.loop-done.marks c.loop-done.queue.items c.loop-done.done c.index.result.now c.object.result.now
    c.requires.sound c.loop-done.invariant more at c.object.ensures off))

pub returns : goal.returns
returns c =
    let all : length c.loop-done.queue.items ≤ c.loop-done.done = omega (arith, c.loop-done-test.false, c.len.ensures) in (
      λ h. absurd (cc h),
      λ h. absurd (seek-none c.args.directory.now c.args.group c.args.key.now c.loop-done.marks c.loop-done.queue.items c.loop-done.done
          c.requires.sound c.loop-done.invariant all h),
    )
