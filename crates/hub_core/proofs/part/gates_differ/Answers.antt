use Rattle.std.proofs.Common.{◌≡◌, false, get_or, ap, sym, ◌∙◌, inl, inr, arith}
use Rattle.mail_names.specs.Gates.{same_gate}
use Rattle.hub_core.proofs.Comparing.{moved_by, moved_zero, differ_here, first_ends, second_ends}
use Rattle.hub_core.proofs.part.gates_differ.Goals as goal
use Rattle.hub_core.proofs.part.gates_differ.Goals.{then-loop-place-test+then-place-b+else-same_gate, then-loop-place-test+else-place-b, else-loop-place-test}

pub returns-then-place-b-2 : goal.returns-then-place-b-2
returns-then-place-b-2 c =
    let k = c.loop-place.place in
    let xs = c.args.a.now in
    let ys = c.args.b.now in
    let so_far = c.loop-place.invariant.2 in
    elim c.loop-place-test.branch [
      | then-loop-place-test+then-place-b+else-same_gate w ↦
          let differ : same_gate (get_or xs k w.index-a-place.result) (get_or ys k w.index-b-place.result) ≡ false =
          ap (λ x. same_gate x (get_or ys k w.index-b-place.result)) (sym w.index-a-place.is) ∙ ap (λ y. same_gate w.index-a-place.result y) (sym w.index-b-place.is)
          ∙ sym w.same_gate.ensures ∙ w.if-same_gate.false in
          sym
          (so_far ∙ ap (moved_by k) (differ_here same_gate xs ys k w.index-a-place.result w.index-b-place.result w.loop-place-test.true w.if-place-b.true differ)
          ∙ moved_zero k)
      | then-loop-place-test+else-place-b w ↦ sym (so_far ∙ ap (moved_by k) (second_ends same_gate xs ys k w.loop-place-test.true w.if-place-b.false) ∙ moved_zero k)
      | else-loop-place-test w ↦
          let at = w.loop-place-test.false in
          elim c.if-place-b-2.either [
            | inl below ↦ absurd (omega (arith, below, at))
            | inr rest ↦ sym (so_far ∙ ap (moved_by k) (first_ends same_gate xs ys k at (omega (arith, rest))) ∙ moved_zero k)
          ]
    ]
