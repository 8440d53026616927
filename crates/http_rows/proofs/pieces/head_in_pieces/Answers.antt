use Rattle.std.proofs.Common.{◌≡◌, ◌+◌, ◌-◌, ◌≤◌, ◌++◌, take, drop, sym, ap, ◌∙◌, subst, arith}
use Rattle.std.proofs.Math.Seq.{take-add}
use Rattle.http_head.specs.Progress.{IsProgress}
use Rattle.http_rows.proofs.pieces.head_in_pieces.Goals as goal

pub read-requires : goal.read-requires
read-requires c =
    let text = c.args.text.now in
    let last = c.loop-end.end in
    let end = c.min-end.result in
    let later : last ≤ end = omega (arith, c.min-end.ensures, c.saturating_add.ensures, c.loop-end-test.true) in
    let grown : take last text ++ take (end - last) (drop last text) ≡ take end text =
    sym (take-add last (end - last) text) ∙ (let same : last + (end - last) ≡ end = omega (arith, later) in ap (λ n. take n text) same) in
    subst (IsProgress c.loop-end.progress) grown (c.loop-end.invariant (take (end - last) (drop last text)))
