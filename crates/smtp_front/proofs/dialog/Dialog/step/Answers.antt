use Rattle.std.proofs.Common.{◌≡◌, ◌+◌, ◌-◌, ◌<◌, ◌≤◌, List, ℕ, [], ◌∷◌, ◌++◌, length, take, drop, get_or, ap, ◌∙◌, sym, subst, arith}
use Rattle.std.specs.List.{before_first}
use Rattle.std.proofs.lemmas.List.{drop_more, take_rest, length-drop, length-append}
use Rattle.smtp_front.specs.Commands.{is_byte}
use Rattle.smtp_front.proofs.Cutting.{NoFeed, no_feed-before, no_line-run, no_line-add, run-then, feed-next}
use Rattle.smtp_front.proofs.Holding.{more}
use Rattle.smtp_front.proofs.dialog.Dialog.step.Goals as goal

-- what stands before the next LF
run-is : (held read run : List ℕ) (at : ℕ) → read ≡ held → run ≡ before_first (is_byte 10) (take (length read - at) (drop at read)) →
    run ≡ before_first (is_byte 10) (drop at held)
run-is held read run at e is =
    is ∙ ap (before_first (is_byte 10)) (take_rest read at) ∙ ap (λ (xs : List ℕ). before_first (is_byte 10) (drop at xs)) e

-- that next octet, where nothing stands before the next LF
feed-at : (held run : List ℕ) (at : ℕ) → at < length held → run ≡ before_first (is_byte 10) (drop at held) → length run ≤ 0 → get_or held at 0 ≡ 10
feed-at held run at within is none =
    let here = drop_more held at 0 within in
    let left : 0 < length (drop at held) = omega (arith, length-drop at held) in
    let short : length (before_first (is_byte 10) (drop at held)) ≡ 0 = omega (arith, ap length is, none) in
    sym (ap (λ (xs : List ℕ). get_or xs 0 0) here) ∙ feed-next (drop at held) left short

pub returns-then-count-gt0-clause-ok : goal.returns-then-count-gt0-clause-ok
returns-then-count-gt0-clause-ok c = λ held holds.
    let d = c.args.self.now in
    let run = c.before-run.result.now in
    let is : run ≡ before_first (is_byte 10) (drop d.at d.held) = run-is d.held c.as_slice.result.now run d.at c.as_slice.ensures c.before-run.ensures in
    let at : drop d.at d.held ≡ run ++ drop (d.at + length run) d.held = run-then d.held run d.at is in
    let within : d.at + length run ≤ length d.held = omega (arith, c.requires, simp length-append at (ap length at), length-drop d.at d.held) in
    more d held run (d.at + length run) c.add.new.self holds within at (λ t is. c.in_ok-add.ensures.ok t is)
    (λ t is_part no. no_line-run t run no (subst (λ (r : List ℕ). NoFeed r) (sym is) (no_feed-before (drop d.at d.held))))

pub returns-clause-ok : goal.returns-clause-ok
returns-clause-ok c = λ held holds.
    let d = c.args.self.now in
    let run = c.before-run.result.now in
    let is : run ≡ before_first (is_byte 10) (drop d.at d.held) = run-is d.held c.as_slice.result.now run d.at c.as_slice.ensures c.before-run.ensures in
    let lf : get_or d.held d.at 0 ≡ 10 = feed-at d.held run d.at c.requires is c.if-count-gt0.false in
    let at : drop d.at d.held ≡ 10 ∷ drop (d.at + 1) d.held = drop_more d.held d.at 0 c.requires ∙ ap (λ b. b ∷ drop (d.at + 1) d.held) lf in
    more d held (10 ∷ []) (d.at + 1) c.add-2.new.self holds (omega (arith, c.requires)) at (λ t is. c.in_ok-add-2.ensures.ok t is)
    (λ t is_part no. no_line-add t 10 no (sym (c.if-ends_cr.ensures.text t is_part)))
