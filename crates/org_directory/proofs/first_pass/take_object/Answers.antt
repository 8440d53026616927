use Rattle.std.proofs.Common.{arith, ◌≤◌, ◌≡◌, ◌+◌, ◌||◌, ◌++◌, ◌∷◌, [], nat_lt, false, length, sym, ◌∙◌, ap}
use Rattle.org_directory.specs.Register.{among}
use Rattle.org_directory.specs.Reading.{entries_in}
use Rattle.org_directory.proofs.Keeping.{few-entries, kept-push}
use Rattle.org_directory.proofs.first_pass.take_object.Goals as goal

pub returns-clause-kept : goal.returns-clause-kept
returns-clause-kept c =
    let room : (nat_lt 20000 (length c.args.drafts.now.drafts + 1) || nat_lt 200000 (c.args.drafts.now.entries + entries_in c.args.draft)) ≡ false
    = ap (λ n. nat_lt 20000 (n + 1) || nat_lt 200000 (c.args.drafts.now.entries + entries_in c.args.draft)) (sym c.len.ensures)
    ∙ (ap (λ m. nat_lt 20000 (c.len.result + 1) || nat_lt 200000 (c.args.drafts.now.entries + (m + length c.args.draft.forward))) (sym c.len-members.ensures)
    ∙ (ap (λ f. nat_lt 20000 (c.len.result + 1) || nat_lt 200000 (c.args.drafts.now.entries + (c.len-members.result + f))) (sym c.len-forwards.ensures)
    ∙ (sym c.is_too_many.ensures ∙ c.if-is_too_many.false))) in
    let absent : among c.args.draft.key c.args.drafts.now.keys ≡ false
    = ap (λ k. among k c.args.drafts.now.keys) (sym c.bytes.ensures.value) ∙ (sym c.has.ensures ∙ c.if-has.false) in
    kept-push c.args.drafts.now
    (record {
      rows = c.args.row;
      columns = c.args.drafts.now.columns;
      domains = c.args.drafts.now.domains;
      keys = c.push.new.self;
      drafts = c.push-2.new.self;
      entries = c.args.drafts.now.entries + (c.len-members.result + c.len-forwards.result);
    })
    c.args.draft c.requires.kept c.requires.fits
    (c.in_ok-push.ensures ∙ ap (λ k. c.args.drafts.now.keys ++ k ∷ []) c.bytes-2.ensures.value)
    c.in_ok-push-2.ensures.ok (ap (λ n. c.args.drafts.now.entries + (n + c.len-forwards.result)) c.len-members.ensures
    ∙ ap (λ n. c.args.drafts.now.entries + (length c.args.draft.members + n)) c.len-forwards.ensures) room absent

pub overflow_add-drafts-2 : goal.overflow_add-drafts-2
overflow_add-drafts-2 c =
    let few : c.args.drafts.now.entries + (c.len-members.result + c.len-forwards.result) ≤ 200000
    = few-entries (c.len.result + 1) (c.args.drafts.now.entries + (c.len-members.result + c.len-forwards.result)) (sym c.is_too_many.ensures ∙ c.if-is_too_many.false) in
    omega (arith, few)
