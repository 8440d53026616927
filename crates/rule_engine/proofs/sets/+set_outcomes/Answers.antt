use Rattle.std.proofs.Common.{◌≡◌, ◌≤◌, ◌+◌, [], length, sym, ◌∙◌, arith}
use Rattle.std.specs.Option.{option_copied}
use Rattle.rule_match.specs.Applies.{Setting}
use Rattle.rule_engine.specs.Sets.{chosen_of, others_of}
use Rattle.rule_engine.proofs.Splitting.{tail, tail-length, tail-form, nothing-in, nobody, everybody, some, as-given, from-copy}
use Rattle.rule_engine.proofs.sets.+set_outcomes.Goals as goal

pub returns-then-len-eq0 : goal.returns-then-len-eq0
returns-then-len-eq0 t c =
    let setting : Setting = record { directory = c.args.directory.now; sender = option_copied c.args.sender; moment = c.args.moment } in
    let empty : length c.in_ok-marks.field-0.chosen ≡ 0 = omega (arith, c.if-len-eq0.true, c.len.ensures) in
    let none : chosen_of setting c.args.progress.message c.rule-item.result c.args.set ≡ [] = sym c.in_ok-marks.ensures.chosen ∙ nothing-in _ empty in
    as-given setting c.args.opened.now c.args.place c.args.rules.now c.rule-item.result c.args.progress c.args.end c.args.set _
    (sym c.is_some.ensures ∙ c.if-is_some.false) c.in-len1-up.len_at_least c.rule-item.is
    (nobody setting c.args.opened.now c.args.place c.rule-item.result (tail c.args.rules.now) c.args.progress c.args.set _ _ none c.in_ok-marks.ensures.others c.in_ok-passed.ensures)

pub set_outcomes-requires-then-len-eq0-2 : goal.set_outcomes-requires-then-len-eq0-2
set_outcomes-requires-then-len-eq0-2 t c =
    let long : length c.args.rules.now ≡ length (tail c.args.rules.now) + 1 = tail-length c.args.rules.now c.rule-item.result c.in-len1-up.len_at_least c.rule-item.is in
    let all : length c.args.rules.now ≡ t = c.decreases in
    let few : c.args.place + length c.args.rules.now ≤ 100 = c.requires.few in (
      omega (arith, long, all),
      (omega (arith, long, few), tail-form c.args.rules.now c.rule-item.result c.in-len1-up.len_at_least c.rule-item.is c.requires.form),
    )

pub returns-then-len-eq0-2 : goal.returns-then-len-eq0-2
returns-then-len-eq0-2 t c =
    let setting : Setting = record { directory = c.args.directory.now; sender = option_copied c.args.sender; moment = c.args.moment } in
    let empty : length c.in_ok-marks.field-0.others ≡ 0 = omega (arith, c.if-len-eq0-2.true, c.len-2.ensures) in
    let none : others_of setting c.args.progress.message c.rule-item.result c.args.set ≡ [] = sym c.in_ok-marks.ensures.others ∙ nothing-in _ empty in
    as-given setting c.args.opened.now c.args.place c.args.rules.now c.rule-item.result c.args.progress c.args.end c.args.set _
    (sym c.is_some.ensures ∙ c.if-is_some.false) c.in-len1-up.len_at_least c.rule-item.is
    (everybody setting c.args.opened.now c.args.place c.rule-item.result (tail c.args.rules.now) c.args.progress c.args.set _ _ _ none c.in_ok-marks.ensures.chosen c.in_ok-progress.ensures c.in_ok-taken.ensures)

pub set_outcomes-requires-2 : goal.set_outcomes-requires-2
set_outcomes-requires-2 t c =
    let long : length c.args.rules.now ≡ length (tail c.args.rules.now) + 1 = tail-length c.args.rules.now c.rule-item.result c.in-len1-up.len_at_least c.rule-item.is in
    let all : length c.args.rules.now ≡ t = c.decreases in
    let few : c.args.place + length c.args.rules.now ≤ 100 = c.requires.few in (
      omega (arith, long, all),
      (omega (arith, long, few), tail-form c.args.rules.now c.rule-item.result c.in-len1-up.len_at_least c.rule-item.is c.requires.form),
    )

pub set_outcomes-requires-3 : goal.set_outcomes-requires-3
set_outcomes-requires-3 t c =
    let long : length c.args.rules.now ≡ length (tail c.args.rules.now) + 1 = tail-length c.args.rules.now c.rule-item.result c.in-len1-up.len_at_least c.rule-item.is in
    let all : length c.args.rules.now ≡ t = c.decreases in
    let few : c.args.place + length c.args.rules.now ≤ 100 = c.requires.few in (
      omega (arith, long, all),
      (omega (arith, long, few), tail-form c.args.rules.now c.rule-item.result c.in-len1-up.len_at_least c.rule-item.is c.requires.form),
    )

pub returns : goal.returns
returns t c =
    let setting : Setting = record { directory = c.args.directory.now; sender = option_copied c.args.sender; moment = c.args.moment } in
    as-given setting c.args.opened.now c.args.place c.args.rules.now c.rule-item.result c.args.progress c.args.end c.args.set _
    (sym c.is_some.ensures ∙ c.if-is_some.false) c.in-len1-up.len_at_least c.rule-item.is
    (some setting c.args.opened.now c.args.place c.rule-item.result (tail c.args.rules.now) c.args.progress c.args.set c.as_slice-2.result.now _ _ _ _ _ _
    (c.as_slice-2.ensures ∙ c.in_ok-marks.ensures.marks) c.in_ok-marks.ensures.chosen c.in_ok-marks.ensures.others c.in_ok-progress-2.ensures c.in_ok-firsts.ensures
    (from-copy setting c.args.opened.now (c.args.place + 1) (tail c.args.rules.now) _ c.args.progress _ _ c.in_ok-copied.ensures c.in_ok-seconds.ensures) c.in_ok-all.ensures)
