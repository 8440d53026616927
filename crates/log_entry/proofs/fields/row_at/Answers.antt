use Rattle.std.proofs.Common.{◌≡◌, length, arith}
use Rattle.std.specs.List.{flat_map, AllByRecursion}
use Rattle.log_entry.proofs.Parts.{passed_on, next}
use Rattle.log_entry.proofs.fields.row_at.Goals as goal

pub returns-in_err-value : goal.returns-in_err-value
returns-in_err-value g c =
    let Is = g.F.Field.is in
    let form = g.F.Field.form in
    let bytes = c.args.bytes.now in
    let inv = c.loop.invariant in
    passed_on Is form (λ values. (length values ≡ c.args.count) × AllByRecursion Is values) (flat_map form) bytes c.args.start c.loop.at c.in_err-value.field-0.0 c.from_residual.result c.from_residual.ensures.1
    (λ x end is s. next Is form c.requires.one_form c.loop.values x bytes c.args.start c.loop.at end (omega (arith, inv.count, is.0, c.loop-test.true)) inv.each is.1 inv.there s)
    c.in_err-value.ensures
