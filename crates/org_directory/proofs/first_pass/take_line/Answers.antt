use Rattle.std.proofs.Common.{◌≡◌, Some, sym, ◌∙◌, ap}
use Rattle.csv.specs.Records.{fields_of}
use Rattle.org_directory.specs.Lines.{line_of}
use Rattle.org_directory.specs.declared.draft.Line.{Line}
use Rattle.org_directory.specs.declared.draft.Line.TheVariants as lines
use Rattle.org_directory.proofs.Keeping.{fits-of, line_fits, line-fits}
use Rattle.org_directory.proofs.first_pass.take_line.Goals as goal

pub take_object-requires-clause-fits : goal.take_object-requires-clause-fits
take_object-requires-clause-fits c =
    let is : Some (lines.Object c.in-Some-Object.draft) ≡ line_of c.args.drafts.now.columns c.args.row (fields_of c.args.fields.now)
    = ap (λ (l : Line). Some l) (sym c.in-Some-Object.field-0-is) ∙ (sym c.in-Some-Object.is ∙ c.in_ok-read_line.ensures) in
    fits-of c.in-Some-Object.draft (ap line_fits is ∙ line-fits c.args.drafts.now.columns c.args.row (fields_of c.args.fields.now))
