use Rattle.std.proofs.Common.{length, subst, Err}
use Rattle.log_entry.specs.EntryText.{le64}
use Rattle.mail_submission.specs.Fits.{IsU64}
use Rattle.log_entry.specs.Reading.{Reads}
use Rattle.log_entry.specs.declared.places.Miss.{Miss}
use Rattle.log_entry.specs.declared.places.Miss.TheVariants as misses
use Rattle.log_entry.proofs.Standing.{first, behind, same}
use Rattle.log_entry.proofs.Forms.{one_le64}
use Rattle.log_entry.proofs.Parts.{the_fault}
use Rattle.log_entry.proofs.places.slice_at.Goals as goal

pub returns-in_err-size-clause-none : goal.returns-in_err-size-clause-none
returns-in_err-size-clause-none c = λ failed text end small stands.
    let e = c.in_err-size.field-0.0 in
    let none = subst (λ (f : Miss). Reads IsU64 le64 c.args.bytes.now c.args.at (Err f)) (the_fault c.from_residual.result e misses.NoForm c.from_residual.ensures.1 failed) c.in_err-size.ensures in
    let size = first (le64 (length text)) text c.args.bytes.now c.args.at end stands in
    none (length text) size.end small size.stands

pub returns-in-None-clause-none : goal.returns-in-None-clause-none
returns-in-None-clause-none c = λ failed text end small stands.
    let got = c.in_ok-size.ensures in
    c.in-None.ensures.none text end (same IsU64 le64 one_le64 c.in_ok-size.size (length text) text c.args.bytes.now c.args.at c.in_ok-size.start end got small stands)
    (behind IsU64 le64 one_le64 c.in_ok-size.size (length text) text c.args.bytes.now c.args.at c.in_ok-size.start end got small stands)
