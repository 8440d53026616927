use Rattle.std.proofs.Common.{◌∙◌, ap, sym}
use Rattle.mail_message.specs.Lines.{is_printable}
use Rattle.mail_message.proofs.Spelling.{printable_boundary}
use Rattle.mail_message.proofs.Bounds.{boundary_is}
use Rattle.mail_message.proofs.boundary.boundary_at.Goals as goal

pub returns-clause-value : goal.returns-clause-value
returns-clause-value c = c.in_ok-boundary.ensures ∙ sym (boundary_is c.args.text.now c.args.original.now c.in_ok-k.k c.in_ok-k.ensures.least c.in_ok-k.ensures.fits)

pub returns-clause-printable : goal.returns-clause-printable
returns-clause-printable c = ap is_printable c.in_ok-boundary.ensures ∙ printable_boundary c.in_ok-k.k c.in_ok-k.ensures.fits
