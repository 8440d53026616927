use Rattle.std.proofs.Common.{sym}
use Rattle.std.specs.Str.{bytes_eq}
use Rattle.std.proofs.lemmas.Bool.Decides.{not_from_Decides}
use Rattle.std.proofs.lemmas.Slice.Eq.{bytes_eq-Decides}
use Rattle.log_entry.proofs.Standing.{one_text}
use Rattle.log_entry.proofs.places.expect_at.Goals as goal

pub returns-else-eq : goal.returns-else-eq
returns-else-eq c = λ end stands.
    let found = c.in-Some.found.now in
    let got = c.in-Some.ensures.some in
    not_from_Decides (bytes_eq found c.args.text.now) (bytes_eq-Decides found c.args.text.now) (sym c.if-eq.ensures)
    (one_text found c.args.text.now c.args.bytes.now c.args.at _ end got.0 got.1 stands)
