use Rattle.httparse.proofs.GrammarLemmas.{ReadsRequest-append}
use Rattle.std.proofs.Common.{◌++◌}
use Rattle.http_head.proofs.laws.refused_heads_stay.Goals as goal

pub returns : goal.returns
returns c = λ text more fault r. record {
  head = r.head;
  rest = r.rest ++ more;
  whole = (ReadsRequest-append text r.head r.rest more r.whole.0, r.whole.1);
  checks_are = r.checks_are;
}
