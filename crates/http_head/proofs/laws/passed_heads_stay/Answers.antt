use Rattle.httparse.proofs.GrammarLemmas.{ReadsRequest-append}
use Rattle.http_head.proofs.laws.passed_heads_stay.Goals as goal

pub returns : goal.returns
returns c = λ text more target rest order p. record {
  head = p.head;
  whole = (ReadsRequest-append text p.head rest more p.whole.0, p.whole.1);
  checks_are = p.checks_are;
  target_is = p.target_is;
}
